-- one step of a connection: a request and its answer, or its end
use Rattle.std.specs.Prelude.{◌≡◌, ◌⊎◌, ◌||◌, ℕ, Bool, IsTrue, IsFalse, List, [], Option, None, Some, IfSome, Result}
use Rattle.base_words.specs.Faults.{Rose}
use Rattle.load_io.specs.Sink.{Appends, AppendsPart}
use Rattle.flight_history.specs.declared.entry.Entry.{Entry}
use Rattle.http_wire.specs.Answer.{answer_bytes}
use Rattle.http_wire.specs.Hearing.{IsNext, IsBrokenOff, to_come}
use Rattle.http_wire.specs.Requests.{Request, Refuses}
use Rattle.http_wire.specs.declared.refusals.Refusal.{Refusal}
use Rattle.desk_answers.specs.declared.answer.Answer.{Answer}
use Rattle.desk_answers.specs.declared.errors.PlainError.{PlainError}
use Rattle.desk_requests.specs.declared.asked.Asked.{Asked}
use Rattle.desk_service.specs.Turns.{Setting}
use Rattle.desk_service.specs.Exchanges.{IsRead}
use Rattle.desk_service.specs.Service.{Answered}
use Rattle.desk_http.specs.Served.{refusal_bytes}
use Rattle.desk_http.specs.declared.ending.ConnEnd.{ConnEnd}
use Rattle.desk_http.specs.declared.ending.ConnEnd.TheVariants as end

-- the bytes of an answer
abbrev pub bytes_of : Answer → Bool → List ℕ
bytes_of answer closes = answer_bytes answer.status answer.json closes answer.body

-- the next request of the input was heard and answered
pub record Exchanges (s : Setting) (desk : ℕ) (full full' : Type 0) (seen seen' : List Entry) (input left : Option (List ℕ)) (heard : List ℕ) : Type 0 where
  pub request : Request
  pub asked : Result Asked PlainError
  pub answer : Answer
  pub next : IsNext input left heard request
  pub read : IsRead request asked
  pub answered : Answered s desk full full' asked answer seen seen'

module _ {L : Type 0} (input_of output_of : L → Option (List ℕ)) (reads_of writes_of : L → ℕ) where
  -- what was written to the link, in which nothing failed
  pub record Writes (a b : L) (bytes : List ℕ) : Type 0 where
    pub written : Appends (output_of a) (output_of b) bytes
    pub reads : reads_of b ≡ reads_of a
    pub writes : writes_of b ≡ writes_of a

  -- a write failed: a proper first part was written
  pub record WritesPart (a b : L) (bytes : List ℕ) : Type 0 where
    pub written : AppendsPart (output_of a) (output_of b) bytes
    pub reads : reads_of b ≡ reads_of a
    pub failed : Rose (writes_of a) (writes_of b)

  -- what a read that failed leaves: the bytes that were taken hold no whole request
  pub record BreaksOff (a b : L) (heard : List ℕ) : Type 0 where
    pub broken : IsBrokenOff (to_come heard (input_of a)) (input_of b)
    pub output : output_of b ≡ output_of a
    pub failed : Rose (reads_of a) (reads_of b)
    pub writes : writes_of b ≡ writes_of a

  module _ (s : Setting) (desk : ℕ) (full full' : Type 0) (seen seen' : List Entry) (heard heard' : List ℕ) (over : Bool) (a b : L) (is_final : Bool) where
    -- one more request and its answer
    abbrev pub OneMore : Type 0
    OneMore = Exchanges s desk full full' seen seen' (to_come heard (input_of a)) (input_of b) heard'

    -- the request was answered, and the connection goes on, or this was the most that it may have
    pub record Continues : Type 0 where
      pub more : OneMore
      pub wrote : Writes a b (bytes_of more.answer (more.request.last || is_final))
      pub next : IsFalse more.request.last ⊎ IsTrue is_final
      pub said : over ≡ more.request.last

    -- the request was a last one
    pub record IsLastOne : Type 0 where
      pub more : OneMore
      pub wrote : Writes a b (bytes_of more.answer (more.request.last || is_final))
      pub last : IsTrue more.request.last
      pub before : IsFalse is_final

    -- the request was answered, and its answer was not written whole
    pub record BreaksAnswer : Type 0 where
      pub more : OneMore
      pub part : WritesPart a b (bytes_of more.answer (more.request.last || is_final))

    -- the input is at its end
    pub record IsAtEnd : Type 0 where
      pub none : IfSome (to_come heard (input_of a)) (λ bytes. bytes ≡ [])
      pub wrote : Writes a b []
      pub same : seen' ≡ seen

    -- the input is refused, and that was answered
    pub record IsRefused (reason : Refusal) : Type 0 where
      pub refused : IfSome (to_come heard (input_of a)) (λ bytes. Refuses bytes reason)
      pub wrote : Writes a b (refusal_bytes reason)
      pub same : seen' ≡ seen

    -- the input is refused, and the answer was not written whole
    pub record BreaksRefusal : Type 0 where
      pub reason : Refusal
      pub refused : IfSome (to_come heard (input_of a)) (λ bytes. Refuses bytes reason)
      pub part : WritesPart a b (refusal_bytes reason)
      pub same : seen' ≡ seen

    -- what one step does, by how the connection ended, if it did
    abbrev pub Steps : Option ConnEnd → Type 0
    Steps None = Continues
    Steps (Some end.Ended) = IsAtEnd ⊎ IsLastOne
    Steps (Some (end.Refused reason)) = IsRefused reason
    Steps (Some end.ReadFault) = BreaksOff a b heard × (seen' ≡ seen)
    Steps (Some end.WriteFault) = BreaksAnswer ⊎ BreaksRefusal
    Steps (Some end.Served) = ⊥
