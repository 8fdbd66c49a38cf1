-- a request that was received and answered is one step
use Rattle.std.proofs.Common.{◌≡◌, ◌⊎◌, ◌||◌, ℕ, Bool, List, Option, IsTrue, IsFalse, sym, ap, ◌∙◌, subst}
use Rattle.base_words.specs.Faults.{Rose}
use Rattle.load_io.specs.Sink.{Appends, AppendsPart}
use Rattle.flight_history.specs.declared.entry.Entry.{Entry}
use Rattle.http_wire.specs.Hearing.{IsNext, to_come}
use Rattle.desk_answers.specs.declared.answer.Answer.{Answer}
use Rattle.desk_service.specs.Turns.{Setting}
use Rattle.desk_service.specs.Service.{Answered}
use Rattle.desk_http.specs.Received.{IsReceived}
use Rattle.desk_http.specs.declared.receiving.Received.{Received}
use Rattle.desk_http.specs.Steps.{Exchanges, Writes, Continues, IsLastOne, BreaksAnswer, bytes_of}

module _ {L : Type 0} (input_of output_of : L → Option (List ℕ)) (reads_of writes_of : L → ℕ) where
  -- what stays while a request is received
  pub record IsHeard (a b : L) : Type 0 where
    pub output : output_of b ≡ output_of a
    pub reads : reads_of b ≡ reads_of a
    pub writes : writes_of b ≡ writes_of a

  -- what stays while an answer is sent
  pub record IsSent (b c : L) : Type 0 where
    pub input : input_of c ≡ input_of b
    pub reads : reads_of c ≡ reads_of b

  module _ (s : Setting) (desk : ℕ) (full full' : Type 0) (seen seen' : List Entry) (heard heard' : List ℕ) (over : Bool) (a b c : L) (is_final : Bool)
      (it : Received) (answer : Answer) (closes : Bool) (r : IsReceived (to_come heard (input_of a)) (input_of b) heard' it)
      (x : Answered s desk full full' it.asked answer seen seen') (said : closes ≡ (it.last || is_final)) (h : IsHeard a b) (w : IsSent b c) where
    more : Exchanges s desk full full' seen seen' (to_come heard (input_of a)) (input_of c) heard'
    more = record {
      request = r.request;
      asked = it.asked;
      answer = answer;
      next = subst (λ (left : Option (List ℕ)). IsNext (to_come heard (input_of a)) left heard' r.request) (sym w.input) r.next;
      read = r.read;
      answered = x;
    }

    closing : closes ≡ (r.request.last || is_final)
    closing = said ∙ ap (λ (b : Bool). b || is_final) (sym r.last)

    wrote : Appends (output_of b) (output_of c) (bytes_of answer closes) → writes_of c ≡ writes_of b → Writes input_of output_of reads_of writes_of a c (bytes_of answer (r.request.last || is_final))
    wrote whole writes = record {
      written = subst (λ (o : Option (List ℕ)). Appends o (output_of c) (bytes_of answer (r.request.last || is_final))) h.output
          (subst (λ (b' : Bool). Appends (output_of b) (output_of c) (bytes_of answer b')) closing whole);
      reads = w.reads ∙ h.reads;
      writes = writes ∙ h.writes;
    }

    pub continues : Appends (output_of b) (output_of c) (bytes_of answer closes) → writes_of c ≡ writes_of b → IsFalse it.last ⊎ IsTrue is_final → over ≡ it.last
        → Continues input_of output_of reads_of writes_of s desk full full' seen seen' heard heard' over a c is_final
    unfolding more
    continues whole writes next over_is = record {
      more = more;
      wrote = wrote whole writes;
      next = subst (λ (last : Bool). IsFalse last ⊎ IsTrue is_final) (sym r.last) next;
      said = over_is ∙ sym r.last;
    }

    pub last_one : Appends (output_of b) (output_of c) (bytes_of answer closes) → writes_of c ≡ writes_of b → IsTrue it.last → IsFalse is_final
        → IsLastOne input_of output_of reads_of writes_of s desk full full' seen seen' heard heard' over a c is_final
    unfolding more
    last_one whole writes last before = record {
      more = more;
      wrote = wrote whole writes;
      last = subst IsTrue (sym r.last) last;
      before = before;
    }

    pub breaks : AppendsPart (output_of b) (output_of c) (bytes_of answer closes) → Rose (writes_of b) (writes_of c)
        → BreaksAnswer input_of output_of reads_of writes_of s desk full full' seen seen' heard heard' over a c is_final
    unfolding more
    breaks part failed = record {
      more = more;
      part = record {
        written = subst (λ (o : Option (List ℕ)). AppendsPart o (output_of c) (bytes_of answer (r.request.last || is_final))) h.output
            (subst (λ (b' : Bool). AppendsPart (output_of b) (output_of c) (bytes_of answer b')) closing part);
        reads = w.reads ∙ h.reads;
        failed = subst (λ (n : ℕ). Rose n (writes_of c)) h.writes failed;
      };
    }
