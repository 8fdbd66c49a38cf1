-- what it is that a link is served
use Rattle.std.specs.Prelude.{◌≡◌, ◌⊎◌, ◌<◌, ◌≤◌, ℕ, true, List, [], ◌∷◌, ◌++◌, length, take, All, Option, Some, IfSome}
use Rattle.base_words.specs.Faults.{Rose}
use Rattle.load_io.specs.Sink.{Appends}
use Rattle.flight_history.specs.declared.entry.Entry.{Entry}
use Rattle.http_wire.specs.Answer.{answer_bytes}
use Rattle.http_wire.specs.Connection.{Ending, AreRequests, BeginsWithAll}
use Rattle.http_wire.specs.Connection as wire
use Rattle.http_wire.specs.Hearing.{IsBrokenOff}
use Rattle.http_wire.specs.Refusals.{status_of, body_of}
use Rattle.http_wire.specs.Requests.{BeginsWith, Refuses}
use Rattle.http_wire.specs.declared.refusals.Refusal.{Refusal}
use Rattle.desk_service.specs.Places.{GoesOn}
use Rattle.desk_service.specs.Turns.{Setting, Placed, placed}
use Rattle.desk_service.specs.Exchanges.{Exchange, IsLate}
use Rattle.desk_service.specs.Service.{Service, requests_of, entries_of, most_requests, sent, sent_at}
use Rattle.desk_http.specs.declared.ending.ConnEnd.{ConnEnd}
use Rattle.desk_http.specs.declared.ending.ConnEnd.TheVariants as end

-- the answer to what is refused, which ends the connection
abbrev pub refusal_bytes : Refusal → List ℕ
refusal_bytes reason = answer_bytes (status_of reason) true true (body_of reason)

-- what is sent behind the answers to the requests
abbrev pub last_words : Ending → List ℕ
last_words wire.Ended = []
last_words (wire.RefusedFor reason) = refusal_bytes reason
last_words wire.Served = []

-- the input begins with these requests, none of them a last one, and the next one is that of the last of these exchanges; these
-- are the bytes of the answers before, and of the last one
pub record AnswersLast (input : Option (List ℕ)) (exchanges : List Exchange) (before last : List ℕ) : Type 0 where
  pub earlier : List Exchange
  pub x : Exchange
  pub all : exchanges ≡ earlier ++ x ∷ []
  pub asked : IfSome input (λ bytes. (now : List ℕ) × (left : List ℕ) × BeginsWithAll bytes (requests_of earlier) now × BeginsWith now x.request left)
  pub before_is : before ≡ sent earlier
  pub last_is : last ≡ sent_at (length earlier) x

-- the input begins with the requests of these exchanges, none of them a last one, and then it is refused; these are the bytes of
-- the answers before, and of the refusal
pub record AnswersRefused (input : Option (List ℕ)) (exchanges : List Exchange) (before last : List ℕ) : Type 0 where
  pub reason : Refusal
  pub refused : IfSome input (λ bytes. (now : List ℕ) × BeginsWithAll bytes (requests_of exchanges) now × Refuses now reason)
  pub before_is : before ≡ sent exchanges
  pub last_is : last ≡ refusal_bytes reason

module _ {L : Type 0} (input_of output_of : L → Option (List ℕ)) (reads_of writes_of : L → ℕ) where
  -- the requests are those of the input, which end so, and all that is due was sent
  pub record ToTheEnd (a b : L) (exchanges : List Exchange) (ending : Ending) : Type 0 where
    pub asked : IfSome (input_of a) (λ input. (left : List ℕ) × AreRequests most_requests input (requests_of exchanges) ending left)
    pub written : Appends (output_of a) (output_of b) (sent exchanges ++ last_words ending)
    pub reads : reads_of b ≡ reads_of a
    pub writes : writes_of b ≡ writes_of a

  -- a read failed: the requests are the whole ones among the bytes that were taken, and all answers to them were sent
  pub record NotHeard (a b : L) (exchanges : List Exchange) : Type 0 where
    pub failed : Rose (reads_of a) (reads_of b)
    pub asked : IfSome (input_of a) (λ input. (now : List ℕ) × BeginsWithAll input (requests_of exchanges) now × IsBrokenOff (Some now) (input_of b))
    pub written : Appends (output_of a) (output_of b) (sent exchanges)
    pub writes : writes_of b ≡ writes_of a

  -- a write failed: the answers before the last one were sent, and a proper first part of the last one
  pub record NotSent (a b : L) (exchanges : List Exchange) : Type 0 where
    pub failed : Rose (writes_of a) (writes_of b)
    pub before : List ℕ
    pub last : List ℕ
    pub due : AnswersLast (input_of a) exchanges before last ⊎ AnswersRefused (input_of a) exchanges before last
    pub part : ℕ
    pub proper : part < length last
    pub written : Appends (output_of a) (output_of b) (before ++ take part last)
    pub reads : reads_of b ≡ reads_of a

  -- how a connection ended
  abbrev pub EndsAs : ConnEnd → L → L → List Exchange → Type 0
  EndsAs end.Ended a b exchanges = ToTheEnd a b exchanges wire.Ended
  EndsAs (end.Refused reason) a b exchanges = ToTheEnd a b exchanges (wire.RefusedFor reason)
  EndsAs end.ReadFault a b exchanges = NotHeard a b exchanges
  EndsAs end.WriteFault a b exchanges = NotSent a b exchanges
  EndsAs end.Served a b exchanges = ToTheEnd a b exchanges wire.Served

  -- the link was served from a, as it was at its beginning, to b, with these entries in this history. An entry may be lacking only
  -- where there is no room for it
  pub record Served (s : Setting) (full : Type 0) (desk : ℕ) (history : List Entry) (a b : L) (entries : List Placed) (ending : ConnEnd) : Type 0 where
    pub exchanges : List Exchange
    pub service : Service s desk history exchanges
    pub lacks : (service.late ≡ []) ⊎ full
    pub made : entries ≡ entries_of exchanges
    pub few : length exchanges ≤ most_requests
    pub ends : EndsAs ending a b exchanges

  -- what a connection does to the history that its desk has seen: the link is served in it, and its entries are those of the desk. Where
  -- there was no room for an entry before the connection, each request that needs one lacks it
  pub record Connected (s : Setting) (full_before full : Type 0) (desk : ℕ) (seen seen' : List Entry) (a b : L) (ending : ConnEnd) : Type 0 where
    pub entries : List Placed
    pub on : GoesOn seen seen'
    pub own : placed desk seen' ≡ placed desk seen ++ entries
    pub served : Served s full desk seen' a b entries ending
    pub stuck : full_before → All (IsLate s desk seen') served.exchanges
