-- the service of a desk: exchanges one after another
use Rattle.std.specs.Prelude.{◌≡◌, ◌⊎◌, ◌+◌, ◌==◌, ◌||◌, ℕ, Bool, List, [], ◌∷◌, ◌++◌, map, flat_map, All, Result}
use Rattle.flight_history.specs.declared.entry.Entry.{Entry}
use Rattle.http_wire.specs.Answer.{answer_bytes}
use Rattle.http_wire.specs.Requests as http
use Rattle.desk_answers.specs.declared.answer.Answer.{Answer}
use Rattle.desk_answers.specs.declared.errors.PlainError.{PlainError}
use Rattle.desk_requests.specs.declared.asked.Asked.{Asked}
use Rattle.desk_service.specs.declared.searches.Search.{Search}
use Rattle.desk_service.specs.Places.{GoesOn}
use Rattle.desk_service.specs.Turns.{Setting, Placed, placed}
use Rattle.hold_limits.specs.Problem.{Problem}
use Rattle.desk_service.specs.Exchanges.{Exchange, IsServed, IsLate, Answers, AnswersLate, AnswersTask, LacksRoom}

-- the exchanges of a desk in a history: from the first that lacked an entry on, each that needs one lacks it
pub record Service (s : Setting) (desk : ℕ) (history : List Entry) (exchanges : List Exchange) : Type 0 where
  pub early : List Exchange
  pub late : List Exchange
  pub all : exchanges ≡ early ++ late
  pub served : All (IsServed s desk history) early
  pub lacking : All (IsLate s desk history) late

-- the requests, and the entries in order
abbrev pub requests_of : List Exchange → List http.Request
requests_of exchanges = map (λ (x : Exchange). x.request) exchanges

abbrev pub entries_of : List Exchange → List Placed
entries_of exchanges = flat_map (λ (x : Exchange). x.entries) exchanges

-- the most requests of a connection
abbrev pub most_requests : ℕ
most_requests = 1000

-- the connection ends after the exchange at this place, counted from 0
abbrev pub is_last_at : ℕ → Exchange → Bool
is_last_at place x = x.request.last || (place + 1 == most_requests)

-- the bytes of the answer at this place
abbrev pub sent_at : ℕ → Exchange → List ℕ
sent_at place x = answer_bytes x.answer.status x.answer.json (is_last_at place x) x.answer.body

-- the bytes of all answers, from this place on
abbrev pub sent_from : ℕ → List Exchange → List ℕ
sent_from place [] = []
sent_from place (x ∷ xs) = sent_at place x ++ sent_from (place + 1) xs

abbrev pub sent : List Exchange → List ℕ
sent exchanges = sent_from 0 exchanges

-- What answering one request does to the history that the desk has seen: it makes the request's entries, and the answer is that at
-- their places; or there was no room for one of them, and so it is wherever there was none before
pub record Answered (s : Setting) (desk : ℕ) (full full' : Type 0) (it : Result Asked PlainError) (answer : Answer) (seen seen' : List Entry) : Type 0 where
  pub entries : List Placed
  pub on : GoesOn seen seen'
  pub own : placed desk seen' ≡ placed desk seen ++ entries
  pub is : Answers s desk seen' it entries answer ⊎ (full' × AnswersLate s desk seen' it entries answer)
  pub stuck : full → AnswersLate s desk seen' it entries answer

-- what planning does to that history once the task was taken
pub record Planned (s : Setting) (desk : ℕ) (full : Type 0) (key : List ℕ) (edition : ℕ) (search : Search) (task : Problem) (answer : Answer) (seen seen' : List Entry) : Type 0 where
  pub rest : List Placed
  pub on : GoesOn seen seen'
  pub own : placed desk seen' ≡ placed desk seen ++ rest
  pub is : AnswersTask s desk seen' key edition search task rest answer ⊎ (full × LacksRoom search task rest answer)
