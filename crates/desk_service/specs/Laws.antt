-- what the definitions of service have to fulfil
use Rattle.std.specs.Prelude.{◌≡◌, ◌≢◌, ◌<◌, ◌≤◌, ◌*◌, ◌==◌, ℕ, Bool, true, List, length, map, count_by, All, Some, IsSomeAnd}
use Rattle.std.specs.List.{list_any}
use Rattle.hold_limits.specs.Placement.{IsBest}
use Rattle.hold_limits.specs.Problem.{Problem}
use Rattle.flight_state.specs.declared.state.FlightState.{FlightState}
use Rattle.flight_history.specs.History.{Judged, IsJudged, IsJudgement, standing_of}
use Rattle.flight_history.specs.Verdict.{IsTaskFor}
use Rattle.flight_history.specs.declared.entry.Entry.{Entry}
use Rattle.flight_history.specs.declared.reply.Refusal.TheVariants as no
use Rattle.desk_answers.specs.declared.answer.Answer.{Answer}
use Rattle.desk_service.specs.declared.searches.Search.{Search}
use Rattle.desk_service.specs.Places.{GoesOn, Stands}
use Rattle.desk_service.specs.Turns.{Setting, Placed}
use Rattle.desk_service.specs.Searches.{path_of}
use Rattle.desk_service.specs.Exchanges.{Exchange, AnswersTaken, InstallsPlan, is_installed}
use Rattle.desk_service.specs.Service.{Service, entries_of}
use Rattle.desk_service.specs.Alone.{failures}

-- the answer of the exchange has this status
abbrev pub has_status : ℕ → Exchange → Bool
has_status status x = x.answer.status == status

-- the entries without their places
abbrev pub unplaced : List Placed → List Entry
unplaced made = map (λ (one : Placed). one.1) made

-- what is a service in a history is one in each that continues it
abbrev pub StaysService : Type 0
StaysService = (s : Setting) (desk : ℕ) (history longer : List Entry) (exchanges : List Exchange)
    → Service s desk history exchanges → GoesOn history longer → Service s desk longer exchanges

-- an exchange makes two entries at most
abbrev pub MakesTwoAtMost : Type 0
MakesTwoAtMost = (s : Setting) (desk : ℕ) (history : List Entry) (exchanges : List Exchange)
    → Service s desk history exchanges → length (entries_of exchanges) ≤ 2 * length exchanges

-- where some answer is 507, there are fewer
abbrev pub MakesFewerWithoutRoom : Type 0
MakesFewerWithoutRoom = (s : Setting) (desk : ℕ) (history : List Entry) (exchanges : List Exchange)
    → Service s desk history exchanges → list_any (has_status 507) exchanges ≡ true → length (entries_of exchanges) < 2 * length exchanges

-- each answer 503 has an entry that was not kept because the keeper failed
abbrev pub FailsWithTheKeeper : Type 0
FailsWithTheKeeper = (s : Setting) (desk : ℕ) (history : List Entry) (exchanges : List Exchange)
    → Service s desk history exchanges → count_by (has_status 503) exchanges ≤ failures (unplaced (entries_of exchanges))

-- after a history, this is the task of the flight's effective figures, at this edition
pub record IsTaskAt (s : Setting) (history : List Judged) (key : List ℕ) (edition : ℕ) (task : Problem) : Type 0 where
  pub flight : FlightState
  pub stands : standing_of s.fleet s.opening history key ≡ Some flight
  pub edition_is : flight.edition ≡ edition
  pub of_figures : IsTaskFor s.fleet flight task

-- an installed plan is the best one for the flight's figures at the edition that was named, whatever came between the taking
-- of its task and its own turn
abbrev pub InstallsTheBest : Type 0
InstallsTheBest = (s : Setting) (desk : ℕ) (history : List Entry) (key : List ℕ) (edition : ℕ) (search : Search) (entries : List Placed) (answer : Answer)
    → (taken : AnswersTaken s desk history key edition search entries answer)
    → (plan : InstallsPlan s desk history key edition search taken.task taken.rest answer) → is_installed plan.reply ≡ true
    → IsTaskAt s plan.turn.turn.history key edition taken.task
    × IsSomeAnd (path_of plan.found.plan) (IsBest taken.task)

-- the office's verdict on the entry at its place is not that its plan is for another task
abbrev pub IsForItsTask : Setting → List Entry → Placed → Type 0
IsForItsTask s history made = (before : List Entry) → Stands history made.0 before made.1
    → (judged : List Judged) → IsJudgement s.fleet s.opening before judged
    → (j : Judged) → j.entry ≡ made.1 → IsJudged s.fleet s.opening judged j → j.verdict ≢ Some no.OtherTask

-- nor is it on any entry of a service
abbrev pub NeverOtherTask : Type 0
NeverOtherTask = (s : Setting) (desk : ℕ) (history : List Entry) (exchanges : List Exchange)
    → Service s desk history exchanges → All (IsForItsTask s history) (entries_of exchanges)
