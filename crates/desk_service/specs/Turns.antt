-- turns of desks at an office, by its history alone
use Rattle.std.specs.Prelude.{◌≡◌, ◌≢◌, true, ℕ, List, [], ◌∷◌, ◌++◌, All, None}
use Rattle.aircraft_file.specs.Craft.{Craft}
use Rattle.flight_state.specs.declared.state.FlightState.{FlightState}
use Rattle.flight_history.specs.declared.entry.Entry.{Entry}
use Rattle.flight_history.specs.declared.entry.Outcome.TheVariants.{KeeperFailed}
use Rattle.flight_history.specs.declared.reply.Reply.{Reply}
use Rattle.flight_history.specs.declared.request.Request.{Request}
use Rattle.flight_history.specs.Asking.{key_asked}
use Rattle.flight_history.specs.History.{Judged, IsJudged, IsJudgement, standing_of}
use Rattle.flight_history.specs.Replies.{IsReply}
use Rattle.flight_history.specs.Verdict.{commits}
use Rattle.editions.specs.Acts.{IsActOf}
use Rattle.editions.specs.Books.{Books}
use Rattle.desk_service.specs.Places as places
use Rattle.desk_service.specs.Places.{Stands}

-- what an office opened with: its fleet and its flights
pub record Setting : Type 0 where
  pub fleet : List Craft
  pub opening : List FlightState

abbrev pub setting_of : Books → Setting
setting_of b = record { fleet = b.fleet; opening = b.opening }

-- an entry with its place in a history
abbrev pub Placed : Type 0
Placed = ℕ × Entry

-- the entries of a desk with their places in a history
abbrev pub placed : ℕ → List Entry → List Placed
placed desk history = places.placed (λ (entry : Entry). entry.desk) desk history

-- A turn of a desk after these entries: the request, its entry, and the reply to it. The entry has the verdict of the office, and
-- the reply is the one that is due by it. The keeper failed only where the verdict is yes and the act would commit
pub record IsTurnAfter (s : Setting) (before : List Entry) (desk : ℕ) (request : Request) (entry : Entry) (reply : Reply) : Type 0 where
  -- the entries before, with the verdicts on them, and the entry with its own
  pub history : List Judged
  pub judgement : IsJudgement s.fleet s.opening before history
  pub j : Judged
  pub judged : IsJudged s.fleet s.opening history j
  pub of_entry : entry ≡ j.entry
  pub by_desk : j.entry.desk ≡ desk
  pub of_key : j.entry.key ≡ key_asked request
  pub of_act : IsActOf s.fleet (standing_of s.fleet s.opening history j.entry.key) request j.entry.act
  pub replied : IsReply s.fleet s.opening history j reply
  pub passed : j.entry.outcome ≡ KeeperFailed → j.verdict ≡ None
  pub committed : j.entry.outcome ≡ KeeperFailed → commits (standing_of s.fleet s.opening history j.entry.key) j.entry.act ≡ true

-- the entry of a request stands at its place in the history, and this is the reply to it there
pub record IsMade (s : Setting) (desk : ℕ) (history : List Entry) (request : Request) (made : Placed) (reply : Reply) : Type 0 where
  pub before : List Entry
  pub stands : Stands history made.0 before made.1
  pub turn : IsTurnAfter s before desk request made.1 reply

-- what a call that is answered does to the history that its desk has seen: entries of other desks alone come before its own
pub record Calls (s : Setting) (desk : ℕ) (request : Request) (reply : Reply) (seen seen' : List Entry) : Type 0 where
  pub between : List Entry
  pub others : All (λ (entry : Entry). entry.desk ≢ desk) between
  pub entry : Entry
  pub turn : IsTurnAfter s (seen ++ between) desk request entry reply
  pub grown : seen' ≡ (seen ++ between) ++ entry ∷ []
