-- an office as its callers see it, and what its turns keep
use Rattle.std.specs.Prelude.{◌≡◌, ℕ, ◌-◌, List, [], ◌∷◌, ◌++◌, length, All, true, Option, None, Some}
use Rattle.base_words.specs.Faults.{Rose}
use Rattle.aircraft_file.specs.Craft.{Craft}
use Rattle.flight_state.specs.declared.state.FlightState.{FlightState}
use Rattle.flight_row.specs.Loading.{Reads}
use Rattle.keeper.specs.declared.row.KeptRow.{KeptRow}
use Rattle.keeper.specs.Tables.{Tables, AreAllRows}
use Rattle.flight_history.specs.declared.entry.Entry.{Entry}
use Rattle.flight_history.specs.declared.entry.Outcome.TheVariants as ended
use Rattle.flight_history.specs.declared.reply.Reply.{Reply}
use Rattle.flight_history.specs.declared.request.Request.{Request}
use Rattle.flight_history.specs.History.{Judged, IsJudged, IsJudgement, flight_at, flight_count, standing_of}
use Rattle.flight_history.specs.KeptRows.{AreKept, kept_at}
use Rattle.flight_history.specs.Plans.{InstallsAreBest}
use Rattle.flight_history.specs.Replies.{IsReply}
use Rattle.flight_history.specs.Verdict.{commits}
use Rattle.editions.specs.declared.flights.Flight.{Flight}
use Rattle.editions.specs.Acts.{IsActOf, key_asked}
use Rattle.editions.specs.Places.{states}
use Rattle.editions.specs.Sound.{IsKeptFlight}

-- the fleet, the rows and the flights that the office opened with, the history of all requests, and how many entries are spare
pub record Books : Type 0 where
  pub fleet : List Craft
  pub rows : List KeptRow
  pub opening : List FlightState
  pub history : List Entry
  pub spare : ℕ

-- the flights are the standings after the history
pub record AreStandings (fleet : List Craft) (opening : List FlightState) (history : List Judged) (flights : List FlightState) : Type 0 where
  pub each : (key : List ℕ) → flight_at flights key ≡ standing_of fleet opening history key
  pub count : length flights ≡ flight_count opening history

-- the bytes are a row of the flight; where there are none, there is no flight
abbrev pub IsRowOf : List Craft → Option (List ℕ) → Option FlightState → Type 0
IsRowOf fleet None None = Unit {0}
IsRowOf fleet (Some bytes) (Some s) = Reads fleet bytes s
IsRowOf fleet _ _ = ⊥

-- what is kept after a history is read as the standings after it
abbrev pub IsReadBack : List Craft → List KeptRow → List FlightState → List Judged → Type 0
IsReadBack fleet rows opening history =
    (key : List ℕ) → IsRowOf fleet (kept_at fleet rows opening history key) (standing_of fleet opening history key)

-- what an office keeps: its history with the verdicts on it, and the flights as that history leaves them
pub record IsOffice (fleet : List Craft) (rows : List KeptRow) (opening : List FlightState) (entries : List Entry) (flights : List Flight) : Type 0 where
  pub history : List Judged
  pub judgement : IsJudgement fleet opening entries history
  pub standings : AreStandings fleet opening history (states flights)
  pub sound : All (IsKeptFlight fleet) flights
  pub read_back : IsReadBack fleet rows opening history
  pub best : InstallsAreBest fleet opening [] history

-- tables that are exposed are those of the office's history
abbrev pub HasTables : Option Tables → Books → Type 0
HasTables exposed b =
    (history : List Judged) × IsJudgement b.fleet b.opening b.history history × AreKept b.fleet b.rows b.opening history exposed

-- the office knows a judgement of its history, by which each installed path was the best one
abbrev pub KnowsHistory : Books → Type 0
KnowsHistory b = (history : List Judged) × IsJudgement b.fleet b.opening b.history history × InstallsAreBest b.fleet b.opening [] history

-- a turn: one entry more, and the reply to it
pub record IsTurn (old new : Books) (faults faults' : ℕ) (desk : ℕ) (request : Request) (reply : Reply) : Type 0 where
  -- the history before, with the verdicts on it, and the entry with its own
  pub history : List Judged
  pub judgement : IsJudgement old.fleet old.opening old.history history
  pub j : Judged
  pub judged : IsJudged old.fleet old.opening history j
  pub added : new ≡ record old { history = old.history ++ j.entry ∷ []; spare = old.spare - 1 }
  pub by_desk : j.entry.desk ≡ desk
  pub of_key : j.entry.key ≡ key_asked request
  pub of_act : IsActOf old.fleet (standing_of old.fleet old.opening history j.entry.key) request j.entry.act
  pub replied : IsReply old.fleet old.opening history j reply
  -- the keeper failed only where the entry's verdict is yes and it would commit, and it counted that
  pub passed : j.entry.outcome ≡ ended.KeeperFailed → j.verdict ≡ None
  pub committed : j.entry.outcome ≡ ended.KeeperFailed → commits (standing_of old.fleet old.opening history j.entry.key) j.entry.act ≡ true
  pub cause : j.entry.outcome ≡ ended.KeeperFailed → Rose faults faults'

-- an office that is started, with the same fleet, on the tables that another one kept opens with the standings that were kept
abbrev pub OpensAsKept : Books → Books → Type 0
OpensAsKept old new = (held : Tables) → HasTables (Some held) old → AreAllRows (Some held) new.rows → new.fleet ≡ old.fleet
    → (history : List Judged) → IsJudgement old.fleet old.opening old.history history
    → (key : List ℕ) → flight_at new.opening key ≡ standing_of old.fleet old.opening history key
