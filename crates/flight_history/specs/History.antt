-- what a history says of flights, and what the office says to one more entry
use Rattle.std.specs.Prelude.{◌≡◌, ℕ, ◌+◌, nat_le, List, [], ◌∷◌, ◌++◌, length, map, filter, find, count_by, bytes_eq, Bool, true, false, ◌&&◌, Option, None, is_none}
use Rattle.aircraft_file.specs.Craft.{Craft}
use Rattle.flight_state.specs.declared.state.FlightState.{FlightState}
use Rattle.flight_state.specs.Legs.{key_of}
use Rattle.flight_history.specs.declared.entry.Act.{Act}
use Rattle.flight_history.specs.declared.entry.Act.TheVariants.{NewFlight}
use Rattle.flight_history.specs.declared.entry.Entry.{Entry}
use Rattle.flight_history.specs.declared.entry.Outcome.{Outcome}
use Rattle.flight_history.specs.declared.entry.Outcome.TheVariants.{Done, NoMemory}
use Rattle.flight_history.specs.declared.reply.Refusal.{Refusal}
use Rattle.flight_history.specs.Standing.{standing}
use Rattle.flight_history.specs.Verdict.{IsVerdict}

-- An entry with the verdict on it. Where memory ran out, the verdict is not asked for, and counts as yes
pub record Judged : Type 0 where
  pub entry : Entry
  pub verdict : Option Refusal

abbrev pub is_done : Outcome → Bool
is_done Done = true
is_done _ = false

abbrev pub is_accepted : Judged → Bool
is_accepted j = is_done j.entry.outcome && is_none j.verdict

abbrev pub is_of : List ℕ → Judged → Bool
is_of key j = bytes_eq j.entry.key key

-- the accepted acts of a flight, in order
abbrev pub acts_of : List ℕ → List Judged → List Act
acts_of key history = map (λ (j : Judged). j.entry.act) (filter (λ (j : Judged). is_of key j && is_accepted j) history)

-- the flight of this key among these
abbrev pub flight_at : List FlightState → List ℕ → Option FlightState
flight_at flights key = find (λ (s : FlightState). bytes_eq (key_of s.leg) key) flights

-- the standing of a flight after a history, where it is there
abbrev pub standing_of : List Craft → List FlightState → List Judged → List ℕ → Option FlightState
standing_of fleet opening history key = standing fleet (flight_at opening key) (acts_of key history)

abbrev pub is_opening : Act → Bool
is_opening (NewFlight leg) = true
is_opening _ = false

abbrev pub opens_flight : Judged → Bool
opens_flight j = is_accepted j && is_opening j.entry.act

-- how many flights there are after a history; 2,000 are as many as there may be
abbrev pub flight_count : List FlightState → List Judged → ℕ
flight_count opening history = length opening + count_by opens_flight history

abbrev pub is_full : List FlightState → List Judged → Bool
is_full opening history = nat_le 2000 (flight_count opening history)

-- the verdict is that of the office on the entry after a history
abbrev pub IsJudgedBy : Outcome → List Craft → List FlightState → List Judged → Judged → Type 0
IsJudgedBy NoMemory fleet opening history j = j.verdict ≡ None
IsJudgedBy _ fleet opening history j =
    IsVerdict fleet (is_full opening history) (standing_of fleet opening history j.entry.key) j.entry.act j.verdict

abbrev pub IsJudged : List Craft → List FlightState → List Judged → Judged → Type 0
IsJudged fleet opening history j = IsJudgedBy j.entry.outcome fleet opening history j

-- so is each of these, after a history and those before it
abbrev pub AreJudgedAfter : List Craft → List FlightState → List Judged → List Judged → Type 0
AreJudgedAfter fleet opening history [] = Unit {0}
AreJudgedAfter fleet opening history (j ∷ js) = IsJudged fleet opening history j × AreJudgedAfter fleet opening (history ++ j ∷ []) js

-- the entries of a history, each with the verdict of the office on it
pub record IsJudgement (fleet : List Craft) (opening : List FlightState) (entries : List Entry) (history : List Judged) : Type 0 where
  pub entries_are : entries ≡ map (λ (j : Judged). j.entry) history
  pub judged : AreJudgedAfter fleet opening [] history
