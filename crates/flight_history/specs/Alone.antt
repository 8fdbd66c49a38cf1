-- a flight without the others: what the office says to it follows from its own entries
use Rattle.std.specs.Prelude.{◌≡◌, ℕ, List, [], ◌∷◌, ◌++◌, map, filter, Bool, ◌&&◌, Option, None}
use Rattle.aircraft_file.specs.Craft.{Craft}
use Rattle.flight_state.specs.declared.state.FlightState.{FlightState}
use Rattle.flight_history.specs.declared.entry.Act.{Act}
use Rattle.flight_history.specs.declared.entry.Outcome.{Outcome}
use Rattle.flight_history.specs.declared.entry.Outcome.TheVariants.{NoMemory}
use Rattle.flight_history.specs.declared.reply.Reply.{Reply}
use Rattle.flight_history.specs.Standing.{standing}
use Rattle.flight_history.specs.Verdict.{IsVerdict}
use Rattle.flight_history.specs.History.{Judged, is_accepted, is_of, is_opening, is_full}
use Rattle.flight_history.specs.Replies.{IsReplyBy}

-- a judged entry, and whether it asks for a new flight of a full office
abbrev pub Marked : Type 0
Marked = Judged × Bool

abbrev pub marked : List FlightState → List Judged → Judged → Marked
marked opening history j = (j, is_opening j.entry.act && is_full opening history)

-- these entries, after a history, with their marks
abbrev pub marks : List FlightState → List Judged → List Judged → List Marked
marks opening history [] = []
marks opening history (j ∷ js) = marked opening history j ∷ marks opening (history ++ j ∷ []) js

-- the entries of one flight
abbrev pub own : List ℕ → List Marked → List Marked
own key ms = filter (λ (m : Marked). is_of key m.0) ms

-- the acts that were accepted among them
abbrev pub own_acts : List Marked → List Act
own_acts ms = map (λ (m : Marked). m.0.entry.act) (filter (λ (m : Marked). is_accepted m.0) ms)

-- the verdict on an entry of a flight that began so, by the flight's own entries before
abbrev pub IsJudgedAloneBy : Outcome → List Craft → Option FlightState → List Marked → Marked → Type 0
IsJudgedAloneBy NoMemory fleet opened before m = m.0.verdict ≡ None
IsJudgedAloneBy _ fleet opened before m = IsVerdict fleet m.1 (standing fleet opened (own_acts before)) m.0.entry.act m.0.verdict

abbrev pub AreJudgedAlone : List Craft → Option FlightState → List Marked → List Marked → Type 0
AreJudgedAlone fleet opened before [] = Unit {0}
AreJudgedAlone fleet opened before (m ∷ ms) =
    IsJudgedAloneBy m.0.entry.outcome fleet opened before m × AreJudgedAlone fleet opened (before ++ m ∷ []) ms

-- the reply to an entry of a flight, by the flight's own entries before
abbrev pub IsReplyAlone : List Craft → Option FlightState → List Marked → Marked → Reply → Type 0
IsReplyAlone fleet opened before m reply =
    IsReplyBy fleet (standing fleet opened (own_acts before)) m.0.entry.act m.0.entry.outcome m.0.verdict reply
