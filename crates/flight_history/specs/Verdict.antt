-- what the office says to an act: yes, or the first reason against it
use Rattle.std.specs.Prelude.{if◌then◌else◌, ◌≡◌, ◌≢◌, ℕ, nat_le, nat_lt, List, [], ◌∷◌, Bool, true, false, not, ◌||◌, Option, None, Some, is_none, IsSomeAnd}
use Rattle.std.specs.Option.{option_or}
use Rattle.hold_limits.specs.Problem.{Problem}
use Rattle.aircraft_file.specs.Craft.{Craft}
use Rattle.trim.specs.declared.fault.TrimFault.TheVariants as trim
use Rattle.trim.specs.Refusals.{IsTaskOf, IsRefused}
use Rattle.trim.specs.Rules.{AreBroken}
use Rattle.flight_state.specs.declared.leg.Leg.{Leg}
use Rattle.flight_state.specs.declared.state.FlightState.{FlightState}
use Rattle.flight_state.specs.declared.state.Stage.{Stage}
use Rattle.flight_state.specs.declared.state.Stage.TheVariants.{Released, Departed}
use Rattle.flight_state.specs.Effective.{effective}
use Rattle.last_minute.specs.LateChange.{IsAllowed}
use Rattle.last_minute.specs.LateChange as late
use Rattle.last_minute.specs.declared.fault.LmcFault.TheVariants as lmc
use Rattle.flight_history.specs.declared.entry.Act.{Act}
use Rattle.flight_history.specs.declared.entry.Act.TheVariants.{NewFlight, Set, Take, Install, Release, Late, Reopen, Depart, Show}
use Rattle.flight_history.specs.declared.request.What.{What}
use Rattle.flight_history.specs.declared.request.What.TheVariants.{State}
use Rattle.flight_history.specs.declared.reply.Refusal.{Refusal}
use Rattle.flight_history.specs.declared.reply.Refusal.TheVariants as no
use Rattle.flight_row.specs.Loading.{aircraft_of}
use Rattle.flight_history.specs.Standing.{is_planned}

-- Tests -------------------------------------------------------------------------------------------

abbrev pub is_departed : Stage → Bool
is_departed Departed = true
is_departed _ = false

abbrev pub is_released : Stage → Bool
is_released Released = true
is_released _ = false

-- the sheet of the flight is issued
abbrev pub is_issued : Stage → Bool
is_issued stage = is_released stage || is_departed stage

-- the reason, where the test passes
abbrev pub refuse_if : Bool → Refusal → Option Refusal
refuse_if applies reason = if applies then Some reason else None

-- the first of these reasons that there is
abbrev pub first_of : List (Option Refusal) → Option Refusal
first_of [] = None
first_of (reason ∷ reasons) = option_or reason (first_of reasons)

-- Reasons in the stage, the edition and the plan ------------------------------------------------------

-- the flight has departed, or the edition is not its own
abbrev pub not_current : FlightState → ℕ → Option Refusal
not_current s edition = first_of (
    refuse_if (is_departed s.stage) no.Gone
    ∷ refuse_if (nat_lt edition s.edition) (no.Stale s.edition)
    ∷ refuse_if (nat_lt s.edition edition) (no.Ahead s.edition)
    ∷ [])

abbrev pub not_released : FlightState → Option Refusal
not_released s = refuse_if (not (is_released s.stage)) no.NotReleased

abbrev pub no_plan : FlightState → Option Refusal
no_plan s = refuse_if (is_none s.plan) no.NoPlanYet

-- the edition has come to 1,000,000,000
abbrev pub no_more_editions : FlightState → Option Refusal
no_more_editions s = refuse_if (nat_le 1000000000 s.edition) no.Spent

-- a document of a flight whose sheet is not issued, or that left without a plan
abbrev pub not_shown : FlightState → What → Option Refusal
not_shown s State = None
not_shown s _ = first_of (refuse_if (not (is_issued s.stage)) no.NotReleased ∷ no_plan s ∷ [])

-- of an act on a flight that is there, in the order in which they are tested
abbrev pub reasons : FlightState → Act → List (Option Refusal)
reasons s (NewFlight leg) = Some no.Exists ∷ []
reasons s (Set edition told) = not_current s edition ∷ no_more_editions s ∷ []
reasons s (Take edition) = not_current s edition ∷ []
reasons s (Install edition path same) = not_current s edition ∷ refuse_if (not same) no.OtherTask ∷ []
reasons s (Release edition) = not_current s edition ∷ no_plan s ∷ []
reasons s (Late edition change) = not_current s edition ∷ not_released s ∷ []
reasons s (Reopen edition) = not_current s edition ∷ not_released s ∷ no_more_editions s ∷ []
reasons s (Depart edition) = not_current s edition ∷ not_released s ∷ []
reasons s (Show what) = not_shown s what ∷ []

-- of a new flight where none of its key is there
abbrev pub reasons_to_open : List Craft → Bool → Leg → List (Option Refusal)
reasons_to_open fleet full leg = refuse_if (is_none (aircraft_of fleet leg)) no.NoAircraft ∷ refuse_if full no.OfficeFull ∷ []

-- Reasons in the figures ------------------------------------------------------------------------------

-- the task of the flight's effective figures
abbrev pub IsTaskFor : List Craft → FlightState → Problem → Type 0
IsTaskFor fleet s task = IsSomeAnd (aircraft_of fleet s.leg) (λ a. IsTaskOf a (effective s) task)

-- what the figures say to Take: there is a task, or there is none for this reason
abbrev pub SaysToTake : Craft → FlightState → Option Refusal → Type 0
SaysToTake a s None = (task : Problem) × IsTaskOf a (effective s) task
SaysToTake a s (Some (no.Trim fault)) = IsRefused a (effective s) fault × (fault ≢ trim.NoMemory)
SaysToTake a s (Some _) = ⊥

-- what they say to Release: the plan breaks no rule, or breaks these
abbrev pub SaysToRelease : Craft → FlightState → Option Refusal → Type 0
SaysToRelease a s None = IsSomeAnd s.plan (λ path. AreBroken a (effective s) path.items [])
SaysToRelease a s (Some (no.Broken rules)) = IsSomeAnd s.plan (λ path. AreBroken a (effective s) path.items rules.items) × (rules.items ≢ [])
SaysToRelease a s (Some _) = ⊥

-- what they say to a late change: it is taken, it is refused for this reason, or it is taken and there is no edition for it
abbrev pub SaysToLate : Craft → FlightState → Act → Option Refusal → Type 0
SaysToLate a s (Late edition change) None = IsAllowed a s change × (no_more_editions s ≡ None)
SaysToLate a s (Late edition change) (Some (no.Late fault)) = late.IsRefused a s change fault × (fault ≢ lmc.NoMemory)
SaysToLate a s (Late edition change) (Some reason) = IsAllowed a s change × (no_more_editions s ≡ Some reason)
SaysToLate a s _ _ = ⊥

-- what the figures say to an act; to most they say nothing
abbrev pub Says : Craft → FlightState → Act → Option Refusal → Type 0
Says a s (Take edition) said = SaysToTake a s said
Says a s (Release edition) said = SaysToRelease a s said
Says a s (Late edition change) said = SaysToLate a s (Late edition change) said
Says a s _ said = said ≡ None

-- The verdict -------------------------------------------------------------------------------------------

-- the reason if there is one, else what is said next
abbrev pub FirstThen : Option Refusal → (Option Refusal → Type 0) → Option Refusal → Type 0
FirstThen (Some reason) IsNext verdict = verdict ≡ Some reason
FirstThen None IsNext verdict = IsNext verdict

-- the verdict on an act, at a flight or where none of its key is there: the first reason against it, and None for yes
abbrev pub IsVerdict : List Craft → Bool → Option FlightState → Act → Option Refusal → Type 0
IsVerdict fleet full (Some s) act verdict =
    FirstThen (first_of (reasons s act)) (λ said. IsSomeAnd (aircraft_of fleet s.leg) (λ a. Says a s act said)) verdict
IsVerdict fleet full None (NewFlight leg) verdict = verdict ≡ first_of (reasons_to_open fleet full leg)
IsVerdict fleet full None _ verdict = verdict ≡ Some no.NoFlight

-- an accepted act that changes what is kept of its flight
abbrev pub commits : Option FlightState → Act → Bool
commits s (NewFlight leg) = true
commits s (Set edition told) = true
commits s (Take edition) = false
commits s (Install edition path same) = true
commits None (Release edition) = false
commits (Some s) (Release edition) = is_planned s.stage
commits s (Late edition change) = true
commits s (Reopen edition) = true
commits s (Depart edition) = true
commits s (Show what) = false
