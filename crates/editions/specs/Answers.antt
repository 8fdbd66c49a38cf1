-- what is to be done about an act, before anything is kept
use Rattle.std.specs.Prelude.{◌≡◌, ℕ, List, Bool, true, false, Option, None, Some, IfSome, IsSomeAnd}
use Rattle.aircraft_file.specs.Craft.{Craft}
use Rattle.flight_state.specs.declared.state.FlightState.{FlightState}
use Rattle.flight_state.specs.Effective.{effective}
use Rattle.flight_state.specs.Legs.{key_of}
use Rattle.flight_history.specs.declared.entry.Act.{Act}
use Rattle.flight_history.specs.declared.reply.Refusal.{Refusal}
use Rattle.flight_history.specs.Replies as replies
use Rattle.flight_history.specs.Replies.{AnswersWith}
use Rattle.flight_history.specs.Step.{step, after}
use Rattle.flight_history.specs.Verdict.{FirstThen, IsVerdict, Says, commits, first_of, reasons}
use Rattle.flight_row.specs.Loading.{aircraft_of}
use Rattle.editions.specs.Sound.{IsSound, IsLawfulAct}
use Rattle.editions.specs.declared.answers.Answer.{Answer}
use Rattle.editions.specs.declared.answers.Answer.TheVariants.{Refused, Told, Changed}

-- the verdict on an act at a flight with this aircraft
abbrev pub IsVerdictWith : Craft → FlightState → Act → Option Refusal → Type 0
IsVerdictWith a s act verdict = FirstThen (first_of (reasons s act)) (Says a s act) verdict

-- the answer to an act at a flight with this aircraft
abbrev pub IsAnswerWith : Craft → FlightState → Act → Answer → Type 0
IsAnswerWith a s act (Refused refusal) = IsVerdictWith a s act (Some refusal)
IsAnswerWith a s act (Told reply) =
    IsVerdictWith a s act None × (commits (Some s) act ≡ false) × (step s act ≡ s) × AnswersWith a s act reply
IsAnswerWith a s act (Changed next reply) =
    IsVerdictWith a s act None × (commits (Some s) act ≡ true) × (step s act ≡ next) × AnswersWith a next act reply

-- the answer to an act at a flight, or where none of its key is there
abbrev pub IsAnswer : List Craft → Bool → Option FlightState → Act → Answer → Type 0
IsAnswer fleet full s act (Refused refusal) = IsVerdict fleet full s act (Some refusal)
IsAnswer fleet full s act (Told reply) =
    IsVerdict fleet full s act None × (commits s act ≡ false) × (after fleet s act ≡ s)
    × IsSomeAnd s (λ t. replies.Answers fleet t act reply)
IsAnswer fleet full s act (Changed next reply) =
    IsVerdict fleet full s act None × (commits s act ≡ true) × (after fleet s act ≡ Some next)
    × replies.Answers fleet next act reply

-- what is changed is the flight of this key
abbrev pub KeepsKey : List ℕ → Answer → Type 0
KeepsKey key (Changed next reply) = key_of next.leg ≡ key
KeepsKey key _ = Unit {0}

-- a flight that is changed is sound
abbrev pub MakesSound : List Craft → Answer → Type 0
MakesSound fleet (Changed next reply) = IsSound fleet next
MakesSound fleet _ = Unit {0}

-- the flight has the leg and the effective figures of another
abbrev pub HasFiguresOf : FlightState → FlightState → Type 0
HasFiguresOf next s = (next.leg ≡ s.leg) × (effective next ≡ effective s)

-- a flight that is changed has the effective figures that it had
abbrev pub KeepsFigures : Option FlightState → Answer → Type 0
KeepsFigures s (Changed next reply) = IfSome s (HasFiguresOf next)
KeepsFigures s _ = Unit {0}

-- the act may come to the flight, where one is there
abbrev pub IsLawfulAt : List Craft → Option FlightState → Act → Type 0
IsLawfulAt fleet None act = Unit {0}
IsLawfulAt fleet (Some s) act = (a : Craft) → aircraft_of fleet s.leg ≡ Some a → IsLawfulAct a s act
