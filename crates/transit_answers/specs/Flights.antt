-- Flights in transit: what stays aboard of one, and why it is refused.
use Rattle.std.specs.Prelude.{◌≡◌, ◌≢◌, ℕ, Bool, false, not, List, Some, None, filter, sum_by, bytes_eq}
use Rattle.std.specs.Option.{option_map_or}
use Rattle.hold_limits.specs.Problem.{Problem}
use Rattle.ldm_cpm.specs.Messages.{Heading, Placing, LoadMessage, HoldMessage, total}
use Rattle.transit_tasks.specs.NewTask.{task_around}
use Rattle.transit_tasks.specs.TransitFaults.{transit_fault}
use Rattle.transit_tasks.specs.declared.fault.TransitFault.{TransitFault}
use Rattle.transit_tasks.specs.declared.fault.TransitFault.TheVariants.{Heads, Totals}

-- there is something on the position that goes on behind this station
abbrev pub goes_on : List ℕ → Placing → Bool
goes_on station p = option_map_or (λ (to : List ℕ). not (bytes_eq to station)) p.destination false

-- what stays aboard at this station, in the order of the message
abbrev pub staying_of : List ℕ → HoldMessage → List Placing
staying_of station cpm = filter (goes_on station) cpm.places

-- the mass that a container message has together
abbrev pub mass_of : HoldMessage → ℕ
mass_of cpm = sum_by (λ (p : Placing). p.mass.0) cpm.places

-- the messages are about one flight, and have one mass in all
pub record Agree (cpm : HoldMessage) (ldm : LoadMessage) : Type 0 where
  pub heading : ldm.heading ≡ cpm.heading
  pub mass : total ldm.board.loads ≡ mass_of cpm

-- a flight in transit: which flight it is, the task of placing what is offered, and what stays aboard
pub record Transit : Type 0 where
  pub heading : Heading
  pub task : Problem
  pub stay : List Placing

-- the task around what stays
abbrev pub around : Transit → Problem
around flight = task_around flight.task flight.stay

-- the flight that the task and a container message are about at this station
abbrev pub transit_at : List ℕ → Problem → HoldMessage → Transit
transit_at station t cpm = record { heading = cpm.heading; task = t; stay = staying_of station cpm }

-- The task and the two messages state this flight in transit: the messages agree, and what stays can stay.
pub record IsTransitIn (station : List ℕ) (t : Problem) (cpm : HoldMessage) (ldm : LoadMessage) (flight : Transit) : Type 0 where
  pub agree : Agree cpm ldm
  pub is : flight ≡ transit_at station t cpm
  pub right : transit_fault t (staying_of station cpm) ≡ None

-- They state none, and this is the first reason.
pub data IsTransitFault (station : List ℕ) (t : Problem) (cpm : HoldMessage) (ldm : LoadMessage) : TransitFault → Type 0 where
  -- the messages are about different flights
  of_heads : ldm.heading ≢ cpm.heading → IsTransitFault station t cpm ldm Heads
  -- they are about one flight, and have different masses
  of_totals : ldm.heading ≡ cpm.heading → total ldm.board.loads ≢ mass_of cpm
      → IsTransitFault station t cpm ldm (Totals (record { 0 = total ldm.board.loads }) (mass_of cpm))
  -- they agree, and what stays cannot stay
  of_staying : (fault : TransitFault) → Agree cpm ldm → transit_fault t (staying_of station cpm) ≡ Some fault
      → IsTransitFault station t cpm ldm fault
