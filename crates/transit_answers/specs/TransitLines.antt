-- The lines with which a flight in transit is refused.
use Rattle.std.specs.Prelude.{◌≡◌, ℕ, List, [], ◌∷◌, codes}
use Rattle.mass_units.specs.Spelling.{number_text}
use Rattle.plan_text.specs.PlanText.{one_line}
use Rattle.telex.specs.declared.reading.TelexFault.{TelexFault}
use Rattle.telex.specs.declared.reading.TelexFault.TheVariants as telex
use Rattle.ldm_cpm.specs.declared.fault.MsgFault.{MsgFault}
use Rattle.ldm_cpm.specs.declared.fault.MsgFault.TheVariants as message
use Rattle.transit_tasks.specs.declared.fault.TransitFault.{TransitFault}
use Rattle.transit_tasks.specs.declared.fault.TransitFault.TheVariants as transit

-- a line that reports a fault of a message: which message, the kind of the fault, and a number
abbrev pub message_text : List ℕ → List ℕ → ℕ → List ℕ
message_text name kind n = one_line (name ∷ kind ∷ number_text n ∷ [])

abbrev pub telex_fault_number : TelexFault → ℕ
telex_fault_number (telex.BadByte at) = 1
telex_fault_number (telex.LineTooLong line) = 2
telex_fault_number telex.NoEnd = 3

-- the line for a fault of the message of this name; out of memory has none
abbrev pub IsMessageFaultLine : List ℕ → MsgFault → List ℕ → Type 0
IsMessageFaultLine name (message.Telex fault) line = line ≡ message_text name (codes "TELEX") (telex_fault_number fault)
IsMessageFaultLine name (message.Line n) line = line ≡ message_text name (codes "LINE") n
IsMessageFaultLine name message.NoMemory line = ⊥

abbrev pub transit_text : ℕ → List ℕ
transit_text n = one_line (codes "TRANSIT" ∷ number_text n ∷ [])

-- the line for the reason why a task and two messages state no flight in transit; out of memory has none
abbrev pub IsTransitFaultLine : TransitFault → List ℕ → Type 0
IsTransitFaultLine transit.Heads line = line ≡ transit_text 1
IsTransitFaultLine (transit.Totals mass sum) line = line ≡ transit_text 2
IsTransitFaultLine (transit.Place at) line = line ≡ transit_text 3
IsTransitFaultLine (transit.NoFit at) line = line ≡ transit_text 4
IsTransitFaultLine (transit.Clash at) line = line ≡ transit_text 5
IsTransitFaultLine (transit.Offered at) line = line ≡ transit_text 6
IsTransitFaultLine (transit.BulkShared at) line = line ≡ transit_text 7
IsTransitFaultLine (transit.Task fault) line = line ≡ transit_text 8
IsTransitFaultLine transit.NoMemory line = ⊥
