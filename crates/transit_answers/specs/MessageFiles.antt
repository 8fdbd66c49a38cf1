-- What is read of the files with the inbound messages.
use Rattle.std.specs.Prelude.{◌≡◌, ℕ, ◌<◌, ◌≤◌, List, length, codes}
use Rattle.hold_limits.specs.Problem.{Problem}
use Rattle.ldm_cpm.specs.Messages.{LoadMessage, HoldMessage, IsLdm, IsCpm}
use Rattle.ldm_cpm.specs.Reading.{AreLdmLines, AreCpmLines, IsRefused}
use Rattle.ldm_cpm.specs.declared.fault.MsgFault.{MsgFault}
use Rattle.transit_tasks.specs.declared.fault.TransitFault.{TransitFault}
use Rattle.task_answers.specs.ReplyText.{long_text}
use Rattle.transit_answers.specs.Limits.{longest_message}
use Rattle.transit_answers.specs.TransitLines.{IsMessageFaultLine, IsTransitFaultLine}
use Rattle.transit_answers.specs.Flights.{IsTransitFault}

-- the bytes of a file are not too many, and are this container message and no other
pub record IsCpmIn (bytes : List ℕ) (m : HoldMessage) : Type 0 where
  pub short : length bytes ≤ longest_message
  pub is : IsCpm bytes m
  pub alone : (other : HoldMessage) → IsCpm bytes other → m ≡ other

-- the same of a load message
pub record IsLdmIn (bytes : List ℕ) (m : LoadMessage) : Type 0 where
  pub short : length bytes ≤ longest_message
  pub is : IsLdm bytes m
  pub alone : (other : LoadMessage) → IsLdm bytes other → m ≡ other

-- the bytes of a file with a container message are refused with this line
pub data IsCpmRefusal (bytes : List ℕ) : List ℕ → Type 0 where
  -- they are too many
  too_long : longest_message < length bytes → IsCpmRefusal bytes long_text
  -- they are no container message: this is their first fault
  no_message : (fault : MsgFault) (line : List ℕ) → length bytes ≤ longest_message → ((m : HoldMessage) → IsCpm bytes m → ⊥)
      → IsRefused AreCpmLines bytes fault → IsMessageFaultLine (codes "CPM") fault line → IsCpmRefusal bytes line

-- the same of a load message
pub data IsLdmRefusal (bytes : List ℕ) : List ℕ → Type 0 where
  too_long : longest_message < length bytes → IsLdmRefusal bytes long_text
  no_message : (fault : MsgFault) (line : List ℕ) → length bytes ≤ longest_message → ((m : LoadMessage) → IsLdm bytes m → ⊥)
      → IsRefused AreLdmLines bytes fault → IsMessageFaultLine (codes "LDM") fault line → IsLdmRefusal bytes line

-- at this station, the task and the two messages state no flight in transit, and are refused with this line
pub record IsTransitRefusal (station : List ℕ) (t : Problem) (cpm : HoldMessage) (ldm : LoadMessage) (line : List ℕ) : Type 0 where
  pub fault : TransitFault
  pub first : IsTransitFault station t cpm ldm fault
  pub told : IsTransitFaultLine fault line
