-- The answer to a question about a flight in transit, over files that may be hidden.
use Rattle.std.proofs.Common.{◌≡◌, ℕ, ◌<◌, List, length, Option, Some, None, sym, subst}
use Rattle.std.specs.Prelude.{IfSome}
use Rattle.std.specs.Option.{IsSomeAnd}
use Rattle.load_io.specs.Shelf.{Files, IsWhole}
use Rattle.hold_limits.specs.Problem.{Problem}
use Rattle.ldm_cpm.specs.Messages.{LoadMessage, HoldMessage}
use Rattle.plan_answers.specs.ReplyText.{long_text}
use Rattle.task_answers.specs.declared.reply.Outcome.{Outcome}
use Rattle.transit_answers.specs.Limits.{longest_message}
use Rattle.transit_answers.specs.Flights.{Transit, IsTransitIn}
use Rattle.transit_answers.specs.MessageFiles.{IsCpmRefusal, IsLdmRefusal, IsTransitRefusal}
use Rattle.transit_answers.specs.MessageFiles.IsCpmRefusal.{too_long as cpm_too_long}
use Rattle.transit_answers.specs.MessageFiles.IsLdmRefusal.{too_long as ldm_too_long}
use Rattle.transit_answers.specs.TransitReply.{IsTransitAnswer}
use Rattle.transit_answers.specs.declared.answers.TransitQuestion.{TransitQuestion}
use Rattle.plan_commands.specs.declared.ending.Halt.{Halt}
use Rattle.plan_commands.specs.declared.ending.Halt.TheVariants.{BadInput, ReadFault, NoMemory}
use Rattle.plan_commands.specs.Halts.{IfBadInput}
use Rattle.plan_commands.specs.Arguments.{FlightNames}
use Rattle.plan_commands.specs.Arguments.Job.{transit}
use Rattle.plan_commands.specs.Reply.{Holds, IsTaskFile, IsRefusedTask, IsCpmFile, IsRefusedCpm, IsLdmFile, IsRefusedLdm, IsAnswerOver, IsBadInputOver}
use Rattle.plan_commands.specs.Reply.AreRefusedInTransit.{wrong_task, wrong_cpm, wrong_ldm, no_transit}
use Rattle.plan_commands.specs.Reply.IsAnswer.{answered_in_transit}
use Rattle.plan_commands.specs.Reply.IsBadInput.{bad_transit}

-- What is read of a file ------------------------------------------------------------------------

held : (file : Option (List ℕ)) (bytes : List ℕ) (P : List ℕ → Type 0) → file ≡ Some bytes → P bytes → IsSomeAnd file P
held file bytes P is holds = subst (λ f. IsSomeAnd f P) (sym is) holds

-- what holds of the bytes of a file holds of the file
pub Holds-from_whole : (exposed : Option Files) (name bytes : List ℕ) (P : List ℕ → Type 0) → IsWhole exposed name bytes → P bytes
    → IfSome exposed (λ files. Holds files name P)
Holds-from_whole None name bytes P whole holds = tt
Holds-from_whole (Some files) name bytes P whole holds = held (files name) bytes P whole holds

-- and so does the refusal of its bytes
pub halt-from_whole : (halt : Halt) (exposed : Option Files) (name bytes : List ℕ) (P : List ℕ → List ℕ → Type 0) → IsWhole exposed name bytes
    → IfBadInput halt (λ line. P bytes line) → IfBadInput halt (λ line. IfSome exposed (λ files. Holds files name (λ b. P b line)))
halt-from_whole (BadInput line) exposed name bytes P whole refused = Holds-from_whole exposed name bytes (λ b. P b line.items) whole refused
halt-from_whole ReadFault exposed name bytes P whole refused = tt
halt-from_whole NoMemory exposed name bytes P whole refused = tt

pub long-cpm-refused : (line bytes : List ℕ) → line ≡ long_text → longest_message < length bytes → IsCpmRefusal bytes line
long-cpm-refused line bytes is long = subst (IsCpmRefusal bytes) (sym is) (cpm_too_long long)

pub long-ldm-refused : (line bytes : List ℕ) → line ≡ long_text → longest_message < length bytes → IsLdmRefusal bytes line
long-ldm-refused line bytes is long = subst (IsLdmRefusal bytes) (sym is) (ldm_too_long long)

-- Answers and refusals --------------------------------------------------------------------------

module _ (names : FlightNames) (question : TransitQuestion) where
  pub transit-answer : (exposed : Option Files) (t : Problem) (cpm : HoldMessage) (ldm : LoadMessage) (flight : Transit) (outcome : Outcome) (text : List ℕ)
      → IfSome exposed (λ files. IsTaskFile files names.task t) → IfSome exposed (λ files. IsCpmFile files names.cpm cpm)
      → IfSome exposed (λ files. IsLdmFile files names.ldm ldm) → IsTransitIn names.station t cpm ldm flight
      → IsTransitAnswer flight names.next question outcome text → IsAnswerOver exposed (transit names question) outcome text
  transit-answer None t cpm ldm flight outcome text task container load stated is = tt
  transit-answer (Some files) t cpm ldm flight outcome text task container load stated is =
      answered_in_transit names question flight outcome text
      (record { t = t; cpm = cpm; ldm = ldm; files = record { task = task; cpm = container; ldm = load }; stated = stated }) is

  pub wrong-task : (halt : Halt) (exposed : Option Files) → IfBadInput halt (λ line. IfSome exposed (λ files. IsRefusedTask files names.task line))
      → IfBadInput halt (IsBadInputOver exposed (transit names question))
  wrong-task (BadInput line) None wrong = tt
  wrong-task (BadInput line) (Some files) wrong = bad_transit names question line.items (wrong_task line.items wrong)
  wrong-task ReadFault exposed wrong = tt
  wrong-task NoMemory exposed wrong = tt

  pub wrong-cpm : (halt : Halt) (exposed : Option Files) (t : Problem) → IfSome exposed (λ files. IsTaskFile files names.task t)
      → IfBadInput halt (λ line. IfSome exposed (λ files. IsRefusedCpm files names.cpm line))
      → IfBadInput halt (IsBadInputOver exposed (transit names question))
  wrong-cpm (BadInput line) None t task wrong = tt
  wrong-cpm (BadInput line) (Some files) t task wrong = bad_transit names question line.items (wrong_cpm t line.items task wrong)
  wrong-cpm ReadFault exposed t task wrong = tt
  wrong-cpm NoMemory exposed t task wrong = tt

  pub wrong-ldm : (halt : Halt) (exposed : Option Files) (t : Problem) (cpm : HoldMessage) → IfSome exposed (λ files. IsTaskFile files names.task t)
      → IfSome exposed (λ files. IsCpmFile files names.cpm cpm) → IfBadInput halt (λ line. IfSome exposed (λ files. IsRefusedLdm files names.ldm line))
      → IfBadInput halt (IsBadInputOver exposed (transit names question))
  wrong-ldm (BadInput line) None t cpm task container wrong = tt
  wrong-ldm (BadInput line) (Some files) t cpm task container wrong = bad_transit names question line.items (wrong_ldm t cpm line.items task container wrong)
  wrong-ldm ReadFault exposed t cpm task container wrong = tt
  wrong-ldm NoMemory exposed t cpm task container wrong = tt

  pub wrong-transit : (halt : Halt) (exposed : Option Files) (t : Problem) (cpm : HoldMessage) (ldm : LoadMessage)
      → IfSome exposed (λ files. IsTaskFile files names.task t) → IfSome exposed (λ files. IsCpmFile files names.cpm cpm)
      → IfSome exposed (λ files. IsLdmFile files names.ldm ldm) → IfBadInput halt (IsTransitRefusal names.station t cpm ldm)
      → IfBadInput halt (IsBadInputOver exposed (transit names question))
  wrong-transit (BadInput line) None t cpm ldm task container load wrong = tt
  wrong-transit (BadInput line) (Some files) t cpm ldm task container load wrong =
      bad_transit names question line.items (no_transit t cpm ldm line.items (record { task = task; cpm = container; ldm = load }) wrong)
  wrong-transit ReadFault exposed t cpm ldm task container load wrong = tt
  wrong-transit NoMemory exposed t cpm ldm task container load wrong = tt
