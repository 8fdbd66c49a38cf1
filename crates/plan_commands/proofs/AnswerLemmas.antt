-- The answers to commands, over files that may be hidden.
use Rattle.std.proofs.Common.{ℕ, List, Option, Some, None}
use Rattle.std.specs.Prelude.{IfSome, MatchOption}
use Rattle.load_io.specs.Shelf.{Files}
use Rattle.hold_limits.specs.Problem.{Problem}
use Rattle.stop_tasks.specs.Stops.{Stops}
use Rattle.certificate.specs.declared.parts.Certificate.{Certificate}
use Rattle.task_answers.specs.declared.reply.Outcome.{Outcome}
use Rattle.plan_commands.specs.declared.ending.Halt.{Halt}
use Rattle.plan_commands.specs.declared.ending.Halt.TheVariants.{BadInput, ReadFault, NoMemory}
use Rattle.plan_commands.specs.Halts.{IfBadInput}
use Rattle.plan_commands.specs.Arguments.Job.{place, check, best, why, check_any, priced, check_priced, stops, generate}
use Rattle.plan_answers.specs.NearReply.{IsPlacing, IsJudgement}
use Rattle.plan_answers.specs.TreeReply.{IsTreePlacing}
use Rattle.plan_reasons.specs.Explanation.{IsExplanation}
use Rattle.priced_certificate.specs.declared.parts.PricedCertificate.{PricedCertificate}
use Rattle.plan_answers.specs.PricedReply.{IsPricedPlacing, IsPricedJudgement}
use Rattle.plan_answers.specs.StopReply.{IsStopPlacing}
use Rattle.plan_answers.specs.AnyReply.{AnyListed, IsAnyJudgement}
use Rattle.plan_commands.specs.Reply.{IsTaskFile, IsRefusedTask, IsCertificateFile, IsRefusedCertificate, IsAnyFile, IsRefusedAny, IsPricedFile, IsRefusedPriced, IsStopsFile, IsRefusedStopsFile, IsAnswer, IsBadInput, IsAnswerOver, IsBadInputOver}
use Rattle.plan_answers.specs.SummaryReply.{IsSummary}
use Rattle.plan_commands.specs.Reply.IsAnswer.{placed, judged, placed_by_trees, explained, any_judged, placed_with_prices, prices_judged, placed_over_sectors, summed}
use Rattle.plan_commands.specs.Reply.IsBadInput.{bad_task, bad_checked_task, bad_certificate, bad_best_task, bad_task_of_why, bad_task_of_any, bad_any, bad_priced_task, bad_task_of_prices, bad_prices, bad_stops}

over : (exposed : Option Files) (Hidden : Type 0) (P Q : Files → Type 0) → IfSome exposed P → Hidden → ((files : Files) → P files → Q files) → MatchOption exposed Hidden Q
over None Hidden P Q holds hidden then = hidden
over (Some files) Hidden P Q holds hidden then = then files holds

over_both : (exposed : Option Files) (Hidden : Type 0) (P Q R : Files → Type 0) → IfSome exposed P → IfSome exposed Q → Hidden
    → ((files : Files) → P files → Q files → R files) → MatchOption exposed Hidden R
over_both None Hidden P Q R one other hidden then = hidden
over_both (Some files) Hidden P Q R one other hidden then = then files one other

pub placed-answer : (exposed : Option Files) (task : List ℕ) (budget : ℕ) (t : Problem) (outcome : Outcome) (text : List ℕ) → IfSome exposed (λ files. IsTaskFile files task t)
    → IsPlacing t budget outcome text → IsAnswerOver exposed (place task budget) outcome text
placed-answer exposed task budget t outcome text file is =
    over exposed (Unit {0}) (λ files. IsTaskFile files task t) (λ files. IsAnswer files (place task budget) outcome text) file tt (λ files there. placed task budget t outcome text there is)

pub judged-answer : (exposed : Option Files) (task certificate : List ℕ) (t : Problem) (c : Certificate) (outcome : Outcome) (text : List ℕ)
    → IfSome exposed (λ files. IsTaskFile files task t) → IfSome exposed (λ files. IsCertificateFile files certificate t c)
    → IsJudgement t c outcome text → IsAnswerOver exposed (check task certificate) outcome text
judged-answer exposed task certificate t c outcome text file evidence is =
    over_both exposed (Unit {0}) (λ files. IsTaskFile files task t) (λ files. IsCertificateFile files certificate t c) (λ files. IsAnswer files (check task certificate) outcome text) file evidence tt
    (λ files there whole. judged task certificate t c outcome text there whole is)

pub summed-answer : (exposed : Option Files) (number : ℕ) (outcome : Outcome) (text : List ℕ) → IsSummary number outcome text
    → IsAnswerOver exposed (generate number) outcome text
summed-answer None number outcome text is = is
summed-answer (Some files) number outcome text is = summed number outcome text is

pub bad-task : (halt : Halt) (exposed : Option Files) (task : List ℕ) (budget : ℕ) → IfBadInput halt (λ line. IfSome exposed (λ files. IsRefusedTask files task line))
    → IfBadInput halt (IsBadInputOver exposed (place task budget))
bad-task (BadInput line) exposed task budget wrong =
    over exposed (Unit {0}) (λ files. IsRefusedTask files task line.items) (λ files. IsBadInput files (place task budget) line.items) wrong tt (λ files is. bad_task task budget line.items is)
bad-task ReadFault exposed task budget wrong = tt
bad-task NoMemory exposed task budget wrong = tt

pub bad-checked_task : (halt : Halt) (exposed : Option Files) (task certificate : List ℕ) → IfBadInput halt (λ line. IfSome exposed (λ files. IsRefusedTask files task line))
    → IfBadInput halt (IsBadInputOver exposed (check task certificate))
bad-checked_task (BadInput line) exposed task certificate wrong =
    over exposed (Unit {0}) (λ files. IsRefusedTask files task line.items) (λ files. IsBadInput files (check task certificate) line.items) wrong tt (λ files is. bad_checked_task task certificate line.items is)
bad-checked_task ReadFault exposed task certificate wrong = tt
bad-checked_task NoMemory exposed task certificate wrong = tt

pub bad-certificate : (halt : Halt) (exposed : Option Files) (task certificate : List ℕ) (t : Problem) → IfSome exposed (λ files. IsTaskFile files task t)
    → IfBadInput halt (λ line. IfSome exposed (λ files. IsRefusedCertificate files certificate t line))
    → IfBadInput halt (IsBadInputOver exposed (check task certificate))
bad-certificate (BadInput line) exposed task certificate t file wrong =
    over_both exposed (Unit {0}) (λ files. IsTaskFile files task t) (λ files. IsRefusedCertificate files certificate t line.items) (λ files. IsBadInput files (check task certificate) line.items) file wrong tt
    (λ files there is. bad_certificate task certificate t line.items there is)
bad-certificate ReadFault exposed task certificate t file wrong = tt
bad-certificate NoMemory exposed task certificate t file wrong = tt

-- Commands for trees and certificates of either kind --------------------------------------------

pub placed-by_trees-answer : (exposed : Option Files) (task : List ℕ) (looks : ℕ) (t : Problem) (outcome : Outcome) (text : List ℕ) → IfSome exposed (λ files. IsTaskFile files task t)
    → IsTreePlacing t looks outcome text → IsAnswerOver exposed (best task looks) outcome text
placed-by_trees-answer exposed task looks t outcome text file is =
    over exposed (Unit {0}) (λ files. IsTaskFile files task t) (λ files. IsAnswer files (best task looks) outcome text) file tt (λ files there. placed_by_trees task looks t outcome text there is)

pub explained-answer : (exposed : Option Files) (task : List ℕ) (looks : ℕ) (t : Problem) (outcome : Outcome) (text : List ℕ) → IfSome exposed (λ files. IsTaskFile files task t)
    → IsExplanation t looks outcome text → IsAnswerOver exposed (why task looks) outcome text
explained-answer exposed task looks t outcome text file is =
    over exposed (Unit {0}) (λ files. IsTaskFile files task t) (λ files. IsAnswer files (why task looks) outcome text) file tt (λ files there. explained task looks t outcome text there is)

pub any-judged-answer : (exposed : Option Files) (task certificate : List ℕ) (t : Problem) (c : AnyListed) (outcome : Outcome) (text : List ℕ)
    → IfSome exposed (λ files. IsTaskFile files task t) → IfSome exposed (λ files. IsAnyFile files certificate t c)
    → IsAnyJudgement t c outcome text → IsAnswerOver exposed (check_any task certificate) outcome text
any-judged-answer exposed task certificate t c outcome text file evidence is =
    over_both exposed (Unit {0}) (λ files. IsTaskFile files task t) (λ files. IsAnyFile files certificate t c) (λ files. IsAnswer files (check_any task certificate) outcome text) file evidence tt
    (λ files there whole. any_judged task certificate t c outcome text there whole is)

pub bad-best_task : (halt : Halt) (exposed : Option Files) (task : List ℕ) (looks : ℕ) → IfBadInput halt (λ line. IfSome exposed (λ files. IsRefusedTask files task line))
    → IfBadInput halt (IsBadInputOver exposed (best task looks))
bad-best_task (BadInput line) exposed task looks wrong =
    over exposed (Unit {0}) (λ files. IsRefusedTask files task line.items) (λ files. IsBadInput files (best task looks) line.items) wrong tt (λ files is. bad_best_task task looks line.items is)
bad-best_task ReadFault exposed task looks wrong = tt
bad-best_task NoMemory exposed task looks wrong = tt

pub bad-task_of_why : (halt : Halt) (exposed : Option Files) (task : List ℕ) (looks : ℕ) → IfBadInput halt (λ line. IfSome exposed (λ files. IsRefusedTask files task line))
    → IfBadInput halt (IsBadInputOver exposed (why task looks))
bad-task_of_why (BadInput line) exposed task looks wrong =
    over exposed (Unit {0}) (λ files. IsRefusedTask files task line.items) (λ files. IsBadInput files (why task looks) line.items) wrong tt (λ files is. bad_task_of_why task looks line.items is)
bad-task_of_why ReadFault exposed task looks wrong = tt
bad-task_of_why NoMemory exposed task looks wrong = tt

pub bad-task_of_any : (halt : Halt) (exposed : Option Files) (task certificate : List ℕ) → IfBadInput halt (λ line. IfSome exposed (λ files. IsRefusedTask files task line))
    → IfBadInput halt (IsBadInputOver exposed (check_any task certificate))
bad-task_of_any (BadInput line) exposed task certificate wrong =
    over exposed (Unit {0}) (λ files. IsRefusedTask files task line.items) (λ files. IsBadInput files (check_any task certificate) line.items) wrong tt (λ files is. bad_task_of_any task certificate line.items is)
bad-task_of_any ReadFault exposed task certificate wrong = tt
bad-task_of_any NoMemory exposed task certificate wrong = tt

pub bad-any : (halt : Halt) (exposed : Option Files) (task certificate : List ℕ) (t : Problem) → IfSome exposed (λ files. IsTaskFile files task t)
    → IfBadInput halt (λ line. IfSome exposed (λ files. IsRefusedAny files certificate t line))
    → IfBadInput halt (IsBadInputOver exposed (check_any task certificate))
bad-any (BadInput line) exposed task certificate t file wrong =
    over_both exposed (Unit {0}) (λ files. IsTaskFile files task t) (λ files. IsRefusedAny files certificate t line.items) (λ files. IsBadInput files (check_any task certificate) line.items) file wrong tt
    (λ files there is. bad_any task certificate t line.items there is)
bad-any ReadFault exposed task certificate t file wrong = tt
bad-any NoMemory exposed task certificate t file wrong = tt

-- Commands for certificates with prices --------------------------------------------------------

pub placed-with_prices-answer : (exposed : Option Files) (task : List ℕ) (budget : ℕ) (t : Problem) (outcome : Outcome) (text : List ℕ) → IfSome exposed (λ files. IsTaskFile files task t)
    → IsPricedPlacing t budget outcome text → IsAnswerOver exposed (priced task budget) outcome text
placed-with_prices-answer exposed task budget t outcome text file is =
    over exposed (Unit {0}) (λ files. IsTaskFile files task t) (λ files. IsAnswer files (priced task budget) outcome text) file tt (λ files there. placed_with_prices task budget t outcome text there is)

pub prices-judged-answer : (exposed : Option Files) (task certificate : List ℕ) (t : Problem) (c : PricedCertificate) (outcome : Outcome) (text : List ℕ)
    → IfSome exposed (λ files. IsTaskFile files task t) → IfSome exposed (λ files. IsPricedFile files certificate t c)
    → IsPricedJudgement t c outcome text → IsAnswerOver exposed (check_priced task certificate) outcome text
prices-judged-answer exposed task certificate t c outcome text file evidence is =
    over_both exposed (Unit {0}) (λ files. IsTaskFile files task t) (λ files. IsPricedFile files certificate t c) (λ files. IsAnswer files (check_priced task certificate) outcome text) file evidence tt
    (λ files there whole. prices_judged task certificate t c outcome text there whole is)

pub bad-priced_task : (halt : Halt) (exposed : Option Files) (task : List ℕ) (budget : ℕ) → IfBadInput halt (λ line. IfSome exposed (λ files. IsRefusedTask files task line))
    → IfBadInput halt (IsBadInputOver exposed (priced task budget))
bad-priced_task (BadInput line) exposed task budget wrong =
    over exposed (Unit {0}) (λ files. IsRefusedTask files task line.items) (λ files. IsBadInput files (priced task budget) line.items) wrong tt (λ files is. bad_priced_task task budget line.items is)
bad-priced_task ReadFault exposed task budget wrong = tt
bad-priced_task NoMemory exposed task budget wrong = tt

pub bad-task_of_prices : (halt : Halt) (exposed : Option Files) (task certificate : List ℕ) → IfBadInput halt (λ line. IfSome exposed (λ files. IsRefusedTask files task line))
    → IfBadInput halt (IsBadInputOver exposed (check_priced task certificate))
bad-task_of_prices (BadInput line) exposed task certificate wrong =
    over exposed (Unit {0}) (λ files. IsRefusedTask files task line.items) (λ files. IsBadInput files (check_priced task certificate) line.items) wrong tt (λ files is. bad_task_of_prices task certificate line.items is)
bad-task_of_prices ReadFault exposed task certificate wrong = tt
bad-task_of_prices NoMemory exposed task certificate wrong = tt

pub bad-prices : (halt : Halt) (exposed : Option Files) (task certificate : List ℕ) (t : Problem) → IfSome exposed (λ files. IsTaskFile files task t)
    → IfBadInput halt (λ line. IfSome exposed (λ files. IsRefusedPriced files certificate t line))
    → IfBadInput halt (IsBadInputOver exposed (check_priced task certificate))
bad-prices (BadInput line) exposed task certificate t file wrong =
    over_both exposed (Unit {0}) (λ files. IsTaskFile files task t) (λ files. IsRefusedPriced files certificate t line.items) (λ files. IsBadInput files (check_priced task certificate) line.items) file wrong tt
    (λ files there is. bad_prices task certificate t line.items there is)
bad-prices ReadFault exposed task certificate t file wrong = tt
bad-prices NoMemory exposed task certificate t file wrong = tt

-- Commands for loads over several sectors -------------------------------------------------------

pub placed-over_sectors-answer : (exposed : Option Files) (file : List ℕ) (budget : ℕ) (t : Stops) (outcome : Outcome) (text : List ℕ) → IfSome exposed (λ files. IsStopsFile files file t)
    → IsStopPlacing t budget outcome text → IsAnswerOver exposed (stops file budget) outcome text
placed-over_sectors-answer exposed file budget t outcome text read is =
    over exposed (Unit {0}) (λ files. IsStopsFile files file t) (λ files. IsAnswer files (stops file budget) outcome text) read tt (λ files there. placed_over_sectors file budget t outcome text there is)

pub bad-stops : (halt : Halt) (exposed : Option Files) (file : List ℕ) (budget : ℕ) → IfBadInput halt (λ line. IfSome exposed (λ files. IsRefusedStopsFile files file line))
    → IfBadInput halt (IsBadInputOver exposed (stops file budget))
bad-stops (BadInput line) exposed file budget wrong =
    over exposed (Unit {0}) (λ files. IsRefusedStopsFile files file line.items) (λ files. IsBadInput files (stops file budget) line.items) wrong tt (λ files is. bad_stops file budget line.items is)
bad-stops ReadFault exposed file budget wrong = tt
bad-stops NoMemory exposed file budget wrong = tt
