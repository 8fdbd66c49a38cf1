-- The reply to the arguments, where these are the files.
use Rattle.std.specs.Prelude.{◌≡◌, ℕ, ◌<◌, ◌≤◌, List, length, Option, None, IsSomeAnd, MatchOption}
use Rattle.hold_limits.specs.Problem.{Problem}
use Rattle.hold_limits.specs.Faults.{hold_fault, task_fault}
use Rattle.problem_text.specs.TaskText.{Spells}
use Rattle.problem_text.specs.Refusals.{IsRefused}
use Rattle.problem_text.specs.declared.fault.TextFault.{TextFault}
use Rattle.certificate.specs.declared.parts.Certificate.{Certificate}
use Rattle.priced_certificate.specs.declared.parts.PricedCertificate.{PricedCertificate}
use Rattle.stop_tasks.specs.Stops.{Stops}
use Rattle.load_io.specs.Shelf.{Files}
use Rattle.task_answers.specs.declared.reply.Outcome.{Outcome}
use Rattle.task_answers.specs.declared.reply.Outcome.TheVariants.{Done, Usage, BadInput, NothingFits, OverBudget, Undecided, Rejected}
use Rattle.plan_commands.specs.Arguments.{FlightNames, Job, IsCommand, AreInvalid}
use Rattle.plan_commands.specs.Arguments.Job.{place, check, best, why, check_any, priced, check_priced, stops, transit, generate}
use Rattle.plan_answers.specs.ReplyText.{IsFaultLine, long_text, usage_text}
use Rattle.plan_answers.specs.Limits.{longest_task}
use Rattle.plan_answers.specs.NearReply.{IsCertificateIn, IsCertificateRefusal, IsPlacing, IsJudgement}
use Rattle.plan_answers.specs.TreeReply.{IsTreePlacing}
use Rattle.plan_reasons.specs.Explanation.{IsExplanation}
use Rattle.plan_answers.specs.PricedReply.{IsPricedIn, IsPricedRefusal, IsPricedPlacing, IsPricedJudgement}
use Rattle.plan_answers.specs.StopReply.{IsStopsIn, IsStopRefusal, IsStopPlacing}
use Rattle.plan_answers.specs.AnyReply.{AnyListed, IsAnyIn, IsAnyRefusal, IsAnyJudgement}
use Rattle.plan_answers.specs.SummaryReply.{IsSummary}
use Rattle.ldm_cpm.specs.Messages.{LoadMessage, HoldMessage}
use Rattle.transit_answers.specs.Flights.{Transit, IsTransitIn}
use Rattle.transit_answers.specs.MessageFiles.{IsCpmIn, IsLdmIn, IsCpmRefusal, IsLdmRefusal, IsTransitRefusal}
use Rattle.transit_answers.specs.TransitReply.{IsTransitAnswer}
use Rattle.transit_answers.specs.declared.answers.TransitQuestion.{TransitQuestion}

-- Files -----------------------------------------------------------------------------------------

-- the bytes of a file are not too many, and spell this lawful task
pub record IsTaskIn (bytes : List ℕ) (t : Problem) : Type 0 where
  pub short : length bytes ≤ longest_task
  pub spelled : Spells bytes t
  pub hold : hold_fault t.hold ≡ None
  pub task : task_fault t ≡ None

-- the bytes of a task's file are refused with this line
pub data IsRefusal (bytes : List ℕ) : List ℕ → Type 0 where
  -- they are too many
  too_long : longest_task < length bytes → IsRefusal bytes long_text
  -- they spell no lawful task: this is their first fault
  no_task : (fault : TextFault) (line : List ℕ) → length bytes ≤ longest_task → IsRefused bytes fault → IsFaultLine fault line
      → IsRefusal bytes line

-- there is a file of this name, and this holds of its bytes
abbrev pub Holds : Files → List ℕ → (List ℕ → Type 0) → Type 0
Holds files name P = IsSomeAnd (files name) P

abbrev pub IsTaskFile : Files → List ℕ → Problem → Type 0
IsTaskFile files name t = Holds files name (λ bytes. IsTaskIn bytes t)

abbrev pub IsRefusedTask : Files → List ℕ → List ℕ → Type 0
IsRefusedTask files name line = Holds files name (λ bytes. IsRefusal bytes line)

abbrev pub IsCertificateFile : Files → List ℕ → Problem → Certificate → Type 0
IsCertificateFile files name t c = Holds files name (λ bytes. IsCertificateIn t bytes c)

abbrev pub IsRefusedCertificate : Files → List ℕ → Problem → List ℕ → Type 0
IsRefusedCertificate files name t line = Holds files name (λ bytes. IsCertificateRefusal t bytes line)

abbrev pub IsAnyFile : Files → List ℕ → Problem → AnyListed → Type 0
IsAnyFile files name t c = Holds files name (λ bytes. IsAnyIn t bytes c)

abbrev pub IsRefusedAny : Files → List ℕ → Problem → List ℕ → Type 0
IsRefusedAny files name t line = Holds files name (λ bytes. IsAnyRefusal t bytes line)

abbrev pub IsPricedFile : Files → List ℕ → Problem → PricedCertificate → Type 0
IsPricedFile files name t c = Holds files name (λ bytes. IsPricedIn t bytes c)

abbrev pub IsRefusedPriced : Files → List ℕ → Problem → List ℕ → Type 0
IsRefusedPriced files name t line = Holds files name (λ bytes. IsPricedRefusal t bytes line)

abbrev pub IsStopsFile : Files → List ℕ → Stops → Type 0
IsStopsFile files name t = Holds files name (λ bytes. IsStopsIn bytes t)

abbrev pub IsRefusedStopsFile : Files → List ℕ → List ℕ → Type 0
IsRefusedStopsFile files name line = Holds files name (λ bytes. IsStopRefusal bytes line)

abbrev pub IsCpmFile : Files → List ℕ → HoldMessage → Type 0
IsCpmFile files name m = Holds files name (λ bytes. IsCpmIn bytes m)

abbrev pub IsRefusedCpm : Files → List ℕ → List ℕ → Type 0
IsRefusedCpm files name line = Holds files name (λ bytes. IsCpmRefusal bytes line)

abbrev pub IsLdmFile : Files → List ℕ → LoadMessage → Type 0
IsLdmFile files name m = Holds files name (λ bytes. IsLdmIn bytes m)

abbrev pub IsRefusedLdm : Files → List ℕ → List ℕ → Type 0
IsRefusedLdm files name line = Holds files name (λ bytes. IsLdmRefusal bytes line)

-- the files hold a task and two inbound messages
pub record AreTransitFiles (files : Files) (names : FlightNames) (t : Problem) (inbound : HoldMessage) (load : LoadMessage) : Type 0 where
  pub task : IsTaskFile files names.task t
  pub cpm : IsCpmFile files names.cpm inbound
  pub ldm : IsLdmFile files names.ldm load

-- they state this flight in transit
pub record StateTransit (shelf : Files) (names : FlightNames) (flight : Transit) : Type 0 where
  pub t : Problem
  pub cpm : HoldMessage
  pub ldm : LoadMessage
  pub files : AreTransitFiles shelf names t cpm ldm
  pub stated : IsTransitIn names.station t cpm ldm flight

-- the files of a flight in transit are refused with this line, in the order in which they are read
pub data AreRefusedInTransit (files : Files) (names : FlightNames) : List ℕ → Type 0 where
  wrong_task : (line : List ℕ) → IsRefusedTask files names.task line → AreRefusedInTransit files names line
  wrong_cpm : (t : Problem) (line : List ℕ) → IsTaskFile files names.task t → IsRefusedCpm files names.cpm line → AreRefusedInTransit files names line
  wrong_ldm : (t : Problem) (cpm : HoldMessage) (line : List ℕ) → IsTaskFile files names.task t → IsCpmFile files names.cpm cpm
      → IsRefusedLdm files names.ldm line → AreRefusedInTransit files names line
  -- each is right, and together they state no flight in transit
  no_transit : (t : Problem) (cpm : HoldMessage) (ldm : LoadMessage) (line : List ℕ) → AreTransitFiles files names t cpm ldm
      → IsTransitRefusal names.station t cpm ldm line → AreRefusedInTransit files names line

-- Answers ---------------------------------------------------------------------------------------

-- the answer to a job whose files are there and right
pub data IsAnswer (files : Files) : Job → Outcome → List ℕ → Type 0 where
  placed : (task : List ℕ) (budget : ℕ) (t : Problem) (outcome : Outcome) (text : List ℕ) → IsTaskFile files task t → IsPlacing t budget outcome text
      → IsAnswer files (place task budget) outcome text
  judged : (task certificate : List ℕ) (t : Problem) (c : Certificate) (outcome : Outcome) (text : List ℕ) → IsTaskFile files task t
      → IsCertificateFile files certificate t c → IsJudgement t c outcome text → IsAnswer files (check task certificate) outcome text
  placed_by_trees : (task : List ℕ) (looks : ℕ) (t : Problem) (outcome : Outcome) (text : List ℕ) → IsTaskFile files task t
      → IsTreePlacing t looks outcome text → IsAnswer files (best task looks) outcome text
  explained : (task : List ℕ) (looks : ℕ) (t : Problem) (outcome : Outcome) (text : List ℕ) → IsTaskFile files task t
      → IsExplanation t looks outcome text → IsAnswer files (why task looks) outcome text
  any_judged : (task certificate : List ℕ) (t : Problem) (c : AnyListed) (outcome : Outcome) (text : List ℕ) → IsTaskFile files task t
      → IsAnyFile files certificate t c → IsAnyJudgement t c outcome text → IsAnswer files (check_any task certificate) outcome text
  placed_with_prices : (task : List ℕ) (budget : ℕ) (t : Problem) (outcome : Outcome) (text : List ℕ) → IsTaskFile files task t
      → IsPricedPlacing t budget outcome text → IsAnswer files (priced task budget) outcome text
  prices_judged : (task certificate : List ℕ) (t : Problem) (c : PricedCertificate) (outcome : Outcome) (text : List ℕ) → IsTaskFile files task t
      → IsPricedFile files certificate t c → IsPricedJudgement t c outcome text → IsAnswer files (check_priced task certificate) outcome text
  placed_over_sectors : (file : List ℕ) (budget : ℕ) (t : Stops) (outcome : Outcome) (text : List ℕ) → IsStopsFile files file t
      → IsStopPlacing t budget outcome text → IsAnswer files (stops file budget) outcome text
  answered_in_transit : (names : FlightNames) (question : TransitQuestion) (flight : Transit) (outcome : Outcome) (text : List ℕ) → StateTransit files names flight
      → IsTransitAnswer flight names.next question outcome text → IsAnswer files (transit names question) outcome text
  summed : (number : ℕ) (outcome : Outcome) (text : List ℕ) → IsSummary number outcome text → IsAnswer files (generate number) outcome text

-- the first file of a job that is refused, and its line
pub data IsBadInput (files : Files) : Job → List ℕ → Type 0 where
  bad_task : (task : List ℕ) (budget : ℕ) (line : List ℕ) → IsRefusedTask files task line → IsBadInput files (place task budget) line
  bad_checked_task : (task certificate line : List ℕ) → IsRefusedTask files task line → IsBadInput files (check task certificate) line
  bad_certificate : (task certificate : List ℕ) (t : Problem) (line : List ℕ) → IsTaskFile files task t → IsRefusedCertificate files certificate t line
      → IsBadInput files (check task certificate) line
  bad_best_task : (task : List ℕ) (looks : ℕ) (line : List ℕ) → IsRefusedTask files task line → IsBadInput files (best task looks) line
  bad_task_of_why : (task : List ℕ) (looks : ℕ) (line : List ℕ) → IsRefusedTask files task line → IsBadInput files (why task looks) line
  bad_task_of_any : (task certificate line : List ℕ) → IsRefusedTask files task line → IsBadInput files (check_any task certificate) line
  bad_any : (task certificate : List ℕ) (t : Problem) (line : List ℕ) → IsTaskFile files task t → IsRefusedAny files certificate t line
      → IsBadInput files (check_any task certificate) line
  bad_priced_task : (task : List ℕ) (budget : ℕ) (line : List ℕ) → IsRefusedTask files task line → IsBadInput files (priced task budget) line
  bad_task_of_prices : (task certificate line : List ℕ) → IsRefusedTask files task line → IsBadInput files (check_priced task certificate) line
  bad_prices : (task certificate : List ℕ) (t : Problem) (line : List ℕ) → IsTaskFile files task t → IsRefusedPriced files certificate t line
      → IsBadInput files (check_priced task certificate) line
  bad_stops : (file : List ℕ) (budget : ℕ) (line : List ℕ) → IsRefusedStopsFile files file line → IsBadInput files (stops file budget) line
  bad_transit : (names : FlightNames) (question : TransitQuestion) (line : List ℕ) → AreRefusedInTransit files names line
      → IsBadInput files (transit names question) line

-- the reply to the arguments: an outcome and its text
pub data IsReply (arguments : List (List ℕ)) (files : Files) : Outcome → List ℕ → Type 0 where
  answered : (job : Job) (outcome : Outcome) (text : List ℕ) → IsCommand arguments job → IsAnswer files job outcome text
      → IsReply arguments files outcome text
  refused : (job : Job) (line : List ℕ) → IsCommand arguments job → IsBadInput files job line → IsReply arguments files BadInput line
  usage : AreInvalid arguments → IsReply arguments files Usage usage_text

-- Hidden files ----------------------------------------------------------------------------------

-- the answer to a job, or, where the files are hidden, to one that needs none
abbrev pub IsAnswerAlone : Job → Outcome → List ℕ → Type 0
IsAnswerAlone (generate number) outcome text = IsSummary number outcome text
IsAnswerAlone other outcome text = Unit {0}

abbrev pub IsAnswerOver : Option Files → Job → Outcome → List ℕ → Type 0
IsAnswerOver exposed job outcome text = MatchOption exposed (IsAnswerAlone job outcome text) (λ files. IsAnswer files job outcome text)

-- the line of the first file that is refused, or, where the files are hidden, a line about a job that needs some
abbrev pub NeedsFiles : Job → Type 0
NeedsFiles (generate number) = ⊥
NeedsFiles other = Unit {0}

abbrev pub IsBadInputOver : Option Files → Job → List ℕ → Type 0
IsBadInputOver exposed job line = MatchOption exposed (NeedsFiles job) (λ files. IsBadInput files job line)

-- the reply to the arguments, or, where the files are hidden, to those of a job that needs none
abbrev pub IsReplyOver : List (List ℕ) → Option Files → Outcome → List ℕ → Type 0
IsReplyOver arguments exposed outcome text =
    MatchOption exposed ((number : ℕ) → IsCommand arguments (generate number) → IsSummary number outcome text)
    (λ files. IsReply arguments files outcome text)

-- Complete --------------------------------------------------------------------------------------

-- the files of a job are there and right
abbrev pub HasInput : Files → Job → Type 0
HasInput files (place task budget) = (t : Problem) × IsTaskFile files task t
HasInput files (check task certificate) = (t : Problem) × (c : Certificate) × IsTaskFile files task t × IsCertificateFile files certificate t c
HasInput files (best task looks) = (t : Problem) × IsTaskFile files task t
HasInput files (why task looks) = (t : Problem) × IsTaskFile files task t
HasInput files (check_any task certificate) = (t : Problem) × (c : AnyListed) × IsTaskFile files task t × IsAnyFile files certificate t c
HasInput files (priced task budget) = (t : Problem) × IsTaskFile files task t
HasInput files (check_priced task certificate) = (t : Problem) × (c : PricedCertificate) × IsTaskFile files task t × IsPricedFile files certificate t c
HasInput files (stops file budget) = (t : Stops) × IsStopsFile files file t
HasInput files (transit names question) = (flight : Transit) × StateTransit files names flight
HasInput files (generate number) = Unit {0}

-- the arguments are a command whose files are there and right
abbrev pub HaveInput : List (List ℕ) → Files → Type 0
HaveInput arguments files = (job : Job) × IsCommand arguments job × HasInput files job

-- the arguments are a command of which a file is refused
abbrev pub HaveBadInput : List (List ℕ) → Files → Type 0
HaveBadInput arguments files = (job : Job) × (line : List ℕ) × IsCommand arguments job × IsBadInput files job line

-- the outcome answers the job
pub data IsAnswered : Outcome → Type 0 where
  is_done : IsAnswered Done
  is_nothing_fits : IsAnswered NothingFits
  is_over_budget : IsAnswered OverBudget
  is_undecided : IsAnswered Undecided
  is_rejected : IsAnswered Rejected
