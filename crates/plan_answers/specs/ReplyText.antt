-- What the program prints.
use Rattle.std.specs.Prelude.{◌≡◌, ℕ, List, [], ◌∷◌, ◌++◌, length, sum_by, codes}
use Rattle.mass_units.specs.Spelling.{number_text}
use Rattle.hold_parts.specs.declared.parts.Item.{Item}
use Rattle.hold_limits.specs.declared.fault.HoldFault.{HoldFault}
use Rattle.hold_limits.specs.declared.fault.HoldFault.TheVariants as hold
use Rattle.hold_limits.specs.declared.fault.TaskFault.{TaskFault}
use Rattle.hold_limits.specs.declared.fault.TaskFault.TheVariants as task
use Rattle.hold_limits.specs.Problem.{Problem}
use Rattle.stop_tasks.specs.declared.fault.StopFault.{StopFault}
use Rattle.stop_tasks.specs.declared.fault.StopFault.TheVariants as stop
use Rattle.stop_text.specs.declared.fault.StopTextFault.{StopTextFault}
use Rattle.stop_text.specs.declared.fault.StopTextFault.TheVariants as stops
use Rattle.text_lines.specs.Lines.{text_of}
use Rattle.problem_text.specs.declared.fault.TextFault.{TextFault}
use Rattle.problem_text.specs.declared.fault.TextFault.TheVariants as text
use Rattle.plan_text.specs.PlanText.{one_line, balance_lines}
use Rattle.certificate.specs.CertificateText.{path_line}
use Rattle.certificate.specs.declared.fault.CertFault.{CertFault}
use Rattle.certificate.specs.declared.fault.CertFault.TheVariants as cert
use Rattle.certificate.specs.declared.parts.Claim.{Claim}
use Rattle.certificate.specs.declared.parts.Claim.TheVariants.{Best, NoneFits}
use Rattle.certificate.specs.declared.parts.Certificate.{Certificate}
use Rattle.priced_checker.specs.declared.reject.PricedReject.{PricedReject}
use Rattle.priced_checker.specs.declared.reject.PricedReject.TheVariants.{NotAPlacement, CutOrder, CutNotViable, CutWeak, Nearer, Exists, MoreExpanded, Prices}
use Rattle.tree_checker.specs.declared.rejection.TreeRejection.{TreeRejection}
use Rattle.tree_checker.specs.declared.rejection.TreeRejection.TheVariants as wrong
use Rattle.generated_load.specs.Load.{generated_problem}
use Rattle.task_answers.specs.Limits.{usual_budget}
use Rattle.task_answers.specs.ReplyText.{number_line}
pub use Rattle.task_answers.specs.ReplyText.{long_text}

abbrev pub usage_text : List ℕ
usage_text = one_line (codes "USAGE" ∷ [])

-- Refused files ---------------------------------------------------------------------------------

-- a line that reports a fault of the input: its kind and a number
abbrev pub input_text : List ℕ → ℕ → List ℕ
input_text kind n = one_line (codes "INPUT" ∷ kind ∷ number_text n ∷ [])

-- the number of a fault of a hold, of a task, and of a load over several sectors
abbrev pub hold_fault_number : HoldFault → ℕ
hold_fault_number (hold.Positions n) = 1
hold_fault_number (hold.SameName at) = 2
hold_fault_number (hold.Influence at) = 3
hold_fault_number (hold.Fits at) = 4
hold_fault_number (hold.FitMass at) = 5
hold_fault_number hold.TooMany = 6
hold_fault_number (hold.Exclude at) = 7
hold_fault_number (hold.Combined at) = 8
hold_fault_number (hold.Cumulative at) = 9
hold_fault_number (hold.Side at) = 10

abbrev pub task_fault_number : TaskFault → ℕ
task_fault_number task.TooManyItems = 1
task_fault_number (task.DuplicateId at) = 2
task_fault_number (task.ItemTooHeavy at) = 3
task_fault_number (task.LooseNotBulk at) = 4
task_fault_number (task.LooseTwice at) = 5
task_fault_number (task.LooseTooHeavy at) = 6
task_fault_number (task.Range which) = 7

abbrev pub stop_fault_number : StopFault → ℕ
stop_fault_number (stop.Sectors number) = 1
stop_fault_number (stop.Holds number) = 2
stop_fault_number stop.Leaves = 3
stop_fault_number (stop.Aboard number) = 4
stop_fault_number (stop.Behind at) = 5

-- the line for a fault of a task's text; out of memory has none
abbrev pub IsFaultLine : TextFault → List ℕ → Type 0
IsFaultLine (text.Line n) line = line ≡ input_text (codes "LINE") n
IsFaultLine text.NoEnd line = line ≡ one_line (codes "INPUT" ∷ codes "END" ∷ [])
IsFaultLine (text.Hold fault) line = line ≡ input_text (codes "HOLD") (hold_fault_number fault)
IsFaultLine (text.Task fault) line = line ≡ input_text (codes "TASK") (task_fault_number fault)
IsFaultLine text.NoMemory line = ⊥

-- the line for a fault of the text of a load over several sectors: a fault of one of its tasks is told as that of a
-- task's text. Out of memory has none
abbrev pub IsStopFaultLine : StopTextFault → List ℕ → Type 0
IsStopFaultLine (stops.Line n) line = line ≡ input_text (codes "LINE") n
IsStopFaultLine stops.NoEnd line = line ≡ one_line (codes "INPUT" ∷ codes "END" ∷ [])
IsStopFaultLine (stops.Task sector fault) line = IsFaultLine fault line
IsStopFaultLine (stops.Stop fault) line = line ≡ input_text (codes "STOPS") (stop_fault_number fault)
IsStopFaultLine stops.NoMemory line = ⊥

-- the line for a fault of a certificate's text
abbrev pub IsCertificateFaultLine : CertFault → List ℕ → Type 0
IsCertificateFaultLine cert.NoStart line = line ≡ one_line (codes "INPUT" ∷ codes "START" ∷ [])
IsCertificateFaultLine (cert.Line n) line = line ≡ input_text (codes "LINE") n
IsCertificateFaultLine cert.NoEnd line = line ≡ one_line (codes "INPUT" ∷ codes "END" ∷ [])
IsCertificateFaultLine cert.NoMemory line = ⊥

-- Judged certificates ---------------------------------------------------------------------------

abbrev pub good_text : Claim → List ℕ
good_text (Best path) = one_line (codes "GOOD" ∷ codes "BEST" ∷ [])
good_text NoneFits = one_line (codes "GOOD" ∷ codes "NONE" ∷ [])

-- a reason with a place
abbrev pub rejected_at_text : ℕ → ℕ → List ℕ
rejected_at_text reason at = one_line (codes "REJECTED" ∷ number_text reason ∷ number_text at ∷ [])

-- the reason with its place, or with the names of the positions of its path
abbrev pub rejected_text : Problem → PricedReject → List ℕ
rejected_text t NotAPlacement = one_line (codes "REJECTED 1" ∷ [])
rejected_text t (CutOrder at) = rejected_at_text 2 at
rejected_text t (CutNotViable at) = rejected_at_text 3 at
rejected_text t (CutWeak at) = rejected_at_text 4 at
rejected_text t (Nearer path) = text_of (path_line (codes "REJECTED 5") t.hold.positions path.items ∷ [])
rejected_text t (Exists path) = text_of (path_line (codes "REJECTED 6") t.hold.positions path.items ∷ [])
rejected_text t MoreExpanded = one_line (codes "REJECTED 7" ∷ [])
rejected_text t (Prices at) = rejected_at_text 8 at

-- the line for the reason against a certificate of trees, with its places; out of memory has none
abbrev pub IsTreeRejectionLine : TreeRejection → List ℕ → Type 0
IsTreeRejectionLine wrong.NotAPlacement line = line ≡ one_line (codes "REJECTED 1" ∷ [])
IsTreeRejectionLine (wrong.NotAClique at) line = line ≡ rejected_at_text 2 at
IsTreeRejectionLine (wrong.WrongPrices at) line = line ≡ rejected_at_text 3 at
IsTreeRejectionLine (wrong.WrongOperation number at) line = line ≡ one_line (codes "REJECTED 4" ∷ number_text number ∷ number_text at ∷ [])
IsTreeRejectionLine (wrong.WrongSibling at) line = line ≡ rejected_at_text 5 at
IsTreeRejectionLine wrong.NoMemory line = ⊥

-- Summaries of generated loads ------------------------------------------------------------------

abbrev pub total_mass : List Item → ℕ
total_mass items = sum_by (λ (item : Item). item.mass.0) items

-- the number of the load, and the mass of its containers
abbrev pub load_lines : ℕ → List (List ℕ)
load_lines number = number_line (codes "GEN") number ∷ number_line (codes "mass") (total_mass (generated_problem number).items) ∷ []

-- how many cuts the certificate has, and how many prefixes were looked at
abbrev pub count_lines : Certificate → List (List ℕ)
count_lines c = number_line (codes "cuts") (length c.cuts) ∷ number_line (codes "expanded") c.expanded ∷ codes "END" ∷ []

abbrev pub plan_summary : ℕ → List ℕ → Certificate → List ℕ
plan_summary number path c = text_of (load_lines number ++ (codes "PLAN" ∷ []) ++ balance_lines (generated_problem number) path ++ count_lines c)

abbrev pub none_summary : ℕ → Certificate → List ℕ
none_summary number c = text_of (load_lines number ++ (codes "NONE" ∷ []) ++ count_lines c)

abbrev pub budget_summary : ℕ → List ℕ
budget_summary number = text_of (load_lines number ++ (number_line (codes "BUDGET") usual_budget ∷ []))
