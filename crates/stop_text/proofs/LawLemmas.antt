-- a text has one answer at most
use Rattle.std.proofs.Common.{◌≡◌, ◌≢◌, ⊎_elim, ℕ, ◌+◌, ◌<◌, List, [], ◌∷◌, All, refl, sym, ◌∙◌, ap, subst, arith}
use Rattle.std.proofs.lemmas.Option.{same_Some, none-some}
use Rattle.hold_limits.specs.Problem.{Problem}
use Rattle.problem_text.specs.Reading.{IsFaultOf}
use Rattle.problem_text.specs.declared.fault.TextFault.{TextFault}
use Rattle.problem_text.specs.declared.fault.TextFault.TheVariants as text
use Rattle.text_lines.specs.declared.fault.LineFault.{LineFault}
use Rattle.text_lines.specs.declared.fault.LineFault.TheVariants as line
use Rattle.stop_tasks.specs.Stops.{Stops}
use Rattle.stop_tasks.specs.StopFaults.{AreLawfulStops, IsStopFault, IsFirstWithout}
use Rattle.stop_tasks.specs.declared.fault.StopFault.{StopFault}
use Rattle.stop_tasks.specs.declared.fault.StopFault.TheVariants.{Sectors, Holds, Leaves, Aboard, Behind}
use Rattle.stop_text.specs.StopFile.{StopFile, Spells, sectors_of, stops_of_file}
use Rattle.stop_text.specs.StopRefusals.{HasNoFault, IsFirstFault, IsLoadFault, IsRefusedStops, stop_text_fault}
use Rattle.stop_text.specs.StopRefusals.IsLoadFault.{wrong_task, wrong_load, no_memory}
use Rattle.stop_text.specs.StopRefusals.IsRefusedStops.{by_lines, by_load}
use Rattle.stop_text.specs.declared.fault.StopTextFault.{StopTextFault}
use Rattle.stop_text.specs.declared.fault.StopTextFault.TheVariants as stop
use Rattle.stop_text.proofs.FileLines.{spelled_once, wrong_once}
use Rattle.stop_text.proofs.LoadLemmas.{fault_twice, no_first_fault, lawful_told, right_lines}

-- the text of a lawful load of lawful tasks is not refused
pub lawful_not_refused : (text : List ℕ) (file : StopFile) (fault : StopTextFault) → Spells text file → All HasNoFault (sectors_of file) → AreLawfulStops (stops_of_file file) → IsRefusedStops text fault → fault ≡ stop.NoMemory
lawful_not_refused text file _ s lawful stops (by_lines fault h) = right_lines text file fault s h
lawful_not_refused text file _ s lawful stops (by_load other fault u h) = lawful_told file fault lawful stops (subst (λ (f : StopFile). IsLoadFault f fault) (spelled_once text other file u s) h)

-- One fault of a task -----------------------------------------------------------------------------

task_once : (t : Problem) (a b : TextFault) → IsFaultOf t a → IsFaultOf t b → a ≡ b
task_once t (text.Line n) b h k = absurd h
task_once t text.NoEnd b h k = absurd h
task_once t text.NoMemory b h k = absurd h
task_once t (text.Hold x) (text.Line n) h k = absurd k
task_once t (text.Hold x) text.NoEnd h k = absurd k
task_once t (text.Hold x) text.NoMemory h k = absurd k
task_once t (text.Hold x) (text.Hold y) h k = ap text.Hold (same_Some x y (sym h ∙ k))
task_once t (text.Hold x) (text.Task y) h k = absurd (none-some x (sym k.0 ∙ h))
task_once t (text.Task x) (text.Line n) h k = absurd k
task_once t (text.Task x) text.NoEnd h k = absurd k
task_once t (text.Task x) text.NoMemory h k = absurd k
task_once t (text.Task x) (text.Hold y) h k = absurd (none-some y (sym h.0 ∙ k))
task_once t (text.Task x) (text.Task y) h k = ap text.Task (same_Some x y (sym h.1 ∙ k.1))

first_once : (sectors : List Problem) (m n : ℕ) (a b : TextFault) → IsFirstFault sectors m a → IsFirstFault sectors n b → (m ≡ n) × (a ≡ b)
first_once [] m n a b h k = absurd h
first_once (t ∷ ts) m n a b h k =
    let Here : ℕ → TextFault → Type 0 = λ number fault. (number ≡ 1) × IsFaultOf t fault in
    let Later : ℕ → TextFault → Type 0 = λ number fault. HasNoFault t × ((earlier : ℕ) × (number ≡ earlier + 1) × IsFirstFault ts earlier fault) in
    ⊎_elim
    (λ (x : Here m a). ⊎_elim
    (λ (y : Here n b). (x.0 ∙ sym y.0, task_once t a b x.1 y.1))
    (λ (y : Later n b). absurd (fault_twice t a y.0 x.1))
    k)
    (λ (x : Later m a). ⊎_elim
    (λ (y : Here n b). absurd (fault_twice t b x.0 y.1))
    (λ (y : Later n b). let same = first_once ts x.1.0 y.1.0 a b x.1.2 y.1.2 in (x.1.1 ∙ ap (λ e. e + 1) same.0 ∙ sym y.1.1, same.1))
    k)
    h

-- One fault of a load -----------------------------------------------------------------------------

place_once : (P : ℕ → Type 0) (end a b : ℕ) → IsFirstWithout P end a → IsFirstWithout P end b → a ≡ b
place_once P end a b h k =
    let up : a < b → ⊥ = λ less. h.2 (k.1 a less) in
    let down : b < a → ⊥ = λ less. k.2 (h.1 b less) in
    omega (arith, up, down)

after : (m n p q : ℕ) → m ≡ p + 1 → n ≡ q + 1 → p ≡ q → m ≡ n
after m n p q e g same = e ∙ ap (λ x. x + 1) same ∙ sym g

stops_once : (t : Stops) (a b : StopFault) → IsStopFault t a → IsStopFault t b → a ≡ b
stops_once t (Sectors m) (Sectors n) h k = ap Sectors (h.0 ∙ sym k.0)
stops_once t (Sectors m) (Holds n) h k = absurd (h.1 k.0)
stops_once t (Sectors m) Leaves h k = absurd (h.1 k.0)
stops_once t (Sectors m) (Aboard n) h k = absurd (h.1 k.0)
stops_once t (Sectors m) (Behind n) h k = absurd (h.1 k.0)
stops_once t (Holds m) (Sectors n) h k = absurd (k.1 h.0)
stops_once t (Holds m) (Holds n) h k = ap Holds (after m n h.1.0 k.1.0 h.1.1 k.1.1 (place_once _ _ h.1.0 k.1.0 h.1.2 k.1.2))
stops_once t (Holds m) Leaves h k = absurd (h.1.2.2 (k.1 h.1.0 h.1.2.0))
stops_once t (Holds m) (Aboard n) h k = absurd (h.1.2.2 (k.1 h.1.0 h.1.2.0))
stops_once t (Holds m) (Behind n) h k = absurd (h.1.2.2 (k.1 h.1.0 h.1.2.0))
stops_once t Leaves (Sectors n) h k = absurd (k.1 h.0)
stops_once t Leaves (Holds n) h k = absurd (k.1.2.2 (h.1 k.1.0 k.1.2.0))
stops_once t Leaves Leaves h k = refl
stops_once t Leaves (Aboard n) h k = absurd (h.2 k.2)
stops_once t Leaves (Behind n) h k = absurd (h.2 k.2)
stops_once t (Aboard m) (Sectors n) h k = absurd (k.1 h.0)
stops_once t (Aboard m) (Holds n) h k = absurd (k.1.2.2 (h.1 k.1.0 k.1.2.0))
stops_once t (Aboard m) Leaves h k = absurd (k.2 h.2)
stops_once t (Aboard m) (Aboard n) h k = ap Aboard (after m n h.3.0 k.3.0 h.3.1 k.3.1 (place_once _ _ h.3.0 k.3.0 h.3.2 k.3.2))
stops_once t (Aboard m) (Behind n) h k = absurd (h.3.2.2 (k.3 h.3.0 h.3.2.0))
stops_once t (Behind m) (Sectors n) h k = absurd (k.1 h.0)
stops_once t (Behind m) (Holds n) h k = absurd (k.1.2.2 (h.1 k.1.0 k.1.2.0))
stops_once t (Behind m) Leaves h k = absurd (k.2 h.2)
stops_once t (Behind m) (Aboard n) h k = absurd (k.3.2.2 (h.3 k.3.0 k.3.2.0))
stops_once t (Behind m) (Behind n) h k = ap Behind (place_once _ _ m n h.4 k.4)

-- One fault of a text -----------------------------------------------------------------------------

load_once : (file : StopFile) (a b : StopTextFault) → IsLoadFault file a → IsLoadFault file b → a ≢ stop.NoMemory → b ≢ stop.NoMemory → a ≡ b
load_once file _ _ (wrong_task m x h) (wrong_task n y k) not_a not_b = let same = first_once (sectors_of file) m n x y h k in λ i. stop.Task (same.0 i) (same.1 i)
load_once file _ _ (wrong_task m x h) (wrong_load y tasks k) not_a not_b = absurd (no_first_fault (sectors_of file) m x tasks h)
load_once file _ _ (wrong_task m x h) no_memory not_a not_b = absurd (not_b refl)
load_once file _ _ (wrong_load x tasks h) (wrong_task n y k) not_a not_b = absurd (no_first_fault (sectors_of file) n y tasks k)
load_once file _ _ (wrong_load x tasks h) (wrong_load y tasks' k) not_a not_b = ap stop.Stop (stops_once (stops_of_file file) x y h k)
load_once file _ _ (wrong_load x tasks h) no_memory not_a not_b = absurd (not_b refl)
load_once file _ _ no_memory k not_a not_b = absurd (not_a refl)

in_memory : (f : LineFault) → stop_text_fault f ≢ stop.NoMemory → f ≢ line.NoMemory
in_memory f other e = other (ap stop_text_fault e)

pub refused_once : (text : List ℕ) (a b : StopTextFault) → IsRefusedStops text a → IsRefusedStops text b → a ≢ stop.NoMemory → b ≢ stop.NoMemory → a ≡ b
refused_once text _ _ (by_lines f p) (by_lines g q) not_a not_b = ap stop_text_fault (wrong_once text f g p q (in_memory f not_a) (in_memory g not_b))
refused_once text _ _ (by_lines f p) (by_load file b s k) not_a not_b = absurd (not_a (right_lines text file f s p))
refused_once text _ _ (by_load file a s h) (by_lines g q) not_a not_b = absurd (not_b (right_lines text file g s q))
refused_once text _ _ (by_load file a s h) (by_load other b u k) not_a not_b =
    load_once file a b h (subst (λ (f : StopFile). IsLoadFault f b) (spelled_once text other file u s) k) not_a not_b
