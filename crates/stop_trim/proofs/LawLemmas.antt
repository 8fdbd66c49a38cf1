-- at most one answer is due to the figures of the sectors
use Rattle.std.proofs.Common.{◌≡◌, ⊎_elim, ℕ, ◌+◌, ◌<◌, List, [], ◌∷◌, get_or, refl, ap, sym, ◌∙◌, subst, arith}
use Rattle.std.proofs.lemmas.Bool.{cases_order}
use Rattle.std.proofs.lemmas.List.{ext_get_or}
use Rattle.std.proofs.lemmas.Option.{slice_get-get_or}
use Rattle.hold_limits.specs.Problem.{Problem}
use Rattle.aircraft_file.specs.Craft.{Craft}
use Rattle.trim.specs.declared.figures.Figures.{Figures}
use Rattle.trim.specs.declared.fault.TrimFault.{TrimFault}
use Rattle.trim.specs.Refusals.{IsTaskOf}
use Rattle.trim.proofs.LawLemmas as flight
use Rattle.stop_tasks.specs.Stops.{Stops, stops_of}
use Rattle.stop_tasks.specs.StopFaults.{AreLawfulStops, IsFirstWithout, IsStopFault}
use Rattle.stop_tasks.specs.declared.fault.StopFault.{StopFault}
use Rattle.stop_tasks.specs.declared.fault.StopFault.TheVariants.{Sectors, Holds, Leaves, Aboard, Behind}
use Rattle.stop_trim.specs.Sectors.{AreTasksOf, IsLoadOf}
use Rattle.stop_trim.specs.Refusals.{IsFaulty, IsFirstFaulty, IsFaultOfLoad, IsRefusedLoad}
use Rattle.stop_trim.specs.declared.fault.StopTrim.{StopTrim}
use Rattle.stop_trim.specs.declared.fault.StopTrim.TheVariants as load
use Rattle.stop_trim.proofs.LoadLemmas.{figures-there, task-there}

-- The load --------------------------------------------------------------------------------------

tasks-once : (a : Craft) (sectors : List Figures) (tasks others : List Problem) → AreTasksOf a sectors tasks → AreTasksOf a sectors others → tasks ≡ others
tasks-once a sectors [] [] one other = refl
tasks-once a sectors [] (u ∷ us) one other = absurd (omega (arith, one.one_each, other.one_each))
tasks-once a sectors (t ∷ ts) others one other =
    ext_get_or t (t ∷ ts) others (one.one_each ∙ sym other.one_each) (λ place within.
    let here = slice_get-get_or (t ∷ ts) place t within in
    let there = slice_get-get_or others place t (omega (arith, within, one.one_each, other.one_each)) in
    let f = figures-there a sectors (t ∷ ts) place (get_or (t ∷ ts) place t) one here in
    flight.task-once a f.0 _ _ (one.each place f.0 _ f.1 here) (other.each place f.0 _ f.1 there))

pub load-once : (a : Craft) (sectors : List Figures) (leaves : List ℕ) (behind : List (ℕ × ℕ)) (t u : Stops) → IsLoadOf a sectors leaves behind t → IsLoadOf a sectors leaves behind u → t ≡ u
load-once a sectors leaves behind t u one other =
    let tasks = tasks-once a sectors t.sectors u.sectors one.tasks other.tasks in
    let leaving = one.leaving ∙ sym other.leaving in
    let pairs = one.pairs ∙ sym other.pairs in
    λ i. record {
      sectors = tasks i;
      leaves = leaving i;
      behind = pairs i;
    }

-- Refused figures -------------------------------------------------------------------------------

no-task : (a : Craft) (f : Figures) (t : Problem) (fault : TrimFault) → IsTaskOf a f t → ¬ (IsFaulty a f fault)
no-task a f t fault task faulty = faulty.1 (flight.unrefused a f t fault task faulty.0)

no-tasks : (a : Craft) (sectors : List Figures) (tasks : List Problem) (number : ℕ) (fault : TrimFault) → AreTasksOf a sectors tasks → ¬ (IsFirstFaulty a sectors number fault)
no-tasks a sectors tasks number fault are faulty =
    let there = task-there a sectors tasks faulty.place faulty.figures are faulty.figures_are in
    no-task a faulty.figures there.0 fault (are.each faulty.place faulty.figures there.0 faulty.figures_are there.1) faulty.refused

-- a sector after the first that is refused is not the first one
later-refused : (a : Craft) (sectors : List Figures) (m n : ℕ) (x y : TrimFault) (one : IsFirstFaulty a sectors m x) (other : IsFirstFaulty a sectors n y) → ¬ (one.place < other.place)
later-refused a sectors m n x y one other before =
    let task = other.earlier one.place one.figures before one.figures_are in
    no-task a one.figures task.0 x task.1 one.refused

pub sector-once : (a : Craft) (sectors : List Figures) (m n : ℕ) (x y : TrimFault) → IsFirstFaulty a sectors m x → IsFirstFaulty a sectors n y → m ≡ n
sector-once a sectors m n x y one other = ⊎_elim
    (λ same. one.number_is ∙ ap (λ (place : ℕ). place + 1) same ∙ sym other.number_is)
    (λ different. ⊎_elim
    (λ before. absurd (later-refused a sectors m n x y one other before))
    (λ after. absurd (later-refused a sectors n m y x other one after))
    different)
    (cases_order one.place other.place)

pub kind-once : (a : Craft) (sectors : List Figures) (leaves : List ℕ) (behind : List (ℕ × ℕ)) (number : ℕ) (x : TrimFault) (y : StopFault)
    → IsFirstFaulty a sectors number x → ¬ (IsFaultOfLoad a sectors leaves behind y)
kind-once a sectors leaves behind number x y faulty fault = no-tasks a sectors fault.0 number x fault.1 faulty

-- Faults of the load ----------------------------------------------------------------------------

lawful-right : (t : Stops) (fault : StopFault) → AreLawfulStops t → ¬ (IsStopFault t fault)
lawful-right t (Sectors number) lawful is = is.1 lawful.sectors
lawful-right t (Holds number) lawful is = is.1.2.2 (lawful.holds is.1.0 is.1.2.0)
lawful-right t Leaves lawful is = is.2 lawful.leaves
lawful-right t (Aboard number) lawful is = is.3.2.2 (lawful.aboard is.3.0 is.3.2.0)
lawful-right t (Behind number) lawful is = is.4.2 (lawful.behind number is.4.0)

first-once : (P : ℕ → Type 0) (end p q : ℕ) → IsFirstWithout P end p → IsFirstWithout P end q → p ≡ q
first-once P end p q one other = ⊎_elim
    (λ same. same)
    (λ different. ⊎_elim
    (λ before. absurd (one.2 (other.1 p before)))
    (λ after. absurd (other.2 (one.1 q after)))
    different)
    (cases_order p q)

-- a number that is one above its place is one number
number-once : (P : ℕ → Type 0) (end m n : ℕ) → (place : ℕ) × (m ≡ place + 1) × IsFirstWithout P end place → (place : ℕ) × (n ≡ place + 1) × IsFirstWithout P end place → m ≡ n
number-once P end m n one other = one.1 ∙ ap (λ (place : ℕ). place + 1) (first-once P end one.0 other.0 one.2 other.2) ∙ sym other.1

fault-once : (t : Stops) (x y : StopFault) → IsStopFault t x → IsStopFault t y → x ≡ y
fault-once t (Sectors m) (Sectors n) one other = ap Sectors (one.0 ∙ sym other.0)
fault-once t (Sectors m) (Holds n) one other = absurd (one.1 other.0)
fault-once t (Sectors m) Leaves one other = absurd (one.1 other.0)
fault-once t (Sectors m) (Aboard n) one other = absurd (one.1 other.0)
fault-once t (Sectors m) (Behind n) one other = absurd (one.1 other.0)
fault-once t (Holds m) (Sectors n) one other = absurd (other.1 one.0)
fault-once t (Holds m) (Holds n) one other = ap Holds (number-once _ _ m n one.1 other.1)
fault-once t (Holds m) Leaves one other = absurd (one.1.2.2 (other.1 one.1.0 one.1.2.0))
fault-once t (Holds m) (Aboard n) one other = absurd (one.1.2.2 (other.1 one.1.0 one.1.2.0))
fault-once t (Holds m) (Behind n) one other = absurd (one.1.2.2 (other.1 one.1.0 one.1.2.0))
fault-once t Leaves (Sectors n) one other = absurd (other.1 one.0)
fault-once t Leaves (Holds n) one other = absurd (other.1.2.2 (one.1 other.1.0 other.1.2.0))
fault-once t Leaves Leaves one other = refl
fault-once t Leaves (Aboard n) one other = absurd (one.2 other.2)
fault-once t Leaves (Behind n) one other = absurd (one.2 other.2)
fault-once t (Aboard m) (Sectors n) one other = absurd (other.1 one.0)
fault-once t (Aboard m) (Holds n) one other = absurd (other.1.2.2 (one.1 other.1.0 other.1.2.0))
fault-once t (Aboard m) Leaves one other = absurd (other.2 one.2)
fault-once t (Aboard m) (Aboard n) one other = ap Aboard (number-once _ _ m n one.3 other.3)
fault-once t (Aboard m) (Behind n) one other = absurd (one.3.2.2 (other.3 one.3.0 one.3.2.0))
fault-once t (Behind m) (Sectors n) one other = absurd (other.1 one.0)
fault-once t (Behind m) (Holds n) one other = absurd (other.1.2.2 (one.1 other.1.0 other.1.2.0))
fault-once t (Behind m) Leaves one other = absurd (other.2 one.2)
fault-once t (Behind m) (Aboard n) one other = absurd (other.3.2.2 (one.3 other.3.0 other.3.2.0))
fault-once t (Behind m) (Behind n) one other = ap Behind (first-once _ _ m n one.4 other.4)

pub load-fault-once : (a : Craft) (sectors : List Figures) (leaves : List ℕ) (behind : List (ℕ × ℕ)) (x y : StopFault)
    → IsFaultOfLoad a sectors leaves behind x → IsFaultOfLoad a sectors leaves behind y → x ≡ y
load-fault-once a sectors leaves behind x y one other =
    let same = tasks-once a sectors one.0 other.0 one.1 other.1 in
    let P : List Problem → Type 0 = λ tasks. IsStopFault (stops_of tasks leaves behind) x in
    fault-once (stops_of other.0 leaves behind) x y (subst P same one.2) other.2

-- a load with nothing wrong is refused only where memory runs out
pub unrefused : (a : Craft) (sectors : List Figures) (leaves : List ℕ) (behind : List (ℕ × ℕ)) (t : Stops) (fault : StopTrim) → IsLoadOf a sectors leaves behind t → AreLawfulStops t
    → IsRefusedLoad a sectors leaves behind fault → fault ≡ load.NoMemory
unrefused a sectors leaves behind t (load.Trim number fault) is lawful refused = absurd (no-tasks a sectors t.sectors number fault is.tasks refused)
unrefused a sectors leaves behind t (load.Stop fault) is lawful refused =
    let other : IsLoadOf a sectors leaves behind (stops_of refused.0 leaves behind) = record { tasks = refused.1; leaving = refl; pairs = refl } in
    let same = load-once a sectors leaves behind (stops_of refused.0 leaves behind) t other is in
    let P : Stops → Type 0 = λ u. IsStopFault u fault in
    absurd (lawful-right t fault lawful (subst P same refused.2))
unrefused a sectors leaves behind t load.NoMemory is lawful refused = refl
