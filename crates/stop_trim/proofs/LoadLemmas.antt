-- the paths of a load over several sectors
use Rattle.std.proofs.Common.{◌≡◌, ◌↔◌, ⊎_elim, ℕ, ◌+◌, List, length, sym, subst, Some, arith}
use Rattle.std.proofs.lemmas.Option.{slice_get_cases, slice_get_within}
use Rattle.std.specs.Prelude.{slice_get}
use Rattle.hold_parts.specs.declared.parts.Item.{Item}
use Rattle.hold_limits.specs.Placement.{IsAdmissible}
use Rattle.hold_limits.specs.Problem.{Problem}
use Rattle.aircraft_file.specs.Craft.{Craft}
use Rattle.trim.specs.declared.figures.Figures.{Figures}
use Rattle.trim.proofs.TaskLemmas.{admissible-is}
use Rattle.stop_tasks.specs.Stops.{leaves_in_order, stops_of}
use Rattle.stop_tasks.specs.StopPaths.{IsReachable, IsStopAdmissible, OnSectors, part_of}
use Rattle.stop_trim.specs.Sectors.{AreTasksOf, IsFlyableOnEach, IsStopFlyable}

-- each task has its figures, and the figures of each sector have their task
pub figures-there : (a : Craft) (sectors : List Figures) (tasks : List Problem) (place : ℕ) (t : Problem) → AreTasksOf a sectors tasks → slice_get tasks place ≡ Some t
    → (f : Figures) × (slice_get sectors place ≡ Some f)
figures-there a sectors tasks place t are at_task = ⊎_elim
    (λ there. (there.0, there.2))
    (λ past. absurd (omega (arith, past.0, are.one_each, slice_get_within tasks place t at_task)))
    (slice_get_cases sectors place).1

pub task-there : (a : Craft) (sectors : List Figures) (tasks : List Problem) (place : ℕ) (f : Figures) → AreTasksOf a sectors tasks → slice_get sectors place ≡ Some f
    → (t : Problem) × (slice_get tasks place ≡ Some t)
task-there a sectors tasks place f are at_sector = ⊎_elim
    (λ there. (there.0, there.2))
    (λ past. absurd (omega (arith, past.0, are.one_each, slice_get_within sectors place f at_sector)))
    (slice_get_cases tasks place).1

-- the parts of a path are admissible for the tasks exactly where they are for the flights
flyable-is : (a : Craft) (sectors : List Figures) (tasks : List Problem) (last path : List ℕ) → AreTasksOf a sectors tasks
    → OnSectors IsAdmissible tasks last path ↔ IsFlyableOnEach a sectors last path
flyable-is a sectors tasks last path are = (
  λ on place f at_sector.
      let there = task-there a sectors tasks place f are at_sector in
      (admissible-is a f there.0 (are.each place f there.0 at_sector there.1).parts (part_of last (place + 1) path)).0 (on place there.0 there.1),
  λ flyable place t at_task.
      let there = figures-there a sectors tasks place t are at_task in
      (admissible-is a there.0 t (are.each place there.0 t there.1 at_task).parts (part_of last (place + 1) path)).1 (flyable place there.0 there.1),
)

-- so is a path over all of them
pub stop-flyable-is : (a : Craft) (sectors : List Figures) (tasks : List Problem) (leaves : List ℕ) (behind : List (ℕ × ℕ)) (path : List ℕ) → AreTasksOf a sectors tasks
    → IsStopAdmissible (stops_of tasks leaves behind) path ↔ IsStopFlyable a sectors leaves behind path
stop-flyable-is a sectors tasks leaves behind path are = (
  λ admissible.
      let there = figures-there a sectors tasks 0 admissible.first are admissible.is_first in
      let same : admissible.first.items ≡ there.0.containers = (are.each 0 there.0 admissible.first there.1 admissible.is_first).parts.items in
      let P : List Item → Type 0 = λ items. (length path ≡ length items) × IsReachable (leaves_in_order items leaves) behind path × OnSectors IsAdmissible tasks (leaves_in_order items leaves) path in
      let known : P there.0.containers = subst P same (admissible.complete, admissible.reachable, admissible.sectors) in
      record {
        first = there.0;
        is_first = there.1;
        complete = known.0;
        reachable = known.1;
        flyable = (flyable-is a sectors tasks (leaves_in_order there.0.containers leaves) path are).0 known.2;
      },
  λ flyable.
      let there = task-there a sectors tasks 0 flyable.first are flyable.is_first in
      let same : there.0.items ≡ flyable.first.containers = (are.each 0 flyable.first there.0 flyable.is_first there.1).parts.items in
      let P : List Item → Type 0 = λ items. (length path ≡ length items) × IsReachable (leaves_in_order items leaves) behind path × OnSectors IsAdmissible tasks (leaves_in_order items leaves) path in
      let known : P there.0.items = subst P (sym same) (flyable.complete, flyable.reachable, (flyable-is a sectors tasks (leaves_in_order flyable.first.containers leaves) path are).1 flyable.flyable) in
      record {
        first = there.0;
        is_first = there.1;
        complete = known.0;
        reachable = known.1;
        sectors = known.2;
      },
)
