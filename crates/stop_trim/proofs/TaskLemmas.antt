-- the tasks of the first sectors
use Rattle.std.proofs.Common.{◌≡◌, ⊎_elim, ℕ, ◌+◌, ◌<◌, List, [], ◌∷◌, ◌++◌, length, get_or, refl, ap, sym, ◌∙◌, subst, Some, arith}
use Rattle.std.proofs.lemmas.Bool.{cases_eq}
use Rattle.std.proofs.lemmas.List.{get_or_append_left, get_or_push, length_push}
use Rattle.std.proofs.lemmas.Option.{get_or_from_slice_get, slice_get-get_or, slice_get_cases, slice_get_read, slice_get_within}
use Rattle.hold_limits.specs.Problem.{Problem}
use Rattle.aircraft_file.specs.Craft.{Craft}
use Rattle.trim.specs.declared.figures.Figures.{Figures}
use Rattle.trim.specs.Refusals.{IsTaskOf}
use Rattle.stop_trim.specs.Sectors.{AreTasksAt}
use Rattle.stop_trim.specs.Refusals.{HaveTasksBefore, IsSectorFault, IsTrimFault}
use Rattle.stop_trim.specs.declared.fault.StopTrim.{StopTrim}
use Rattle.stop_trim.specs.declared.fault.StopTrim.TheVariants.{Trim, Stop, NoMemory}

-- one more task, of the next sector
pub tasks-push : (a : Craft) (sectors : List Figures) (tasks : List Problem) (f : Figures) (t : Problem) → AreTasksAt a sectors tasks
    → f ≡ get_or sectors (length tasks) f → IsTaskOf a f t → AreTasksAt a sectors (tasks ++ t ∷ [])
tasks-push a sectors tasks f t each is_next is_task place g u at_sector at_task = ⊎_elim
    (λ (last : place ≡ length tasks).
    let same_figures : f ≡ g = is_next ∙ ap (λ (i : ℕ). get_or sectors i f) (sym last) ∙ get_or_from_slice_get sectors place g f at_sector in
    let same_task : t ≡ u = sym (get_or_push tasks t t place (sym last)) ∙ get_or_from_slice_get (tasks ++ t ∷ []) place u t at_task in
    let P : Problem → Type 0 = IsTaskOf a g in
    let Q : Figures → Type 0 = λ x. IsTaskOf a x t in
    subst P same_task (subst Q same_figures is_task))
    (λ (other : place ≡ length tasks → ⊥).
    let within = slice_get_within (tasks ++ t ∷ []) place u at_task in
    let before : place < length tasks = omega (arith, within, length_push tasks t, other) in
    let same : get_or tasks place u ≡ u = sym (get_or_append_left tasks (t ∷ []) u place before) ∙ get_or_from_slice_get (tasks ++ t ∷ []) place u u at_task in
    each place g u at_sector (slice_get-get_or tasks place u before ∙ ap Some same))
    (cases_eq place (length tasks))

-- a sector before the last of them has a task
pub tasks-before : (a : Craft) (sectors : List Figures) (tasks : List Problem) (place : ℕ) → AreTasksAt a sectors tasks → length tasks ≡ place → HaveTasksBefore place a sectors
tasks-before a sectors tasks place each so_far earlier f before at_sector = ⊎_elim
    (λ there. (there.0, each earlier f there.0 at_sector there.2))
    (λ past. absurd (omega (arith, past.0, so_far, before)))
    (slice_get_cases tasks earlier).1

-- the fault of the next sector is that of them all
pub next-refused : (a : Craft) (sectors : List Figures) (tasks : List Problem) (f : Figures) (place : ℕ) (fault : StopTrim) → AreTasksAt a sectors tasks → length tasks ≡ place
    → place < length sectors → f ≡ get_or sectors place f → IsSectorFault a f (place + 1) fault → IsTrimFault a sectors fault
next-refused a sectors tasks f place (Trim number fault) each so_far within is_next is = record {
  place = place;
  number_is = is.0;
  figures = f;
  figures_are = slice_get_read sectors (length sectors) place f refl within is_next;
  earlier = tasks-before a sectors tasks place each so_far;
  refused = is.1;
}
next-refused a sectors tasks f place (Stop fault) each so_far within is_next is = absurd is
next-refused a sectors tasks f place NoMemory each so_far within is_next is = record {}
