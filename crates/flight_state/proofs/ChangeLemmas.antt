-- late changes added one by one
use Rattle.std.proofs.Common.{◌≡◌, ℕ, ◌+◌, ◌<◌, ◌≤◌, true, List, length, drop, get_or, sym, ◌∙◌, ap}
use Rattle.std.proofs.lemmas.Bool.{and_parts}
use Rattle.std.proofs.lemmas.List.{drop_all, drop_more}
use Rattle.trim.specs.declared.figures.Figures.{Figures}
use Rattle.flight_state.specs.Effective.{with_change, with_changes, can_add, can_add_all}
use Rattle.flight_state.specs.declared.change.Lmc.{Lmc}

-- what is still to be added to the figures gives the whole, and can be added
abbrev pub IsLeft : Figures → Figures → List Lmc → Type 0
IsLeft whole f changes = (with_changes f changes ≡ whole) × (can_add_all f changes ≡ true)

pub left-next : (whole f : Figures) (changes : List Lmc) (i : ℕ) (d : Lmc) → i < length changes → IsLeft whole f (drop i changes) → can_add f (get_or changes i d) ≡ true
left-next whole f changes i d within left =
    (and_parts (can_add f (get_or changes i d)) (can_add_all (with_change f (get_or changes i d)) (drop (i + 1) changes))
    (ap (can_add_all f) (sym (drop_more changes i d within)) ∙ left.1)).0

pub left-more : (whole f g : Figures) (changes : List Lmc) (i : ℕ) (d : Lmc) → i < length changes → g ≡ with_change f (get_or changes i d) → IsLeft whole f (drop i changes) → IsLeft whole g (drop (i + 1) changes)
left-more whole f g changes i d within is left =
    let here = drop_more changes i d within in (
      ap (λ h. with_changes h (drop (i + 1) changes)) is ∙ ap (with_changes f) (sym here) ∙ left.0,
      ap (λ h. can_add_all h (drop (i + 1) changes)) is
          ∙ (and_parts (can_add f (get_or changes i d)) (can_add_all (with_change f (get_or changes i d)) (drop (i + 1) changes)) (ap (can_add_all f) (sym here) ∙ left.1)).1,
    )

pub left-none : (whole f : Figures) (changes : List Lmc) (i : ℕ) → length changes ≤ i → IsLeft whole f (drop i changes) → f ≡ whole
left-none whole f changes i past left = ap (with_changes f) (sym (drop_all i changes past)) ∙ left.0
