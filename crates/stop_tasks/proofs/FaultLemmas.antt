-- what the tests of a load over several sectors find
use Rattle.std.proofs.Common.{◌≡◌, ℕ, ◌+◌, ◌<◌, ◌≤◌, List, ◌∷◌, length, get_or, drop, refl, ap, ◌∙◌, add-one, [], arith, subst}
use Rattle.std.proofs.Math.Seq.{drop-cons}
use Rattle.std.proofs.lemmas.List.{length-drop, drop_all}
use Rattle.std.proofs.lemmas.Bool.{le-leb}
use Rattle.std.proofs.lemmas.Option.{slice_get_read, get_or_from_slice_get}
use Rattle.std.specs.Prelude.{◌↔◌}
use Rattle.hold_parts.specs.declared.parts.Item.{Item}
use Rattle.hold_limits.specs.Problem.{Problem}
use Rattle.stop_tasks.specs.Stops.{aboard}
use Rattle.stop_tasks.specs.StopFaults.{OfSector}
use Rattle.stop_tasks.proofs.StayingLemmas.{staying-taken}

-- what is said of the first sector and of another one is said of the two that are read
pub of-sector : (P : Problem → Problem → Type 0) (sectors : List Problem) (place : ℕ) (first sector : Problem) → 0 < length sectors → place < length sectors
    → first ≡ get_or sectors 0 first → sector ≡ get_or sectors place sector → P first sector ↔ OfSector P sectors place
of-sector P sectors place first sector some within is_first is_sector = (
  λ holds other another at_first at_place.
      let one : first ≡ other = is_first ∙ get_or_from_slice_get sectors 0 other first at_first in
      let two : sector ≡ another = is_sector ∙ get_or_from_slice_get sectors place another sector at_place in
      let Q : Problem → Type 0 = λ x. P x another in
      subst Q one (subst (P first) two holds),
  λ all. all first sector (slice_get_read sectors (length sectors) 0 first refl some is_first) (slice_get_read sectors (length sectors) place sector refl within is_sector),
)

-- where the next container of the offer is aboard, it is the next of the sector
pub next-aboard : (items offer : List Item) (leaves : List ℕ) (number next place : ℕ) (x y : Item) → length leaves ≡ length offer → place < length offer
    → number ≤ get_or leaves place 0 → y ≡ get_or offer place y → drop next items ≡ aboard (drop place offer) (drop place leaves) number
    → (next < length items) × (x ≡ get_or items next x → x ≡ y)
next-aboard items offer leaves number next place x y long within later at_place left =
    let listed : place < length leaves = omega arith in
    let taken = staying-taken offer leaves number place y within listed (le-leb number (get_or leaves place 0) later) in
    let inside : next < length items = omega (arith, length-drop next items, ap length (left ∙ taken)) in
    (inside, λ at_next. let cut = drop-cons items next x inside in cc)

-- so both go on alike
pub both-go-on : (items offer : List Item) (leaves : List ℕ) (number next place : ℕ) (x : Item) → length leaves ≡ length offer → place < length offer
    → next < length items → number ≤ get_or leaves place 0 → x ≡ get_or offer place x → x ≡ get_or items next x
    → (drop next items ≡ aboard (drop place offer) (drop place leaves) number) ↔ (drop (next + 1) items ≡ aboard (drop (place + 1) offer) (drop (place + 1) leaves) number)
both-go-on items offer leaves number next place x long within inside later at_place at_next =
    let listed : place < length leaves = omega arith in
    let taken = staying-taken offer leaves number place x within listed (le-leb number (get_or leaves place 0) later) in
    let cut : drop next items ≡ get_or items next x ∷ drop (next + 1) items = rw add-one (drop-cons items next x inside) in
    (λ same. cc, λ same. cc)

-- there is a next one of the sector where one of the offer is aboard
pub none-left : (items offer : List Item) (leaves : List ℕ) (number next place : ℕ) → length leaves ≡ length offer → place < length offer
    → number ≤ get_or leaves place 0 → drop next items ≡ aboard (drop place offer) (drop place leaves) number → next ≡ length items → ⊥
none-left items offer leaves number next place long within later left whole =
    elim offer as (λ xs. (place < length xs) → length leaves ≡ length xs → drop next items ≡ aboard (drop place xs) (drop place leaves) number → ⊥) [
      | [] ↦ λ no other same. absurd (omega arith)
      | y ∷ ys ↦ λ inside long same.
          let listed : place < length leaves = omega arith in
          let taken = staying-taken (y ∷ ys) leaves number place y inside listed (le-leb number (get_or leaves place 0) later) in
          omega (arith, length-drop next items, ap length (same ∙ taken))
    ] within long left

-- past the end of the offer nothing more is aboard
pub none-past : (items offer : List Item) (leaves : List ℕ) (number next place : ℕ) → length offer ≤ place → next ≤ length items
    → (drop next items ≡ aboard (drop place offer) (drop place leaves) number) ↔ (next ≡ length items)
none-past items offer leaves number next place past within =
    let none : drop place offer ≡ [] = drop_all place offer past in
    rw none (λ same. omega (arith, length-drop next items, ap length same), λ whole. drop_all next items (omega arith))
