-- the containers of a prefix with their positions, one after another
use Rattle.std.proofs.Common.{◌≡◌, ℕ, zero, suc, zip, ◌+◌, ◌<◌, ◌≤◌, List, [], ◌∷◌, ◌++◌, length, get_or, take, Some, refl, ap, ap₂, ◌∙◌, arith}
use Rattle.std.proofs.lemmas.Slice.Zip.{get_or-zip, length-zip}
use Rattle.std.proofs.lemmas.Option.{get_or_from_slice_get, slice_get-get_or, slice_get_within}
use Rattle.std.proofs.lemmas.List.{take_more, get_or_default}
use Rattle.std.specs.Prelude.{slice_get, ◌↔◌}
use Rattle.hold_parts.specs.declared.parts.Item.{Item}
use Rattle.hold_limits.specs.Layout.{Layout}
use Rattle.hold_limits.specs.Problem.{Problem}
use Rattle.hold_limits.specs.BranchOrder.{ordered}
use Rattle.hold_limits.specs.Placement.{IsAccepted, Placed, placed}
use Rattle.hold_limits.proofs.BranchOrderLemmas.{length-ordered}

-- the containers of a prefix with their positions
abbrev pub pairs : List Item → List ℕ → List Placed
pairs items prefix = zip (ordered items) prefix

pub length-pairs : (items : List Item) (prefix : List ℕ) → length prefix ≤ length items → length (pairs items prefix) ≡ length prefix
length-pairs items prefix short = length-zip (ordered items) prefix ∙ omega (arith, length-ordered items)

pub length-placed : (t : Problem) (prefix : List ℕ) → length prefix ≤ length t.items → length (placed t prefix) ≡ length prefix
length-placed t prefix short = length-pairs t.items prefix short

zip-take : {X Y : Type 0} (xs : List X) (n : ℕ) (ys : List Y) → zip xs (take n ys) ≡ take n (zip xs ys)
zip-take [] zero ys = refl
zip-take [] (suc n) ys = refl
zip-take (x ∷ xs) zero ys = refl
zip-take (x ∷ xs) (suc n) [] = refl
zip-take (x ∷ xs) (suc n) (y ∷ ys) = ap (λ zs. (x, y) ∷ zs) (zip-take xs n ys)

-- the first placed containers are those of the first numbers
pub placed-take : (t : Problem) (n : ℕ) (prefix : List ℕ) → placed t (take n prefix) ≡ take n (placed t prefix)
placed-take t n prefix = zip-take (ordered t.items) n prefix

-- the container at a rank with the number at that rank
pub get_or-pairs : (items : List Item) (prefix : List ℕ) (rank q : ℕ) (item : Item) (d : Placed) → length prefix ≤ length items → rank < length prefix
    → slice_get (ordered items) rank ≡ Some item → get_or prefix rank 0 ≡ q → get_or (pairs items prefix) rank d ≡ (item, q)
get_or-pairs items prefix rank q item d short within there number =
    let inside : rank < length (ordered items) = omega (arith, length-ordered items) in
    get_or-zip (ordered items) prefix rank d inside within
    ∙ ap₂ (λ a b. (a, b)) (get_or_from_slice_get (ordered items) rank item d.0 there) (get_or_default prefix rank d.1 0 within ∙ number)

pub get_or-placed : (t : Problem) (prefix : List ℕ) (rank q : ℕ) (item : Item) (d : Placed) → length prefix ≤ length t.items → rank < length prefix
    → slice_get (ordered t.items) rank ≡ Some item → get_or prefix rank 0 ≡ q → get_or (placed t prefix) rank d ≡ (item, q)
get_or-placed t = get_or-pairs t.items

pub placed-at : (t : Problem) (prefix : List ℕ) (rank q : ℕ) (item : Item) → slice_get (ordered t.items) rank ≡ Some item → slice_get prefix rank ≡ Some q
    → slice_get (placed t prefix) rank ≡ Some (item, q)
placed-at t prefix rank q item there number =
    let in_order : rank < length (ordered t.items) = slice_get_within (ordered t.items) rank item there in
    let in_prefix : rank < length prefix = slice_get_within prefix rank q number in
    let inside : rank < length (placed t prefix) = omega (arith, length-zip (ordered t.items) prefix) in
    let pair : get_or (placed t prefix) rank (item, q) ≡ (item, q) =
    get_or-zip (ordered t.items) prefix rank (item, q) in_order in_prefix
    ∙ ap₂ (λ a b. (a, b)) (get_or_from_slice_get (ordered t.items) rank item item there) (get_or_from_slice_get prefix rank q q number) in
    slice_get-get_or (placed t prefix) rank (item, q) inside ∙ ap (λ p. Some p) pair

pub take-pairs_more : (items : List Item) (prefix : List ℕ) (rank q : ℕ) (item : Item) → length prefix ≤ length items → rank < length prefix
    → slice_get (ordered items) rank ≡ Some item → get_or prefix rank 0 ≡ q → take (rank + 1) (pairs items prefix) ≡ take rank (pairs items prefix) ++ (item, q) ∷ []
take-pairs_more items prefix rank q item short within there number =
    let inside : rank < length (pairs items prefix) = omega (arith, length-pairs items prefix short) in
    take_more (pairs items prefix) rank (item, q) inside ∙ ap (λ p. take rank (pairs items prefix) ++ p ∷ []) (get_or-pairs items prefix rank q item (item, q) short within there number)

-- the container of a rank is accepted exactly if the number at that rank is that of a position that accepts it
pub accepted-pair : (items : List Item) (prefix : List ℕ) (rank : ℕ) (item : Item) (hold : Layout) (d : Placed) → length prefix ≤ length items → rank < length prefix
    → slice_get (ordered items) rank ≡ Some item → IsAccepted hold (item, get_or prefix rank 0) ↔ IsAccepted hold (get_or (pairs items prefix) rank d)
accepted-pair items prefix rank item hold d short within there =
    let pair : get_or (pairs items prefix) rank d ≡ (item, get_or prefix rank 0) = get_or-pairs items prefix rank _ item d short within there refl in
    rw pair (λ x. x, λ x. x)
