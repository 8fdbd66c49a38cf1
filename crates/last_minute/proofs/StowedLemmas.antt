-- the containers that a sheet's maker holds, one after another
use Rattle.std.proofs.Common.{◌≡◌, ◌≢◌, ℕ, ◌+◌, ◌==◌, ◌<◌, ◌≤◌, Bool, true, false, if◌then◌else◌, List, ◌∷◌, length, get_or, take, drop, Some, None, refl, ap, sym, ◌∙◌, arith, All}
use Rattle.std.proofs.lemmas.Bool.Decides.{nat_tests}
use Rattle.std.proofs.lemmas.List.{drop_more, drop_all, take_all}
use Rattle.std.proofs.lemmas.List.Sums.{sum_by_more}
use Rattle.std.proofs.lemmas.Option.{get_or_from_slice_get, slice_get_within}
use Rattle.std.specs.Prelude.{slice_get, find}
use Rattle.hold_parts.specs.declared.parts.Item.{Item}
use Rattle.hold_limits.specs.BranchOrder.{ordered}
use Rattle.hold_limits.specs.Placement.{Placed, placed_load}
use Rattle.hold_limits.proofs.BranchOrderLemmas.{rank-is}
use Rattle.hold_limits.proofs.PlacedLemmas.{get_or-pairs, length-pairs}
use Rattle.last_minute.specs.declared.places.Stowage.{Stowage}
use Rattle.last_minute.specs.Sheets.{IsStowage, stowed}

pub length-stowed : (s : Stowage) → IsStowage s → length (stowed s) ≡ length s.path.now
length-stowed s held = length-pairs s.items.now s.path.now (omega (arith, held.complete))

-- a container at a rank has at most 1,000,000 kg
pub light-at : (items : List Item) (rank : ℕ) (item : Item) → All (λ (item : Item). item.mass.0 ≤ 1000000) items → rank < length items → slice_get (ordered items) rank ≡ Some item → item.mass.0 ≤ 1000000
light-at items rank item each within there =
    let r = rank-is items rank within in
    let light = rw (get_or_from_slice_get items r.0.0 r.0.1 r.0.1 r.3) at (each r.0.0 r.0.1 (slice_get_within items r.0.0 r.0.1 r.3)) in
    let there_too : slice_get (ordered items) rank ≡ Some r.0.1 = r.2 in
    let same : item ≡ r.0.1 = cc in
    rw same light

-- the next container of those at a rank and further on
pub drop-stowed : (s : Stowage) (rank q : ℕ) (item : Item) → IsStowage s → rank < length s.path.now → slice_get (ordered s.items.now) rank ≡ Some item → get_or s.path.now rank 0 ≡ q
    → drop rank (stowed s) ≡ (item, q) ∷ drop (rank + 1) (stowed s)
drop-stowed s rank q item held within there number =
    let inside : rank < length (stowed s) = omega (arith, length-stowed s held) in
    drop_more (stowed s) rank (item, q) inside
    ∙ ap (λ (p : Placed). p ∷ drop (rank + 1) (stowed s)) (get_or-pairs s.items.now s.path.now rank q item (item, q) (omega (arith, held.complete)) within there number)

same-number : (m n : ℕ) → m ≡ n → (m == n) ≡ true
same-number m n same = grind (arith, nat_tests)

other-number : (m n : ℕ) → m ≢ n → (m == n) ≡ false
other-number m n apart = grind (arith, nat_tests)

found-next : (b : Bool) (number : ℕ) (p : Placed) (rest : List Placed) → (p.1 == number) ≡ b → find (λ (p : Placed). p.1 == number) (p ∷ rest) ≡ (if b then Some p else find (λ (p : Placed). p.1 == number) rest)
found-next b number p rest is = ap (λ (b : Bool). if b then Some p else find (λ (p : Placed). p.1 == number) rest) is

-- the container at a rank is the first on its position, where none before it is there
pub found-here : (s : Stowage) (number rank : ℕ) (item : Item) → IsStowage s → rank < length s.path.now → slice_get (ordered s.items.now) rank ≡ Some item → get_or s.path.now rank 0 ≡ number
    → find (λ (p : Placed). p.1 == number) (drop rank (stowed s)) ≡ find (λ (p : Placed). p.1 == number) (stowed s)
    → find (λ (p : Placed). p.1 == number) (stowed s) ≡ Some (item, number)
found-here s number rank item held within there here before =
    sym before ∙ ap (find (λ (p : Placed). p.1 == number)) (drop-stowed s rank number item held within there here)
    ∙ found-next true number (item, number) (drop (rank + 1) (stowed s)) (same-number number number refl)

pub found-later : (s : Stowage) (number rank : ℕ) → IsStowage s → rank < length s.path.now → get_or s.path.now rank 0 ≢ number
    → find (λ (p : Placed). p.1 == number) (drop rank (stowed s)) ≡ find (λ (p : Placed). p.1 == number) (stowed s)
    → find (λ (p : Placed). p.1 == number) (drop (rank + 1) (stowed s)) ≡ find (λ (p : Placed). p.1 == number) (stowed s)
found-later s number rank held within other before =
    let q = get_or s.path.now rank 0 in
    let r = rank-is s.items.now rank (omega (arith, held.complete)) in
    let item : Item = r.0.1 in
    sym (ap (find (λ (p : Placed). p.1 == number)) (drop-stowed s rank q item held within r.2 refl)
    ∙ found-next false number (item, q) (drop (rank + 1) (stowed s)) (other-number q number other))
    ∙ before

pub found-nowhere : (s : Stowage) (number rank : ℕ) → IsStowage s → length s.path.now ≤ rank
    → find (λ (p : Placed). p.1 == number) (drop rank (stowed s)) ≡ find (λ (p : Placed). p.1 == number) (stowed s)
    → find (λ (p : Placed). p.1 == number) (stowed s) ≡ None
found-nowhere s number rank held past before =
    sym before ∙ ap (find (λ (p : Placed). p.1 == number)) (drop_all rank (stowed s) (omega (arith, length-stowed s held)))

-- the load of one container more
load-next : (is_in : ℕ → Bool) (s : Stowage) (rank q : ℕ) (item : Item) → IsStowage s → rank < length s.path.now → slice_get (ordered s.items.now) rank ≡ Some item → get_or s.path.now rank 0 ≡ q
    → placed_load is_in (take (rank + 1) (stowed s)) ≡ placed_load is_in (take rank (stowed s)) + (if is_in q then item.mass.0 else 0)
load-next is_in s rank q item held within there number =
    let f : Placed → ℕ = λ p. if is_in p.1 then p.0.mass.0 else 0 in
    let inside : rank < length (stowed s) = omega (arith, length-stowed s held) in
    sum_by_more f (stowed s) rank (item, q) inside
    ∙ ap (λ (p : Placed). placed_load is_in (take rank (stowed s)) + f p) (get_or-pairs s.items.now s.path.now rank q item (item, q) (omega (arith, held.complete)) within there number)

pub load-here : (s : Stowage) (number rank : ℕ) (item : Item) → IsStowage s → rank < length s.path.now → slice_get (ordered s.items.now) rank ≡ Some item → get_or s.path.now rank 0 ≡ number
    → placed_load (λ other. other == number) (take (rank + 1) (stowed s)) ≡ placed_load (λ other. other == number) (take rank (stowed s)) + item.mass.0
load-here s number rank item held within there here =
    let before : ℕ = placed_load (λ other. other == number) (take rank (stowed s)) in
    load-next (λ other. other == number) s rank number item held within there here
    ∙ ap (λ (b : Bool). before + (if b then item.mass.0 else 0)) (same-number number number refl)

pub load-elsewhere : (s : Stowage) (number rank : ℕ) → IsStowage s → rank < length s.path.now → get_or s.path.now rank 0 ≢ number
    → placed_load (λ other. other == number) (take (rank + 1) (stowed s)) ≡ placed_load (λ other. other == number) (take rank (stowed s))
load-elsewhere s number rank held within other =
    let q = get_or s.path.now rank 0 in
    let r = rank-is s.items.now rank (omega (arith, held.complete)) in
    let item : Item = r.0.1 in
    let before : ℕ = placed_load (λ other. other == number) (take rank (stowed s)) in
    let next = load-next (λ other. other == number) s rank q item held within r.2 refl in
    let none = ap (λ (b : Bool). before + (if b then item.mass.0 else 0)) (other-number q number other) in
    next ∙ none ∙ omega arith

pub load-whole : (is_in : ℕ → Bool) (s : Stowage) (rank : ℕ) → IsStowage s → length s.path.now ≤ rank → placed_load is_in (take rank (stowed s)) ≡ placed_load is_in (stowed s)
load-whole is_in s rank held past = ap (placed_load is_in) (take_all rank (stowed s) (omega (arith, length-stowed s held)))
