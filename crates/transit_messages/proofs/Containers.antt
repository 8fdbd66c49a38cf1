-- The containers of a path, one after another, and which of them is on a position.
use Rattle.std.proofs.Common.{◌≡◌, ◌≢◌, ℕ, ◌+◌, ◌==◌, ◌<◌, ◌≤◌, Bool, true, false, if◌then◌else◌, List, ◌∷◌, length, get_or, drop, Some, None, refl, ap, sym, ◌∙◌, arith}
use Rattle.std.proofs.lemmas.Bool.Decides.{nat_tests}
use Rattle.std.proofs.lemmas.List.{drop_more, drop_all}
use Rattle.std.proofs.lemmas.Option.{get_or_from_slice_get, slice_get_within}
use Rattle.std.specs.Prelude.{slice_get, find}
use Rattle.mass_units.specs.Spelling.{IsNumber}
use Rattle.hold_parts.specs.declared.parts.Item.{Item}
use Rattle.hold_limits.specs.BranchOrder.{ordered}
use Rattle.hold_limits.specs.Faults.{IsLawful}
use Rattle.hold_limits.specs.Placement.{Placed, placed}
use Rattle.hold_limits.specs.Problem.{Problem}
use Rattle.hold_limits.proofs.BranchOrderLemmas.{rank-is}
use Rattle.hold_limits.proofs.LawfulBounds.{lawful-bounds}
use Rattle.hold_limits.proofs.PlacedLemmas.{get_or-placed, length-placed}
use Rattle.transit_messages.specs.Onward.{stands_on}

-- a container of a lawful task has a mass of at most nine digits
pub light-at : (t : Problem) (rank : ℕ) (item : Item) → IsLawful t → rank < length t.items → slice_get (ordered t.items) rank ≡ Some item → IsNumber item.mass.0
light-at t rank item lawful within there =
    let r = rank-is t.items rank within in
    let masses = (lawful-bounds t lawful).item_masses in
    let light = rw (get_or_from_slice_get t.items r.0.0 r.0.1 r.0.1 r.3) at (masses r.0.0 r.0.1 (slice_get_within t.items r.0.0 r.0.1 r.3)) in
    let there_too : slice_get (ordered t.items) rank ≡ Some r.0.1 = r.2 in
    let same : item ≡ r.0.1 = cc in
    omega (arith, light, ap (λ (item : Item). item.mass.0) same)

-- the next container of those at a rank and further on
drop-placed : (t : Problem) (path : List ℕ) (rank q : ℕ) (item : Item) → length path ≤ length t.items → rank < length path → slice_get (ordered t.items) rank ≡ Some item → get_or path rank 0 ≡ q
    → drop rank (placed t path) ≡ (item, q) ∷ drop (rank + 1) (placed t path)
drop-placed t path rank q item short within there number =
    let inside : rank < length (placed t path) = omega (arith, within, length-placed t path short) in
    drop_more (placed t path) rank (item, q) inside
    ∙ ap (λ (p : Placed). p ∷ drop (rank + 1) (placed t path)) (get_or-placed t path rank q item (item, q) short within there number)

same-number : (m n : ℕ) → m ≡ n → (m == n) ≡ true
same-number m n same = grind (arith, nat_tests)

other-number : (m n : ℕ) → m ≢ n → (m == n) ≡ false
other-number m n apart = grind (arith, nat_tests)

found-next : (b : Bool) (number : ℕ) (p : Placed) (rest : List Placed) → stands_on number p ≡ b → find (stands_on number) (p ∷ rest) ≡ (if b then Some p else find (stands_on number) rest)
found-next b number p rest is = ap (λ (b : Bool). if b then Some p else find (stands_on number) rest) is

-- the container at a rank is the first on its position, where none before it is there
pub found-here : (t : Problem) (path : List ℕ) (number rank : ℕ) (item : Item) → length path ≤ length t.items → rank < length path → slice_get (ordered t.items) rank ≡ Some item
    → get_or path rank 0 ≡ number → find (stands_on number) (drop rank (placed t path)) ≡ find (stands_on number) (placed t path)
    → find (stands_on number) (placed t path) ≡ Some (item, number)
found-here t path number rank item short within there here before =
    sym before ∙ ap (find (stands_on number)) (drop-placed t path rank number item short within there here)
    ∙ found-next true number (item, number) (drop (rank + 1) (placed t path)) (same-number number number refl)

pub found-later : (t : Problem) (path : List ℕ) (number rank : ℕ) → length path ≤ length t.items → rank < length path → get_or path rank 0 ≢ number
    → find (stands_on number) (drop rank (placed t path)) ≡ find (stands_on number) (placed t path)
    → find (stands_on number) (drop (rank + 1) (placed t path)) ≡ find (stands_on number) (placed t path)
found-later t path number rank short within other before =
    let q = get_or path rank 0 in
    let r = rank-is t.items rank (omega (arith, within, short)) in
    let item : Item = r.0.1 in
    sym (ap (find (stands_on number)) (drop-placed t path rank q item short within r.2 refl)
    ∙ found-next false number (item, q) (drop (rank + 1) (placed t path)) (other-number q number other))
    ∙ before

pub found-nowhere : (t : Problem) (path : List ℕ) (number rank : ℕ) → length path ≤ length t.items → length path ≤ rank
    → find (stands_on number) (drop rank (placed t path)) ≡ find (stands_on number) (placed t path)
    → find (stands_on number) (placed t path) ≡ None
found-nowhere t path number rank short past before =
    sym before ∙ ap (find (stands_on number)) (drop_all rank (placed t path) (omega (arith, past, length-placed t path short)))
