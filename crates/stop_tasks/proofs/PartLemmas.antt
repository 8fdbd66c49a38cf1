-- what a prefix is on a sector: branch order there, one number more, and fronts
use Rattle.std.proofs.Common.{◌≡◌, ⊎_elim, ℕ, ◌+◌, ◌<◌, Bool, true, false, nat_le, if◌then◌else◌, List, [], ◌∷◌, ◌++◌, length, drop, get_or, map, Some, refl, ap, ap₂, sym, ◌∙◌, add-one, arith}
use Rattle.std.proofs.lemmas.Bool.{cases_Bool}
use Rattle.std.proofs.lemmas.Option.{slice_get_within}
use Rattle.std.proofs.lemmas.List.{append-nil, drop_all}
use Rattle.std.proofs.Math.Seq.{drop-cons}
use Rattle.std.specs.Prelude.{slice_get}
use Rattle.std.specs.List.{enumerate_from, filter}
use Rattle.base_words.specs.Lists.{Extends}
use Rattle.hold_parts.specs.declared.parts.Item.{Item}
use Rattle.hold_limits.specs.Problem.{Problem}
use Rattle.hold_limits.specs.BranchOrder.{Offered, branch_order, offer_of, ordered}
use Rattle.stop_tasks.specs.Stops.{Stops, leaves_in_order, staying}
use Rattle.stop_tasks.specs.StopFaults.{AreLawfulStops}
use Rattle.stop_tasks.specs.StopPaths.{IsFirstSector, last_sectors, part_of}
use Rattle.stop_tasks.proofs.SortLemmas.{branch_order-by_mass, kept-sort, offered_mass, sort-images, sort_by}

-- Branch order on a sector ----------------------------------------------------------------------

-- of elements with a name and a last sector each, the names of those that stay are the names that stay
staying-images : {E X : Type 0} (name : E → X) (last : E → ℕ) (number : ℕ) (es : List E)
    → staying (map name es) (map last es) number ≡ map name (filter (λ e. nat_le number (last e)) es)
staying-images name last number [] = refl
staying-images name last number (e ∷ es) =
    let rest = staying-images name last number es in
    ⊎_elim
    (λ (stays : nat_le number (last e) ≡ true). rw stays (ap (λ xs. name e ∷ xs) rest))
    (λ (gone : nat_le number (last e) ≡ false). rw gone rest)
    (cases_Bool (nat_le number (last e)))

items-offered : (n : ℕ) (items : List Item) → map (λ (e : Offered). e.1) (enumerate_from n items) ≡ items
items-offered n [] = refl
items-offered n (item ∷ items) = ap (λ xs. item ∷ xs) (items-offered (n + 1) items)

leaves-offered : (n : ℕ) (items : List Item) (leaves : List ℕ) → length leaves ≡ n + length items → map (λ (e : Offered). get_or leaves e.0 0) (enumerate_from n items) ≡ drop n leaves
leaves-offered n [] leaves long = sym (drop_all n leaves (omega arith))
leaves-offered n (item ∷ items) leaves long =
    let within : n < length leaves = omega arith in
    let rest : map (λ (e : Offered). get_or leaves e.0 0) (enumerate_from (n + 1) items) ≡ drop (n + 1) leaves = leaves-offered (n + 1) items leaves (omega arith) in
    let cut : drop n leaves ≡ get_or leaves n 0 ∷ drop (n + 1) leaves = rw add-one (drop-cons leaves n 0 within) in
    ap (λ xs. get_or leaves n 0 ∷ xs) rest ∙ sym cut

-- the offered containers with their places that are still aboard
abbrev stays : List ℕ → ℕ → Offered → Bool
stays leaves number e = nat_le number (get_or leaves e.0 0)

staying-offered : (items : List Item) (leaves : List ℕ) (number : ℕ) → length leaves ≡ length items
    → map (λ (e : Offered). e.1) (filter (stays leaves number) (offer_of items)) ≡ staying items leaves number
staying-offered items leaves number long =
    let whole : map (λ (e : Offered). get_or leaves e.0 0) (offer_of items) ≡ leaves = leaves-offered 0 items leaves (omega arith) in
    let images = staying-images (λ (e : Offered). e.1) (λ (e : Offered). get_or leaves e.0 0) number (offer_of items) in
    sym images ∙ ap₂ (λ xs ls. staying xs ls number) (items-offered 0 items) whole

-- the mass of a container
abbrev item_mass : Item → ℕ
item_mass item = item.mass.0

ordered-by_mass : (items : List Item) → ordered items ≡ sort_by item_mass items
ordered-by_mass items =
    ap (map (λ (e : Offered). e.1)) (branch_order-by_mass items)
    ∙ sym (sort-images item_mass (λ (e : Offered). e.1) (offer_of items))
    ∙ ap (sort_by item_mass) (items-offered 0 items)

-- branch order of those that stay is what stays of branch order
pub ordered-staying : (items : List Item) (leaves : List ℕ) (number : ℕ) → length leaves ≡ length items
    → ordered (staying items leaves number) ≡ staying (ordered items) (leaves_in_order items leaves) number
ordered-staying items leaves number long =
    let item : Offered → Item = λ e. e.1 in
    let aboard = filter (stays leaves number) (offer_of items) in
    let kept : filter (stays leaves number) (branch_order items) ≡ sort_by offered_mass aboard =
    ap (filter (stays leaves number)) (branch_order-by_mass items) ∙ kept-sort offered_mass (stays leaves number) (offer_of items) in
    ordered-by_mass (staying items leaves number)
    ∙ ap (sort_by item_mass) (sym (staying-offered items leaves number long))
    ∙ sort-images item_mass item aboard
    ∙ ap (map item) (sym kept)
    ∙ sym (staying-images item (λ (e : Offered). get_or leaves e.0 0) number (branch_order items))

-- the branch order of a sector's containers is the first task's branch order without those that have left
pub remaining-aboard : (t : Stops) (first sector : Problem) (place : ℕ) → AreLawfulStops t → IsFirstSector t first → slice_get t.sectors place ≡ Some sector
    → ordered sector.items ≡ staying (ordered first.items) (last_sectors t first) (place + 1)
remaining-aboard t first sector place lawful is_first at_place =
    let within : place < length t.sectors = slice_get_within t.sectors place sector at_place in
    ap ordered (lawful.aboard place within first sector is_first at_place)
    ∙ ordered-staying first.items t.leaves (place + 1) (lawful.leaves.one_each first is_first)

-- Longer prefixes and fronts --------------------------------------------------------------------

staying-none : {X : Type 0} (xs : List X) (number : ℕ) → staying xs [] number ≡ []
staying-none [] number = refl
staying-none (x ∷ xs) number = refl

-- what stays of one list after another
pub staying-append : {X : Type 0} (xs ys : List X) (last : List ℕ) (number : ℕ)
    → staying (xs ++ ys) last number ≡ staying xs last number ++ staying ys (drop (length xs) last) number
staying-append [] ys last number = refl
staying-append (x ∷ xs) ys [] number = sym (staying-none ys number)
staying-append (x ∷ xs) ys (n ∷ last) number =
    let rest = staying-append xs ys last number in
    ⊎_elim
    (λ (stays : nat_le number n ≡ true). rw stays (ap (λ zs. x ∷ zs) rest))
    (λ (gone : nat_le number n ≡ false). rw gone rest)
    (cases_Bool (nat_le number n))

-- the part of a prefix with one position more is the part with that position more where the container is aboard, and
-- else the same part
pub part-longer : (last : List ℕ) (number : ℕ) (prefix : List ℕ) (q : ℕ) → length prefix < length last
    → part_of last number (prefix ++ q ∷ []) ≡ (if nat_le number (get_or last (length prefix) 0) then part_of last number prefix ++ q ∷ [] else part_of last number prefix)
part-longer last number prefix q within =
    let apart = staying-append prefix (q ∷ []) last number in
    let next = drop-cons last (length prefix) 0 within in
    ⊎_elim
    (λ (stays : nat_le number (get_or last (length prefix) 0) ≡ true). rw stays (rw (next, stays) at apart))
    (λ (gone : nat_le number (get_or last (length prefix) 0) ≡ false). rw gone (rw (next, gone) at apart ∙ append-nil (part_of last number prefix)))
    (cases_Bool (nat_le number (get_or last (length prefix) 0)))

-- the part of a front is a front of the part
pub part-front : (last : List ℕ) (number : ℕ) (front whole : List ℕ) → Extends front whole → Extends (part_of last number front) (part_of last number whole)
part-front last number front whole extends = (
  staying extends.0 (drop (length front) last) number,
  ap (part_of last number) extends.1 ∙ staying-append front extends.0 last number,
)
