-- the sums of a reach, one remaining container at a time, and how large they are
use Rattle.std.proofs.Common.{◌≡◌, ◌≢◌, ⊎_elim, ℕ, suc, ◌+◌, ◌*◌, ◌<◌, ◌≤◌, ℤ, pos, negsuc, ◌+ℤ◌, ◌*ℤ◌, Bool, true, false, ◌&&◌, List, [], ◌∷◌, length, drop, map, Some, None, refl, sym, ap, ap₂, ◌∙◌, arith, unsigned_abs, add-one, drop-cons, fold, cond, int_lt}
use Rattle.std.proofs.lemmas.Bool.{cases_Bool}
use Rattle.std.proofs.lemmas.Int.{ints, unsigned_abs-mul}
use Rattle.std.proofs.lemmas.List.{drop_all}
use Rattle.std.proofs.lemmas.Option.{get_or_from_slice_get}
use Rattle.std.proofs.Math.Nat.{mul-le-mul}
use Rattle.std.specs.Prelude.{slice_get}
use Rattle.std.specs.Int.{int_min, int_max}
use Rattle.std.specs.List.{filter, list_all, list_any, range_with_len}
use Rattle.base_words.specs.Lists.{int_sum_by}
use Rattle.hold_parts.specs.declared.parts.Item.{Item}
use Rattle.hold_limits.specs.Problem.{Problem}
use Rattle.hold_limits.specs.BranchOrder.{ordered}
use Rattle.hold_limits.specs.Faults.{IsLawful}
use Rattle.hold_limits.specs.Layout.{Layout}
use Rattle.hold_limits.specs.Lateral.{is_right, is_left, side_at}
use Rattle.hold_limits.specs.Placement.{Placed}
use Rattle.hold_limits.proofs.BranchOrderLemmas.{length-ordered, rank-is}
use Rattle.hold_limits.proofs.LawfulBounds.{lawful-bounds}
use Rattle.hold_limits.proofs.MomentLemmas.{influence_at-bound}
use Rattle.hold_reach.specs.declared.extent.Extent.{Extent}
use Rattle.hold_reach.specs.declared.extent.Extent.TheVariants.{Reach, WideReach, LateralReach}
use Rattle.hold_reach.specs.declared.span.Span.{Span}
use Rattle.hold_reach.specs.Extents.{may_stand, amount_of, so_far, reached, IsBounded, IsSpanOfList}
use Rattle.hold_reach.specs.Reach.{amounts, has_position, least, greatest, remaining, span_from}

-- Containers from a rank on ---------------------------------------------------------------------

-- each rank below their number has a container
pub next-item : (t : Problem) (rank : ℕ) → rank < length t.items → (item : Item) × (slice_get (ordered t.items) rank ≡ Some item)
next-item t rank within = let r = rank-is t.items rank within in (r.0.1, r.2)

-- the containers from a rank on begin with the one of that rank
pub ordered-next : (t : Problem) (rank : ℕ) (item : Item) → rank < length t.items → slice_get (ordered t.items) rank ≡ Some item
    → drop rank (ordered t.items) ≡ item ∷ drop (rank + 1) (ordered t.items)
ordered-next t rank item within there =
    let inside : rank < length (ordered t.items) = omega (arith, length-ordered t.items) in
    let here = get_or_from_slice_get (ordered t.items) rank item item there in
    rw add-one (drop-cons (ordered t.items) rank item inside ∙ ap (λ i. i ∷ drop (suc rank) (ordered t.items)) here)

pub sum-next : (f : Item → ℤ) (t : Problem) (rank : ℕ) (item : Item) → rank < length t.items → slice_get (ordered t.items) rank ≡ Some item
    → int_sum_by f (drop rank (ordered t.items)) ≡ f item +ℤ int_sum_by f (drop (rank + 1) (ordered t.items))
sum-next f t rank item within there = ap (int_sum_by f) (ordered-next t rank item within there)

pub all-next : (p : Item → Bool) (t : Problem) (rank : ℕ) (item : Item) → rank < length t.items → slice_get (ordered t.items) rank ≡ Some item
    → list_all p (drop rank (ordered t.items)) ≡ (p item && list_all p (drop (rank + 1) (ordered t.items)))
all-next p t rank item within there = ap (list_all p) (ordered-next t rank item within there)

pub none-left : (t : Problem) (rank : ℕ) → length t.items ≤ rank → drop rank (ordered t.items) ≡ []
none-left t rank past = drop_all rank (ordered t.items) (omega (arith, length-ordered t.items))

-- Positions where a container may stand --------------------------------------------------------

none-found : (f : ℕ → ℤ) (p : ℕ → Bool) (ns : List ℕ) → map f (filter p ns) ≡ [] → list_any p ns ≡ false
none-found f p [] none = refl
none-found f p (n ∷ ns) none = ⊎_elim
    (λ (passes : p n ≡ true). absurd (cc (rw passes at none)))
    (λ (fails : p n ≡ false). rw fails (none-found f p ns (rw fails at none)))
    (cases_Bool (p n))

some-found : (f : ℕ → ℤ) (p : ℕ → Bool) (ns : List ℕ) → map f (filter p ns) ≢ [] → list_any p ns ≡ true
some-found f p [] some = absurd (some refl)
some-found f p (n ∷ ns) some = ⊎_elim
    (λ (passes : p n ≡ true). rw passes refl)
    (λ (fails : p n ≡ false). rw fails (some-found f p ns (rw fails at some)))
    (cases_Bool (p n))

-- a container that adds nothing anywhere may stand nowhere
pub none-amounts : (t : Problem) (may : Item → ℕ → Bool) (amount : Placed → ℤ) (item : Item) → amounts t may amount item ≡ [] → has_position t may item ≡ false
none-amounts t may amount item none = none-found (λ q. amount (item, q)) (may item) (range_with_len 0 (length t.hold.positions)) none

pub some-amounts : (t : Problem) (may : Item → ℕ → Bool) (amount : Placed → ℤ) (item : Item) → amounts t may amount item ≢ [] → has_position t may item ≡ true
some-amounts t may amount item some = some-found (λ q. amount (item, q)) (may item) (range_with_len 0 (length t.hold.positions)) some

-- How large moments are -------------------------------------------------------------------------

one-within : (m : ℕ) (b : Bool) (x y : ℤ) → unsigned_abs x ≤ m → unsigned_abs y ≤ m → unsigned_abs (cond b y x) ≤ m
one-within m true x y first second = second
one-within m false x y first second = first

min-within : (m : ℕ) (x y : ℤ) → unsigned_abs x ≤ m → unsigned_abs y ≤ m → unsigned_abs (int_min x y) ≤ m
min-within m x y first second = one-within m (int_lt y x) x y first second

max-within : (m : ℕ) (x y : ℤ) → unsigned_abs x ≤ m → unsigned_abs y ≤ m → unsigned_abs (int_max x y) ≤ m
max-within m x y first second = one-within m (int_lt y x) y x second first

fold-within : (m : ℕ) (pick : ℤ → ℤ → ℤ) (within : (x y : ℤ) → unsigned_abs x ≤ m → unsigned_abs y ≤ m → unsigned_abs (pick x y) ≤ m) (f : ℕ → ℤ) (each : (q : ℕ) → unsigned_abs (f q) ≤ m) (x : ℤ) (qs : List ℕ)
    → unsigned_abs x ≤ m → unsigned_abs (fold pick x (map f qs)) ≤ m
fold-within m pick within f each x [] first = first
fold-within m pick within f each x (q ∷ qs) first = fold-within m pick within f each (pick x (f q)) qs (within x (f q) first (each q))

extremes-within : (m : ℕ) (f : ℕ → ℤ) (each : (q : ℕ) → unsigned_abs (f q) ≤ m) (qs : List ℕ) → (unsigned_abs (least (map f qs)) ≤ m) × (unsigned_abs (greatest (map f qs)) ≤ m)
extremes-within m f each [] = (omega arith, omega arith)
extremes-within m f each (q ∷ qs) = (fold-within m int_min (min-within m) f each (f q) qs (each q), fold-within m int_max (max-within m) f each (f q) qs (each q))

pub moment-bound : (mass : ℕ) (influence : ℤ) → mass ≤ 20000 → unsigned_abs influence ≤ 100000 → unsigned_abs (pos mass *ℤ influence) ≤ 2000000000
moment-bound mass influence light near =
    let product : mass * unsigned_abs influence ≤ 20000 * 100000 = mul-le-mul light near in
    omega (arith, unsigned_abs-mul (pos mass) influence, product)

pub side_at-bound : (hold : Layout) (q : ℕ) → unsigned_abs (side_at hold q) ≤ 1
side_at-bound hold q = by_side (is_right hold q) (is_left hold q)
  where
    by_side : (right left : Bool) → unsigned_abs (cond right (pos 1) (cond left (negsuc 0) (pos 0))) ≤ 1
    by_side true left = omega arith
    by_side false true = omega arith
    by_side false false = omega arith

-- what a container of a lawful task adds on a position
pub amount-bound : (e : Extent) (t : Problem) → IsLawful t → (item : Item) (q : ℕ) → item.mass.0 ≤ 20000 → unsigned_abs (amount_of e t.hold (item, q)) ≤ 2000000000
amount-bound Reach t lawful item q light = moment-bound item.mass.0 _ light (influence_at-bound t (lawful-bounds t lawful) q)
amount-bound WideReach t lawful item q light = moment-bound item.mass.0 _ light (influence_at-bound t (lawful-bounds t lawful) q)
amount-bound LateralReach t lawful item q light = moment-bound item.mass.0 _ light (omega (arith, side_at-bound t.hold q))

-- the least and the greatest amount that a container of a lawful task adds
pub amounts-within : (e : Extent) (t : Problem) (prefix : List ℕ) (item : Item) → IsLawful t → item.mass.0 ≤ 20000
    → (unsigned_abs (least (amounts t (may_stand e t prefix) (amount_of e t.hold) item)) ≤ 2000000000)
    × (unsigned_abs (greatest (amounts t (may_stand e t prefix) (amount_of e t.hold) item)) ≤ 2000000000)
amounts-within e t prefix item lawful light =
    extremes-within 2000000000 (λ q. amount_of e t.hold (item, q))
    (λ q. amount-bound e t lawful item q light)
    (filter (may_stand e t prefix item) (range_with_len 0 (length t.hold.positions)))

-- The span ---------------------------------------------------------------------------------------

-- where a remaining container may stand nowhere, there is no span
pub span-none : (t : Problem) (prefix : List ℕ) (may : Item → ℕ → Bool) (amount : Placed → ℤ) (start : ℤ) (rank : ℕ) (item : Item)
    → rank < length t.items → slice_get (ordered t.items) rank ≡ Some item
    → list_all (has_position t may) (remaining t prefix) ≡ list_all (has_position t may) (drop rank (ordered t.items))
    → has_position t may item ≡ false → None ≡ span_from t prefix may amount start
span-none t prefix may amount start rank item within there found none =
    let first : list_all (has_position t may) (drop rank (ordered t.items)) ≡ false = rw (all-next (has_position t may) t rank item within there, none) refl in
    let not : list_all (has_position t may) (remaining t prefix) ≡ false = found ∙ first in
    rw not refl

-- the sum of what the remaining containers add at least, and at most, to what there is so far
abbrev pub least_sum : Problem → List ℕ → (Item → ℕ → Bool) → (Placed → ℤ) → ℤ → ℤ
least_sum t prefix may amount start = start +ℤ int_sum_by (λ item. least (amounts t may amount item)) (remaining t prefix)

abbrev pub greatest_sum : Problem → List ℕ → (Item → ℕ → Bool) → (Placed → ℤ) → ℤ → ℤ
greatest_sum t prefix may amount start = start +ℤ int_sum_by (λ item. greatest (amounts t may amount item)) (remaining t prefix)

-- where each may stand somewhere, the span goes from the least sum to the greatest
pub span-some : (t : Problem) (prefix : List ℕ) (may : Item → ℕ → Bool) (amount : Placed → ℤ) (start : ℤ) (rank : ℕ) (low high : ℤ) → length t.items ≤ rank
    → list_all (has_position t may) (remaining t prefix) ≡ list_all (has_position t may) (drop rank (ordered t.items))
    → low +ℤ int_sum_by (λ item. least (amounts t may amount item)) (drop rank (ordered t.items)) ≡ least_sum t prefix may amount start
    → high +ℤ int_sum_by (λ item. greatest (amounts t may amount item)) (drop rank (ordered t.items)) ≡ greatest_sum t prefix may amount start
    → Some (low, high) ≡ span_from t prefix may amount start
span-some t prefix may amount start rank low high past found low_is high_is =
    let none : drop rank (ordered t.items) ≡ [] = none-left t rank past in
    let all : list_all (has_position t may) (remaining t prefix) ≡ true = found ∙ ap (list_all (has_position t may)) none in
    let low_same : low ≡ least_sum t prefix may amount start = omega (arith, ints, low_is, ap (int_sum_by (λ item. least (amounts t may amount item))) none) in
    let high_same : high ≡ greatest_sum t prefix may amount start = omega (arith, ints, high_is, ap (int_sum_by (λ item. greatest (amounts t may amount item))) none) in
    rw all (ap₂ (λ a b. Some (a, b)) low_same high_same)

-- Sums over the remaining containers, one more at a time -----------------------------------------

-- what a loop over the remaining containers keeps: the span so far, from the container of a rank on
pub record IsSummed (e : Extent) (t : Problem) (prefix : List ℕ) (rank done : ℕ) (span : Span) : Type 0 where
  pub low : span.low +ℤ int_sum_by (λ item. least (amounts t (may_stand e t prefix) (amount_of e t.hold) item)) (drop rank (ordered t.items))
      ≡ least_sum t prefix (may_stand e t prefix) (amount_of e t.hold) (so_far e t prefix)
  pub high : span.high +ℤ int_sum_by (λ item. greatest (amounts t (may_stand e t prefix) (amount_of e t.hold) item)) (drop rank (ordered t.items))
      ≡ greatest_sum t prefix (may_stand e t prefix) (amount_of e t.hold) (so_far e t prefix)
  pub found : list_all (has_position t (may_stand e t prefix)) (remaining t prefix) ≡ list_all (has_position t (may_stand e t prefix)) (drop rank (ordered t.items))
  pub bounded : IsBounded (248000000000 + 2000000000 * done) span

pub summed-start : (e : Extent) (t : Problem) (prefix : List ℕ) (rank : ℕ) (span : Span) → rank ≡ length prefix → span.low ≡ so_far e t prefix → span.high ≡ so_far e t prefix
    → unsigned_abs (so_far e t prefix) ≤ 248000000000 → IsSummed e t prefix rank 0 span
summed-start e t prefix rank span begins low high bound =
    let start : drop rank (ordered t.items) ≡ remaining t prefix = ap (λ n. drop n (ordered t.items)) begins in
    record {
      low = ap₂ (λ sum items. sum +ℤ int_sum_by (λ item. least (amounts t (may_stand e t prefix) (amount_of e t.hold) item)) items) low start;
      high = ap₂ (λ sum items. sum +ℤ int_sum_by (λ item. greatest (amounts t (may_stand e t prefix) (amount_of e t.hold) item)) items) high start;
      found = ap (list_all (has_position t (may_stand e t prefix))) (sym start);
      bounded = (omega (arith, bound, ap unsigned_abs low), omega (arith, bound, ap unsigned_abs high));
    }

-- the amounts that one container adds
pub amounts-bounded : (e : Extent) (t : Problem) (prefix : List ℕ) (item : Item) (added : Span) → IsLawful t → item.mass.0 ≤ 20000
    → IsSpanOfList (amounts t (may_stand e t prefix) (amount_of e t.hold) item) (Some added) → IsBounded 2000000000 added
amounts-bounded e t prefix item added lawful light is =
    let within = amounts-within e t prefix item lawful light in
    (omega (arith, ap unsigned_abs is.1, within.0), omega (arith, ap unsigned_abs is.2, within.1))

pub summed-next : (e : Extent) (t : Problem) (prefix : List ℕ) (rank done : ℕ) (span added next : Span) (item : Item) → IsLawful t → rank < length t.items → slice_get (ordered t.items) rank ≡ Some item
    → item.mass.0 ≤ 20000 → IsSummed e t prefix rank done span → IsSpanOfList (amounts t (may_stand e t prefix) (amount_of e t.hold) item) (Some added)
    → next.low ≡ span.low +ℤ added.low → next.high ≡ span.high +ℤ added.high → IsSummed e t prefix (rank + 1) (done + 1) next
summed-next e t prefix rank done span added next item lawful within there light summed is low high =
    let lows = sum-next (λ item. least (amounts t (may_stand e t prefix) (amount_of e t.hold) item)) t rank item within there in
    let highs = sum-next (λ item. greatest (amounts t (may_stand e t prefix) (amount_of e t.hold) item)) t rank item within there in
    let some = some-amounts t (may_stand e t prefix) (amount_of e t.hold) item is.0 in
    let bound = amounts-bounded e t prefix item added lawful light is in
    let least_is = is.1 in
    let greatest_is = is.2 in
    record {
      low = omega (arith, ints, summed.low);
      high = omega (arith, ints, summed.high);
      found = summed.found ∙ all-next (has_position t (may_stand e t prefix)) t rank item within there
          ∙ ap (λ b. b && list_all (has_position t (may_stand e t prefix)) (drop (rank + 1) (ordered t.items))) some;
      bounded = (sum-bound span.low added.low next.low done low summed.bounded.0 bound.0, sum-bound span.high added.high next.high done high summed.bounded.1 bound.1);
    }
  where
    sum-bound : (a b c : ℤ) (done : ℕ) → c ≡ a +ℤ b → unsigned_abs a ≤ 248000000000 + 2000000000 * done → unsigned_abs b ≤ 2000000000 → unsigned_abs c ≤ 248000000000 + 2000000000 * (done + 1)
    sum-bound a b c done is first second = omega (arith, ints)

pub summed-none : (e : Extent) (t : Problem) (prefix : List ℕ) (rank done : ℕ) (span : Span) (item : Item) → rank < length t.items → slice_get (ordered t.items) rank ≡ Some item
    → IsSummed e t prefix rank done span → IsSpanOfList (amounts t (may_stand e t prefix) (amount_of e t.hold) item) None → None ≡ reached e t prefix
summed-none e t prefix rank done span item within there summed none =
    span-none t prefix (may_stand e t prefix) (amount_of e t.hold) (so_far e t prefix) rank item within there summed.found (none-amounts t (may_stand e t prefix) (amount_of e t.hold) item none)

pub summed-all : (e : Extent) (t : Problem) (prefix : List ℕ) (rank done : ℕ) (span : Span) → length t.items ≤ rank → IsSummed e t prefix rank done span → Some (span.low, span.high) ≡ reached e t prefix
summed-all e t prefix rank done span past summed =
    span-some t prefix (may_stand e t prefix) (amount_of e t.hold) (so_far e t prefix) rank span.low span.high past summed.found summed.low summed.high
