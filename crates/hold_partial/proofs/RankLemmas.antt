-- the ranks with the least and the greatest factor have the least and the greatest amount
use Rattle.std.proofs.Common.{◌≡◌, ◌≢◌, ⊎_elim, ℕ, zero, suc, ◌*◌, ◌<◌, ◌≤◌, ℤ, pos, negsuc, ◌*ℤ◌, ◌≤ℤ◌, Bool, true, false, ◌||◌, ◌==◌, List, [], ◌∷◌, ◌++◌, length, get_or, map, Option, Some, None, refl, ap, sym, subst, ◌∙◌, arith, int_lt, cond, fold, eqb-true, add-one}
use Rattle.std.proofs.Math.IntN.{neg_ℤ}
use Rattle.std.proofs.Math.Nat.{mul-le-mul_left}
use Rattle.std.proofs.lemmas.Bool.{cases_Bool, false≢true}
use Rattle.std.proofs.lemmas.Bool.Decides.{nat_tests}
use Rattle.std.proofs.lemmas.Int.{ints}
use Rattle.std.proofs.lemmas.List.Elements.{at_from_Contains}
use Rattle.std.proofs.lemmas.List.Folds.{list_any-append}
use Rattle.std.proofs.lemmas.Option.{slice_get-get_or, slice_get_cases, get_or_from_slice_get}
use Rattle.std.specs.Prelude.{slice_get, MatchOption}
use Rattle.std.specs.Int.{int_min, int_max}
use Rattle.std.specs.List.{filter, list_any, range_with_len, AllByRecursion}
use Rattle.hold_limits.specs.Layout.{Layout}
use Rattle.hold_limits.specs.Placement.{influence_at}
use Rattle.hold_reach.specs.declared.span.Span.{Span}
use Rattle.hold_reach.specs.Extents.{IsSpanOfList}
use Rattle.hold_partial.specs.Arrangement.{Ranked, ranked_of, AreRising, IsByInfluence, at_rank}
use Rattle.hold_partial.specs.Levels.{IsSpanOnRanks}
use Rattle.hold_reach.specs.Reach.{least, greatest}
use Rattle.hold_reach.proofs.SpanLemmas.{range-more}
use Rattle.base_words.proofs.PairLemmas.{each-weaker}

-- Least and greatest -------------------------------------------------------------------------------

-- an order of numbers, with the one of two that comes first in it
record Order (before : ℤ → ℤ → Type 0) (pick : ℤ → ℤ → ℤ) : Type 0 where
  through : (x y z : ℤ) → before x y → before y z → before x z
  itself : (x : ℤ) → before x x
  same : (x y : ℤ) → before x y → before y x → x ≡ y
  first : (x y : ℤ) → before (pick x y) x
  second : (x y : ℤ) → before (pick x y) y
  both : (m x y : ℤ) → before m x → before m y → before m (pick x y)

pick-first : (b : Bool) (x y : ℤ) → int_lt y x ≡ b → cond b y x ≤ℤ x
pick-first true x y is = omega (arith, ints)
pick-first false x y is = omega (arith, ints)

pick-second : (b : Bool) (x y : ℤ) → int_lt y x ≡ b → cond b y x ≤ℤ y
pick-second true x y is = omega (arith, ints)
pick-second false x y is = omega (arith, ints)

pick-both : (b : Bool) (m x y : ℤ) → m ≤ℤ x → m ≤ℤ y → m ≤ℤ cond b y x
pick-both true m x y first second = second
pick-both false m x y first second = first

least-order : Order (λ x y. x ≤ℤ y) int_min
least-order = record {
  through = λ x y z xy yz. omega (arith, ints);
  itself = λ x. omega (arith, ints);
  same = λ x y xy yx. omega (arith, ints);
  first = λ x y. pick-first (int_lt y x) x y refl;
  second = λ x y. pick-second (int_lt y x) x y refl;
  both = λ m x y mx my. pick-both (int_lt y x) m x y mx my;
}

max-first : (b : Bool) (x y : ℤ) → int_lt y x ≡ b → x ≤ℤ cond b x y
max-first true x y is = omega (arith, ints)
max-first false x y is = omega (arith, ints)

max-second : (b : Bool) (x y : ℤ) → int_lt y x ≡ b → y ≤ℤ cond b x y
max-second true x y is = omega (arith, ints)
max-second false x y is = omega (arith, ints)

max-both : (b : Bool) (m x y : ℤ) → x ≤ℤ m → y ≤ℤ m → cond b x y ≤ℤ m
max-both true m x y first second = first
max-both false m x y first second = second

greatest-order : Order (λ x y. y ≤ℤ x) int_max
greatest-order = record {
  through = λ x y z xy yz. omega (arith, ints);
  itself = λ x. omega (arith, ints);
  same = λ x y xy yx. omega (arith, ints);
  first = λ x y. max-first (int_lt y x) x y refl;
  second = λ x y. max-second (int_lt y x) x y refl;
  both = λ m x y mx my. max-both (int_lt y x) m x y mx my;
}

-- the number is one of the list
abbrev pub In : List ℕ → ℕ → Type 0
In ns q = list_any (λ k. k == q) ns ≡ true

or-left : (a b : Bool) → a ≡ true → (a || b) ≡ true
or-left a b is = rw is refl

or-right : (a b : Bool) → b ≡ true → (a || b) ≡ true
or-right true b is = refl
or-right false b is = is

pub in-filter : (p : ℕ → Bool) (ns : List ℕ) (q : ℕ) → In ns q → p q ≡ true → In (filter p ns) q
in-filter p [] q is passes = is
in-filter p (n ∷ ns) q is passes = ⊎_elim
    (λ (here : (n == q) ≡ true).
    let same : n ≡ q = eqb-true n q here in
    let also : p n ≡ true = ap p same ∙ passes in
    rw also (or-left (n == q) (list_any (λ k. k == q) (filter p ns)) here))
    (λ (other : (n == q) ≡ false). kept (p n) n (filter p ns) q (in-filter p ns q (rw other at is) passes))
    (cases_Bool (n == q))
  where
    kept : (b : Bool) (n : ℕ) (rest : List ℕ) (q : ℕ) → In rest q → In (cond b (n ∷ rest) rest) q
    kept true n rest q is = or-right (n == q) (list_any (λ k. k == q) rest) is
    kept false n rest q is = is

pub in-range : (n q : ℕ) → q < n → In (range_with_len 0 n) q
in-range zero q less = absurd (omega arith)
in-range (suc n) q less =
    let more : range_with_len 0 (suc n) ≡ range_with_len 0 n ++ n ∷ [] = ap (range_with_len 0) (sym (add-one n)) ∙ range-more n in
    let split : list_any (λ k. k == q) (range_with_len 0 (suc n)) ≡ (list_any (λ k. k == q) (range_with_len 0 n) || ((n == q) || false)) =
    ap (list_any (λ k. k == q)) more ∙ list_any-append (λ k. k == q) (range_with_len 0 n) (n ∷ []) in
    split ∙ ⊎_elim
    (λ (here : (n == q) ≡ true). or-right (list_any (λ k. k == q) (range_with_len 0 n)) ((n == q) || false) (or-left (n == q) false here))
    (λ (other : (n == q) ≡ false). or-left (list_any (λ k. k == q) (range_with_len 0 n)) ((n == q) || false) (in-range n q (let differ : (n == q) ≡ false = other in below n q less differ)))
    (cases_Bool (n == q))
  where
    below : (n q : ℕ) → q < suc n → (n == q) ≡ false → q < n
    below n q less differ = grind (arith, nat_tests)

-- what the filter keeps passes
pub each-passes : (p : ℕ → Bool) (ns : List ℕ) → AllByRecursion (λ q. p q ≡ true) (filter p ns)
each-passes p [] = tt
each-passes p (n ∷ ns) = ⊎_elim
    (λ (passes : p n ≡ true). rw passes (passes, each-passes p ns))
    (λ (fails : p n ≡ false). rw fails (each-passes p ns))
    (cases_Bool (p n))

fold-start : (before : ℤ → ℤ → Type 0) (pick : ℤ → ℤ → ℤ) → Order before pick → (f : ℕ → ℤ) (a : ℤ) (qs : List ℕ) → before (fold pick a (map f qs)) a
fold-start before pick order f a [] = order.itself a
fold-start before pick order f a (q ∷ qs) = order.through _ _ _ (fold-start before pick order f (pick a (f q)) qs) (order.first a (f q))

fold-each : (before : ℤ → ℤ → Type 0) (pick : ℤ → ℤ → ℤ) → Order before pick → (f : ℕ → ℤ) (a : ℤ) (qs : List ℕ) (q : ℕ) → In qs q → before (fold pick a (map f qs)) (f q)
fold-each before pick order f a [] q is = absurd (false≢true is)
fold-each before pick order f a (k ∷ qs) q is = ⊎_elim
    (λ (here : (k == q) ≡ true).
    let same : k ≡ q = eqb-true k q here in
    subst (λ j. before (fold pick (pick a (f k)) (map f qs)) (f j)) same
    (order.through _ _ _ (fold-start before pick order f (pick a (f k)) qs) (order.second a (f k))))
    (λ (other : (k == q) ≡ false). fold-each before pick order f (pick a (f k)) qs q (rw other at is))
    (cases_Bool (k == q))

fold-bound : (before : ℤ → ℤ → Type 0) (pick : ℤ → ℤ → ℤ) → Order before pick → (f : ℕ → ℤ) (m a : ℤ) (qs : List ℕ) → before m a → AllByRecursion (λ q. before m (f q)) qs → before m (fold pick a (map f qs))
fold-bound before pick order f m a [] start each = start
fold-bound before pick order f m a (q ∷ qs) start each = fold-bound before pick order f m (pick a (f q)) qs (order.both m a (f q) start each.0) each.1

-- the extreme of some numbers, which is that of one that comes before all
end-is : (before : ℤ → ℤ → Type 0) (pick : ℤ → ℤ → ℤ) → Order before pick → (f : ℕ → ℤ) (q : ℕ) (k : ℕ) (qs : List ℕ) → In (k ∷ qs) q → AllByRecursion (λ j. before (f q) (f j)) (k ∷ qs) → fold pick (f k) (map f qs) ≡ f q
end-is before pick order f q k qs is each =
    let to : before (fold pick (f k) (map f qs)) (f q) = ⊎_elim
    (λ (here : (k == q) ≡ true). subst (λ j. before (fold pick (f k) (map f qs)) (f j)) (eqb-true k q here) (fold-start before pick order f (f k) qs))
    (λ (other : (k == q) ≡ false). fold-each before pick order f (f k) qs q (rw other at is))
    (cases_Bool (k == q)) in
    order.same _ _ to (fold-bound before pick order f (f q) (f k) qs each.0 each.1)

pub least-and-greatest : (f : ℕ → ℤ) (first last : ℕ) (qs : List ℕ) → In qs first → In qs last → AllByRecursion (λ q. (f first ≤ℤ f q) × (f q ≤ℤ f last)) qs
    → (map f qs ≢ []) × (f first ≡ least (map f qs)) × (f last ≡ greatest (map f qs))
least-and-greatest f first last [] in_first in_last each = absurd (false≢true in_first)
least-and-greatest f first last (q ∷ qs) in_first in_last each = (
  (λ is. cc),
  sym (end-is (λ x y. x ≤ℤ y) int_min least-order f first q qs in_first (each-weaker (λ k. (f first ≤ℤ f k) × (f k ≤ℤ f last)) (λ k. f first ≤ℤ f k) (λ k both. both.0) (q ∷ qs) each)),
  sym (end-is (λ x y. y ≤ℤ x) int_max greatest-order f last q qs in_last (each-weaker (λ k. (f first ≤ℤ f k) × (f k ≤ℤ f last)) (λ k. f k ≤ℤ f last) (λ k both. both.1) (q ∷ qs) each)),
)

filter-fails : (p : ℕ → Bool) (ns : List ℕ) → ((q : ℕ) → p q ≡ false) → filter p ns ≡ []
filter-fails p [] fails = refl
filter-fails p (n ∷ ns) fails = rw (fails n) (filter-fails p ns fails)

-- Moments ---------------------------------------------------------------------------------------

neg-below : (n k : ℕ) → neg_ℤ (pos n) ≤ℤ pos k
neg-below zero k = omega (arith, ints)
neg-below (suc n) k = omega (arith, ints)

neg-order : (n k : ℕ) → k ≤ n → neg_ℤ (pos n) ≤ℤ neg_ℤ (pos k)
neg-order zero zero less = omega (arith, ints)
neg-order zero (suc k) less = absurd (omega arith)
neg-order (suc n) zero less = omega (arith, ints)
neg-order (suc n) (suc k) less = omega (arith, ints)

-- the same mass has the greater moment at the greater influence
pub moment-order : (mass : ℕ) (a b : ℤ) → a ≤ℤ b → (pos mass *ℤ a) ≤ℤ (pos mass *ℤ b)
moment-order mass (pos x) (pos y) less =
    let close : x ≤ y = omega (arith, ints) in
    let product : mass * x ≤ mass * y = mul-le-mul_left mass close in
    omega (arith, ints, product)
moment-order mass (pos x) (negsuc y) less = absurd (omega (arith, ints))
moment-order mass (negsuc x) (pos y) less = neg-below (mass * suc x) (mass * y)
moment-order mass (negsuc x) (negsuc y) less =
    let close : suc y ≤ suc x = omega (arith, ints) in
    neg-order (mass * suc x) (mass * suc y) (mul-le-mul_left mass close)

-- Ranks -----------------------------------------------------------------------------------------

pub rank-of : (hold : Layout) (ranks : List Ranked) → IsByInfluence hold ranks → (q : ℕ) → q < length hold.positions → (r : ℕ) × (r < length ranks) × (slice_get ranks r ≡ Some (ranked_of hold q))
rank-of hold ranks arranged q below =
    let at = at_from_Contains ranks (ranked_of hold q) (arranged.every q below) in
    (at.0, at.1, slice_get-get_or ranks at.0 (ranked_of hold q) at.1 ∙ ap (λ (e : Ranked). Some e) (at.2 (ranked_of hold q)))

-- a rank that passes is that of a position which does
pub rank-passes : (p : ℕ → Bool) (ranks : List Ranked) (r : ℕ) → at_rank p ranks r ≡ true → (e : Ranked) × (r < length ranks) × (slice_get ranks r ≡ Some e) × (p e.1 ≡ true)
rank-passes p ranks r passes = ⊎_elim
    (λ here. (here.0, here.1, here.2, rw here.2 at passes))
    (λ past. absurd (false≢true (rw past.1 at passes)))
    (slice_get_cases ranks r).1

-- the position of a rank that passes
pub number-at : (hold : Layout) (ranks : List Ranked) → IsByInfluence hold ranks → (p : ℕ → Bool) (r : ℕ) → at_rank p ranks r ≡ true
    → (q : ℕ) × (slice_get ranks r ≡ Some (ranked_of hold q)) × (p q ≡ true)
number-at hold ranks arranged p r passes =
    let found = rank-passes p ranks r passes in
    let here : get_or ranks r found.0 ≡ found.0 = get_or_from_slice_get ranks r found.0 found.0 found.2 in
    let known : found.0.0 ≡ influence_at hold found.0.1 = (rw here at (arranged.known r found.0 found.1)).1 in
    (found.0.1, found.2 ∙ ap (λ (i : ℤ). Some (i, found.0.1)) known, found.3)

-- each rank has the factor of its position
abbrev pub IsFactorOf : Layout → List Ranked → (ℕ → ℤ) → (ℕ → ℤ) → Type 0
IsFactorOf hold ranks factor at = (r q : ℕ) → slice_get ranks r ≡ Some (ranked_of hold q) → factor r ≡ at q

no-span : (hold : Layout) (ranks : List Ranked) → IsByInfluence hold ranks → (p : ℕ → Bool) → ((q : ℕ) → p q ≡ true → q < length hold.positions) → (passes : ℕ → Bool)
    → ((r : ℕ) → passes r ≡ at_rank p ranks r) → (f : ℕ → ℤ) → ((r : ℕ) → passes r ≡ false) → map f (filter p (range_with_len 0 (length hold.positions))) ≡ []
no-span hold ranks arranged p known passes same f none =
    ap (map f) (filter-fails p (range_with_len 0 (length hold.positions)) (λ q. ⊎_elim
    (λ (is : p q ≡ true).
    let rank = rank-of hold ranks arranged q (known q is) in
    let at : at_rank p ranks rank.0 ≡ true = rw rank.2 is in
    absurd (false≢true (sym (none rank.0) ∙ same rank.0 ∙ at)))
    (λ (not : p q ≡ false). not)
    (cases_Bool (p q))))

some-span : (hold : Layout) (ranks : List Ranked) → IsByInfluence hold ranks → (p : ℕ → Bool) → ((q : ℕ) → p q ≡ true → q < length hold.positions) → (passes : ℕ → Bool)
    → ((r : ℕ) → passes r ≡ at_rank p ranks r) → (mass : ℕ) (factor at : ℕ → ℤ) → IsFactorOf hold ranks factor at
    → (e : Span) → IsSpanOnRanks passes factor mass (Some e) → IsSpanOfList (map (λ q. pos mass *ℤ at q) (filter p (range_with_len 0 (length hold.positions)))) (Some e)
some-span hold ranks arranged p known passes same mass factor at factors e span =
    let f : ℕ → ℤ = λ q. pos mass *ℤ at q in
    let n : ℕ = length hold.positions in
    let a = number-at hold ranks arranged p span.0 (sym (same span.0) ∙ span.2) in
    let b = number-at hold ranks arranged p span.1 (sym (same span.1) ∙ span.3) in
    let between : (q : ℕ) → p q ≡ true → (f a.0 ≤ℤ f q) × (f q ≤ℤ f b.0) = λ q is.
    let rank = rank-of hold ranks arranged q (known q is) in
    let there : at_rank p ranks rank.0 ≡ true = rw rank.2 is in
    let order = rw (factors span.0 a.0 a.1, factors rank.0 q rank.2, factors span.1 b.0 b.1) at (span.4 rank.0 (same rank.0 ∙ there)) in
    (moment-order mass _ _ order.0, moment-order mass _ _ order.1) in
    let qs = filter p (range_with_len 0 n) in
    let found = least-and-greatest f a.0 b.0 qs
    (in-filter p (range_with_len 0 n) a.0 (in-range n a.0 (known a.0 a.2)) a.2)
    (in-filter p (range_with_len 0 n) b.0 (in-range n b.0 (known b.0 b.2)) b.2)
    (each-weaker (λ q. p q ≡ true) (λ q. (f a.0 ≤ℤ f q) × (f q ≤ℤ f b.0)) between qs (each-passes p (range_with_len 0 n))) in (
      found.0,
      span.5 ∙ ap (λ x. pos mass *ℤ x) (factors span.0 a.0 a.1) ∙ found.1,
      span.6 ∙ ap (λ x. pos mass *ℤ x) (factors span.1 b.0 b.1) ∙ found.2,
    )

-- the span on the ranks of some positions goes from the least to the greatest amount on these positions
pub span-on-ranks : (hold : Layout) (ranks : List Ranked) → IsByInfluence hold ranks → (p : ℕ → Bool) → ((q : ℕ) → p q ≡ true → q < length hold.positions) → (passes : ℕ → Bool)
    → ((r : ℕ) → passes r ≡ at_rank p ranks r) → (mass : ℕ) (factor at : ℕ → ℤ) → IsFactorOf hold ranks factor at
    → (span : Option Span) → IsSpanOnRanks passes factor mass span → IsSpanOfList (map (λ q. pos mass *ℤ at q) (filter p (range_with_len 0 (length hold.positions)))) span
span-on-ranks hold ranks arranged p known passes same mass factor at factors None none = no-span hold ranks arranged p known passes same (λ q. pos mass *ℤ at q) none
span-on-ranks hold ranks arranged p known passes same mass factor at factors (Some e) span = some-span hold ranks arranged p known passes same mass factor at factors e span

-- a test of a position, asked of its rank
pub at-its-rank : (test : ℕ → Bool) (hold : Layout) (ranks : List Ranked) (r q : ℕ) → slice_get ranks r ≡ Some (ranked_of hold q) → at_rank test ranks r ≡ test q
at-its-rank test hold ranks r q there = rw there refl

-- The first and the last of a set ---------------------------------------------------------------

-- the first rank of a set has the least influence, and the last the greatest
pub first-least : (ranks : List Ranked) → AreRising ranks → (passes : ℕ → Bool) → ((r : ℕ) → passes r ≡ true → r < length ranks) → (d : Ranked) (o : Option ℕ)
    → MatchOption o ((r : ℕ) → passes r ≡ false) (λ least. (least < 64) × (passes least ≡ true) × ((r : ℕ) → passes r ≡ true → least ≤ r))
    → MatchOption o ((r : ℕ) → passes r ≡ false) (λ least. (least < 64) × (passes least ≡ true) × ((r : ℕ) → passes r ≡ true → (get_or ranks least d).0 ≤ℤ (get_or ranks r d).0))
first-least ranks rising passes known d None none = none
first-least ranks rising passes known d (Some least) found = (found.0, found.1, λ r is. rising least r d (found.2 r is) (known r is))

pub last-greatest : (ranks : List Ranked) → AreRising ranks → (passes : ℕ → Bool) → ((r : ℕ) → passes r ≡ true → r < length ranks) → (d : Ranked) (o : Option ℕ)
    → MatchOption o ((r : ℕ) → passes r ≡ false) (λ greatest. (greatest < 64) × (passes greatest ≡ true) × ((r : ℕ) → passes r ≡ true → r ≤ greatest))
    → MatchOption o ((r : ℕ) → passes r ≡ false) (λ greatest. (greatest < 64) × (passes greatest ≡ true) × ((r : ℕ) → passes r ≡ true → (get_or ranks r d).0 ≤ℤ (get_or ranks greatest d).0))
last-greatest ranks rising passes known d None none = none
last-greatest ranks rising passes known d (Some greatest) found = (found.0, found.1, λ r is. rising r greatest d (found.2 r is) (known greatest found.1))
