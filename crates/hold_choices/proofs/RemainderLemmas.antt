-- divisors of what hold indices differ by, and the ticks that leave a remainder
use Rattle.std.proofs.Common.{◌≡◌, ℕ, ◌+◌, ◌-◌, ◌*◌, ◌/◌, ◌%◌, ◌<◌, ℤ, pos, ◌+ℤ◌, ◌-ℤ◌, ◌*ℤ◌, unsigned_abs, List, [], ◌∷◌, ◌++◌, map, refl, ap, sym, subst, ◌∙◌, arith}
use Rattle.std.specs.Prelude.{◌↔◌, ◌≤ℤ◌, ◌<ℤ◌, All}
use Rattle.std.specs.Int.{IsGcd, ◌∣◌}
use Rattle.std.proofs.lemmas.Int.{ints, by_lt_z, unsigned_abs-mul}
use Rattle.std.proofs.lemmas.List.Elements.{All-nil, All-cons, All-head, All-tail, All-push}
use Rattle.std.proofs.lemmas.Nat.Gcd.{dvd_refl, dvd_trans, mod-eq-zero_of_dvd}
use Rattle.std.proofs.Math.IntN.{zero-*ℤ}
use Rattle.std.proofs.Math.Nat.{dvd-mul_right, div-add-mod}
use Rattle.hold_parts.specs.declared.parts.Item.{Item}
use Rattle.hold_limits.specs.Layout.{Layout}
use Rattle.hold_limits.specs.Placement.{placed_moment, hold_index}
use Rattle.hold_limits.specs.Problem.{Problem}
use Rattle.price_trees.specs.Prices.{Candidate, Choice, candidates}
use Rattle.price_trees.specs.Narrowing.{Ticks, IsIn}
use Rattle.price_trees.specs.Trees.{IsMultiple, IsMissed, first}
use Rattle.price_trees.proofs.SignedSums.{times-add, times-le, times-zero}
use Rattle.hold_choices.specs.Remainders.{LeaveOne, IsCommonDivisor}

-- what holds of three numbers holds of those that they equal
pub of-three : (P : ℤ → ℤ → ℤ → Type 0) (a a' b b' c c' : ℤ) → a ≡ a' → b ≡ b' → c ≡ c' → P a b c → P a' b' c'
of-three P a a' b b' c c' first second third holds = subst (λ x. P x b' c') first (subst (λ x. P a x c') second (subst (P a b) third holds))

-- Multiples -------------------------------------------------------------------------------------

times-minus : (d : ℕ) (z : ℤ) → pos d *ℤ (pos 0 -ℤ z) ≡ pos 0 -ℤ pos d *ℤ z
times-minus d z =
    let sum = times-add d z (pos 0 -ℤ z) in
    let none : z +ℤ (pos 0 -ℤ z) ≡ pos 0 = omega (arith, ints) in
    let whole : pos d *ℤ (z +ℤ (pos 0 -ℤ z)) ≡ pos 0 = ap (λ y. pos d *ℤ y) none ∙ times-zero d in
    omega (arith, ints, sum, whole)

-- a number is a multiple exactly where the divisor divides its absolute value
pub dvd-multiple : (d : ℕ) (z : ℤ) → d ∣ unsigned_abs z → IsMultiple d z
dvd-multiple d z divides = by_sign z (unsigned_abs z) refl
  where
    parts : (n : ℕ) → d ∣ n → n ≡ d * (n / d)
    parts n is = let none : n % d ≡ 0 = mod-eq-zero_of_dvd d is in omega (arith, none, div-add-mod n d)

    by_sign : (y : ℤ) (n : ℕ) → n ≡ unsigned_abs z → IsMultiple d z
    by_sign y n is =
        let k : ℕ = n / d in
        let whole : n ≡ d * k = parts n (subst (λ m. d ∣ m) (sym is) divides) in
        let times : pos d *ℤ pos k ≡ pos n = ap pos (sym whole) in
        by_lt_z z (pos 0)
        (λ (less : z <ℤ pos 0). record { times = pos 0 -ℤ pos k; is = let minus = times-minus d (pos k) in omega (arith, ints, less, is, minus, times) })
        (λ (from : pos 0 ≤ℤ z). record { times = pos k; is = omega (arith, ints, from, is, times) })

pub multiple-dvd : (d : ℕ) (z : ℤ) → IsMultiple d z → d ∣ unsigned_abs z
multiple-dvd d z multiple =
    let size : unsigned_abs z ≡ d * unsigned_abs multiple.times = ap unsigned_abs multiple.is ∙ unsigned_abs-mul (pos d) multiple.times in
    subst (λ n. d ∣ n) (sym size) (dvd-mul_right d (unsigned_abs multiple.times))

pub times-difference : (m : ℕ) (a b : ℤ) → pos m *ℤ (a -ℤ b) ≡ pos m *ℤ a -ℤ pos m *ℤ b
times-difference m a b =
    let sum = times-add m (a -ℤ b) b in
    let back : (a -ℤ b) +ℤ b ≡ a = omega (arith, ints) in
    let whole : pos m *ℤ ((a -ℤ b) +ℤ b) ≡ pos m *ℤ a = ap (λ y. pos m *ℤ y) back in
    omega (arith, ints, sum, whole)

pub multiple-none : (d : ℕ) (z : ℤ) → z ≡ pos 0 → IsMultiple d z
multiple-none d z none = record { times = pos 0; is = none ∙ sym (times-zero d) }

-- what a greatest common divisor divides by
pub divides-both : (a b g d : ℕ) → IsGcd a b g → (d ∣ g) ↔ ((d ∣ a) × (d ∣ b))
divides-both a b g d is = (λ divides. (dvd_trans d divides is.0, dvd_trans d divides is.1), λ both. is.2 d both.0 both.1)

-- Divisors of all -------------------------------------------------------------------------------

-- a container's moments leave one remainder where all differ from that on its first position by multiples
pub leave-one : (hold : Layout) (d : ℕ) (item : Item) (q : ℕ) (qs whole : List ℕ) → whole ≡ q ∷ qs
    → All (λ p. IsMultiple d (placed_moment hold (item, p) -ℤ placed_moment hold (item, q))) qs ↔ LeaveOne hold d (item, whole)
leave-one hold d item q qs whole is =
    let P : ℕ → Type 0 = λ p. IsMultiple d (placed_moment hold (item, p) -ℤ placed_moment hold (item, q)) in (
      λ rest. subst (λ set. LeaveOne hold d (item, set)) (sym is) (All-cons P q qs (multiple-none d _ (omega (arith, ints))) rest),
      λ all. let split : LeaveOne hold d (item, q ∷ qs) = subst (λ set. LeaveOne hold d (item, set)) is all in All-tail P q qs split,
    )

-- one position more of a container
pub number-more : (P : ℕ → Type 0) (q : ℕ) (rest whole : List ℕ) (old new : Type 0) (start : Type 0) → whole ≡ q ∷ rest → (new ↔ (P q × old)) → ((old × All P whole) ↔ start) → (new × All P rest) ↔ start
number-more P q rest whole old new start is more so_far = (
  λ have. let split = more.0 have.0 in so_far.0 (split.1, subst (All P) (sym is) (All-cons P q rest split.0 have.1)),
  λ began.
      let have = so_far.1 began in
      let all : All P (q ∷ rest) = subst (All P) is have.1 in
      (more.1 (All-head P q rest all, have.0), All-tail P q rest all),
)

pub all-listed : (P : ℕ → Type 0) (old start : Type 0) (rest : List ℕ) → rest ≡ [] → ((old × All P rest) ↔ start) → old ↔ start
all-listed P old start rest none so_far = (λ have. so_far.0 (have, subst (All P) (sym none) (All-nil P)), λ began. (so_far.1 began).0)

-- one container more
pub containers-more : (P : Candidate → Type 0) (front all : List Candidate) (c : Candidate) (old new : Type 0) → all ≡ front ++ c ∷ [] → (old ↔ All P front) → (new ↔ (old × P c)) → new ↔ All P all
containers-more P front all c old new is so_far more = (
  λ have. let both = more.0 have in subst (All P) (sym is) (All-push P front c (so_far.0 both.0) both.1),
  λ each.
      let every : All P (front ++ c ∷ []) = subst (All P) is each in
      more.1 (so_far.1 (front-all P front c every), last-all P front c every),
)
  where
    front-all : (P : Candidate → Type 0) (front : List Candidate) (c : Candidate) → All P (front ++ c ∷ []) → All P front
    front-all P [] c every = All-nil P
    front-all P (x ∷ front) c every = All-cons P x front (All-head P x (front ++ c ∷ []) every) (front-all P front c (All-tail P x (front ++ c ∷ []) every))

    last-all : (P : Candidate → Type 0) (front : List Candidate) (c : Candidate) → All P (front ++ c ∷ []) → P c
    last-all P [] c every = All-head P c [] every
    last-all P (x ∷ front) c every = last-all P front c (All-tail P x (front ++ c ∷ []) every)

-- Ticks -----------------------------------------------------------------------------------------

-- no tick from low on lies below the first index that differs by a multiple, nor one from it on within the ticks
pub none-below : (g : ℕ) (low high index : ℤ) (above : ℕ) → above < g → IsMultiple g ((low +ℤ pos above) -ℤ index) → high <ℤ (low +ℤ pos above)
    → (tick : ℤ) → low ≤ℤ tick → tick ≤ℤ high → IsMultiple g (tick -ℤ index) → ⊥
none-below g low high index above near multiple past tick from to other =
    let m = multiple.times in
    by_lt_z other.times m
    (λ (less : other.times <ℤ m).
    let up = times-le g (other.times +ℤ pos 1) m (omega (arith, ints, less)) in
    let more = times-add g other.times (pos 1) in
    let one : pos g *ℤ pos 1 ≡ pos g = ap pos (let same : g * 1 ≡ g = omega arith in same) in
    omega (arith, ints, up, more, one, near, from, multiple.is, other.is))
    (λ (as_great : m ≤ℤ other.times).
    let up = times-le g m other.times as_great in
    omega (arith, ints, up, past, to, multiple.is, other.is))

pub multiple-zero : (z : ℤ) → IsMultiple 0 z → z ≡ pos 0
multiple-zero z multiple = multiple.is ∙ zero-*ℤ multiple.times

-- the first index above, where the ticks begin below the given one or not
pub above-index : (g n k r : ℕ) (low index : ℤ) → g * k + r ≡ n → low ≤ℤ index → n ≡ unsigned_abs (low -ℤ index) → IsMultiple g ((low +ℤ pos r) -ℤ index)
above-index g n k r low index split from is = record {
  times = pos 0 -ℤ pos k;
  is = let minus = times-minus g (pos k) in let product : pos g *ℤ pos k ≡ pos (g * k) = refl in omega (arith, ints, split, from, is, minus, product);
}

pub at-index : (g n k r : ℕ) (low index : ℤ) → g * k + r ≡ n → index <ℤ low → n ≡ unsigned_abs (low -ℤ index) → r ≡ 0 → IsMultiple g ((low +ℤ pos r) -ℤ index)
at-index g n k r low index split below is none = record {
  times = pos k;
  is = let product : pos g *ℤ pos k ≡ pos (g * k) = refl in omega (arith, ints, split, below, is, product, none);
}

pub below-index : (g n k r : ℕ) (low index : ℤ) → g * k + r ≡ n → r < g → index <ℤ low → n ≡ unsigned_abs (low -ℤ index) → IsMultiple g ((low +ℤ pos (g - r)) -ℤ index)
below-index g n k r low index split less below is = record {
  times = pos k +ℤ pos 1;
  is =
      let sum = times-add g (pos k) (pos 1) in
      let one : pos g *ℤ pos 1 ≡ pos g = ap pos (let same : g * 1 ≡ g = omega arith in same) in
      let product : pos g *ℤ pos k ≡ pos (g * k) = refl in
      omega (arith, ints, split, less, below, is, sum, one, product);
}

-- Missed choices --------------------------------------------------------------------------------

-- a choice is missed by a divisor exactly where it is missed by the greatest
pub missed-is : (t : Problem) (ticks : Ticks) (choice : Choice) (g : ℕ) (index : ℤ) (answer : Type 0) → IsCommonDivisor t.hold (candidates t choice) g → index ≡ hold_index t (map first choice)
    → (answer ↔ ((tick : ℤ) → IsIn ticks tick → IsMultiple g (tick -ℤ index) → ⊥)) → answer ↔ IsMissed t ticks choice
missed-is t ticks choice g index answer common is tells = (
  λ missed. record {
    divisor = g;
    same = (common g).0 (dvd_refl g);
    none = λ tick inside multiple. tells.0 missed tick inside (subst (λ i. IsMultiple g (tick -ℤ i)) (sym is) multiple);
  },
  λ misses. tells.1 (λ tick inside multiple.
      let d = misses.divisor in
      let divides : d ∣ g = (common d).1 misses.same in
      misses.none tick inside (subst (λ i. IsMultiple d (tick -ℤ i)) is (dvd-multiple d (tick -ℤ index) (dvd_trans d divides (multiple-dvd g (tick -ℤ index) multiple))))),
)
