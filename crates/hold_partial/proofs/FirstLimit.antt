-- the first limit of the list that breaks, among those that speak of the position
use Rattle.std.proofs.Common.{◌≡◌, ⊎_elim, ℕ, zero, suc, ◌+◌, ◌-◌, ◌<◌, ◌≤◌, Bool, true, false, ◌&&◌, nat_lt, List, [], ◌∷◌, ◌++◌, length, map, cond, Option, Some, None, option_map, refl, ap, ap₂, sym, ◌∙◌, arith}
use Rattle.std.proofs.lemmas.Bool.{cases_Bool, ltb-true}
use Rattle.std.proofs.lemmas.Bool.Decides.{nat_tests}
use Rattle.std.specs.Prelude.{slice_get, position}
use Rattle.std.specs.List.{AllByRecursion, filter, find, range_with_len, position_or_len}
use Rattle.std.specs.Option.{option_or, option_map_or}
use Rattle.hold_parts.specs.declared.parts.Combined.{Combined}
use Rattle.hold_parts.specs.declared.parts.Cumulative.{Cumulative}
use Rattle.hold_limits.specs.Layout.{Layout}
use Rattle.hold_limits.specs.Problem.{Problem}
use Rattle.hold_limits.specs.Placement.{load_of}
use Rattle.hold_parts.specs.Limits.{is_listed, is_counted}
use Rattle.hold_reach.specs.declared.rule.RuleBroken.TheVariants as rule
use Rattle.hold_partial.specs.Limits.{Allowance, limits_of, rule_at}
use Rattle.hold_reach.specs.Rules.{breaks_combined, breaks_cumulative, limit_broken}

-- Finding ---------------------------------------------------------------------------------------

pub find-filter : (test p : ℕ → Bool) (ns : List ℕ) → find test (filter p ns) ≡ find (λ j. p j && test j) ns
find-filter test p [] = refl
find-filter test p (n ∷ ns) = ⊎_elim
    (λ (passes : p n ≡ true). rw passes (ap (λ o. cond (test n) (Some n) o) (find-filter test p ns)))
    (λ (fails : p n ≡ false). rw fails (find-filter test p ns))
    (cases_Bool (p n))

find-same : (p q : ℕ → Bool) (ns : List ℕ) → AllByRecursion (λ j. p j ≡ q j) ns → find p ns ≡ find q ns
find-same p q [] each = refl
find-same p q (n ∷ ns) each = rw each.0 (ap (λ o. cond (q n) (Some n) o) (find-same p q ns each.1))

pub each-number : (P : ℕ → Type 0) (a n : ℕ) → ((j : ℕ) → a ≤ j → j < a + n → P j) → AllByRecursion P (range_with_len a n)
each-number P a zero each = tt
each-number P a (suc n) each = (each a (omega arith) (omega arith), each-number P (a + 1) n (λ j low high. each j (omega arith) (omega arith)))

-- tests that agree on the numbers below n find the same one
pub find-below : (p q : ℕ → Bool) (n : ℕ) → ((j : ℕ) → j < n → p j ≡ q j) → find p (range_with_len 0 n) ≡ find q (range_with_len 0 n)
find-below p q n same = find-same p q (range_with_len 0 n) (each-number (λ j. p j ≡ q j) 0 n (λ j low high. same j (omega arith)))

cond-map : {X Y : Type 0} (f : X → Y) (b : Bool) (x : X) (o : Option X) (r : Option Y) → r ≡ option_map f o → cond b (Some (f x)) r ≡ option_map f (cond b (Some x) o)
cond-map f true x o r is = refl
cond-map f false x o r is = is

find-shift : (p : ℕ → Bool) (a b n : ℕ) → b ≡ suc a → find p (range_with_len b n) ≡ option_map suc (find (λ k. p (suc k)) (range_with_len a n))
find-shift p a b zero is = refl
find-shift p a b (suc n) is =
    let next : b + 1 ≡ suc (a + 1) = omega arith in
    let rest = find-shift p (a + 1) (b + 1) n next in
    let head : cond (p b) (Some b) (find p (range_with_len (b + 1) n)) ≡ cond (p (suc a)) (Some (suc a)) (find p (range_with_len (b + 1) n)) =
    ap (λ k. cond (p k) (Some k) (find p (range_with_len (b + 1) n))) is in
    head ∙ cond-map suc (p (suc a)) a (find (λ k. p (suc k)) (range_with_len (a + 1) n)) (find p (range_with_len (b + 1) n)) rest

-- Places in lists -------------------------------------------------------------------------------

place-later : (a b : ℕ) → cond (nat_lt (1 + a) (suc b)) (Some (1 + a)) None ≡ option_map suc (cond (nat_lt a b) (Some a) None)
place-later a b =
    let more : 1 + a ≡ suc a = omega arith in
    let same : nat_lt (1 + a) (suc b) ≡ nat_lt a b = grind (arith, nat_tests) in
    ap₂ (λ t k. cond t (Some k) None) same more ∙ mapped (nat_lt a b) a
  where
    mapped : (t : Bool) (a : ℕ) → cond t (Some (suc a)) None ≡ option_map suc (cond t (Some a) None)
    mapped true a = refl
    mapped false a = refl

position-cons : {X : Type 0} (p : X → Bool) (x : X) (xs : List X) → position p (x ∷ xs) ≡ cond (p x) (Some 0) (option_map suc (position p xs))
position-cons p x xs = ⊎_elim
    (λ (passes : p x ≡ true). let some : nat_lt 0 (suc (length xs)) ≡ true = grind (arith, nat_tests) in rw (passes, some) refl)
    (λ (fails : p x ≡ false). rw fails (place-later (position_or_len p xs) (length xs)))
    (cases_Bool (p x))

-- the first number whose entry passes is the place of the first entry that passes
pub find-place : {X : Type 0} (p : X → Bool) (xs : List X) → find (λ j. option_map_or p (slice_get xs j) false) (range_with_len 0 (length xs)) ≡ position p xs
find-place p [] = refl
find-place p (x ∷ xs) =
    let shifted = find-shift (λ j. option_map_or p (slice_get (x ∷ xs) j) false) 0 1 (length xs) refl in
    ap (λ o. cond (p x) (Some 0) o) (shifted ∙ ap (option_map suc) (find-place p xs)) ∙ sym (position-cons p x xs)

option_map-twice : (f g h : ℕ → ℕ) (o : Option ℕ) → ((k : ℕ) → f (g k) ≡ h k) → option_map f (option_map g o) ≡ option_map h o
option_map-twice f g h None same = refl
option_map-twice f g h (Some k) same = ap (λ n. Some n) (same k)

option_map-or : (f : ℕ → ℕ) (a b : Option ℕ) → option_map f (option_or a b) ≡ option_or (option_map f a) (option_map f b)
option_map-or f None b = refl
option_map-or f (Some k) b = refl

cond-or : (t : Bool) (a b : Option ℕ) → cond t (Some 0) (option_or a b) ≡ option_or (cond t (Some 0) a) b
cond-or true a b = refl
cond-or false a b = refl

option_map-same : (f : ℕ → ℕ) (o : Option ℕ) → ((k : ℕ) → f k ≡ k) → option_map f o ≡ o
option_map-same f None same = refl
option_map-same f (Some k) same = ap (λ n. Some n) (same k)

position-parts : {X Y : Type 0} (p : Y → Bool) (f : X → Y) (xs : List X) (ys : List Y) → position p (map f xs ++ ys) ≡ option_or (position (λ x. p (f x)) xs) (option_map (λ k. length xs + k) (position p ys))
position-parts p f [] ys = sym (option_map-same (λ k. 0 + k) (position p ys) (λ k. omega arith))
position-parts p f (x ∷ xs) ys =
    position-cons p (f x) (map f xs ++ ys)
    ∙ ap (λ o. cond (p (f x)) (Some 0) (option_map suc o)) (position-parts p f xs ys)
    ∙ ap (λ o. cond (p (f x)) (Some 0) o) (option_map-or suc (position (λ x. p (f x)) xs) (option_map (λ k. length xs + k) (position p ys)))
    ∙ cond-or (p (f x)) (option_map suc (position (λ x. p (f x)) xs)) (option_map suc (option_map (λ k. length xs + k) (position p ys)))
    ∙ ap₂ option_or (sym (position-cons (λ x. p (f x)) x xs)) (option_map-twice suc (λ k. length xs + k) (λ k. suc (length xs) + k) (position p ys) (λ k. omega arith))

position-map : {X Y : Type 0} (p : Y → Bool) (f : X → Y) (xs : List X) → position p (map f xs) ≡ position (λ x. p (f x)) xs
position-map p f [] = refl
position-map p f (x ∷ xs) = position-cons p (f x) (map f xs) ∙ ap (λ o. cond (p (f x)) (Some 0) (option_map suc o)) (position-map p f xs) ∙ sym (position-cons (λ x. p (f x)) x xs)

-- Rules -----------------------------------------------------------------------------------------

position-below : {X : Type 0} (p : X → Bool) (xs : List X) (k : ℕ) → position p xs ≡ Some k → k < length xs
position-below p xs k is = ⊎_elim
    (λ (less : nat_lt (position_or_len p xs) (length xs) ≡ true).
    let same : Some (position_or_len p xs) ≡ Some k = rw less at is in
    let place : position_or_len p xs ≡ k = cc in
    omega (arith, ltb-true (position_or_len p xs) (length xs) less))
    (λ (not_less : nat_lt (position_or_len p xs) (length xs) ≡ false). absurd (cc (rw not_less at is)))
    (cases_Bool (nat_lt (position_or_len p xs) (length xs)))

rule-first : (hold : Layout) (a b : Option ℕ) → ((k : ℕ) → a ≡ Some k → k < length hold.combined)
    → option_map (rule_at hold) (option_or a (option_map (λ k. length hold.combined + k) b)) ≡ option_or (option_map rule.Combined a) (option_map rule.Cumulative b)
rule-first hold (Some k) b below =
    let less : k < length hold.combined = below k refl in
    let is : nat_lt k (length hold.combined) ≡ true = grind (arith, nat_tests) in
    rw is refl
rule-first hold None None below = refl
rule-first hold None (Some k) below =
    let past : nat_lt (length hold.combined + k) (length hold.combined) ≡ false = grind (arith, nat_tests) in
    let rest : length hold.combined + k - length hold.combined ≡ k = omega arith in
    rw (past, rest) refl

-- a limit's load is more than it allows
abbrev pub is_over : Problem → List ℕ → Allowance → Bool
is_over t prefix l = nat_lt l.1 (load_of l.0 t prefix)

-- the rule of the first limit of the list that breaks is the first limit that breaks
pub first-limit : (t : Problem) (prefix : List ℕ) → option_map (rule_at t.hold) (position (is_over t prefix) (limits_of t.hold)) ≡ limit_broken t prefix
first-limit t prefix =
    let combined : Combined → Allowance = λ c. (is_listed c.places, c.most.0) in
    let cumulative : Cumulative → Allowance = λ c. (is_counted c, c.most.0) in
    let parts = position-parts (is_over t prefix) combined t.hold.combined (map cumulative t.hold.cumulative) in
    let second = position-map (is_over t prefix) cumulative t.hold.cumulative in
    ap (option_map (rule_at t.hold)) (parts ∙ ap (λ o. option_or (position (breaks_combined t prefix) t.hold.combined) (option_map (λ k. length t.hold.combined + k) o)) second)
    ∙ rule-first t.hold (position (breaks_combined t prefix) t.hold.combined) (position (breaks_cumulative t prefix) t.hold.cumulative) (position-below (breaks_combined t prefix) t.hold.combined)
