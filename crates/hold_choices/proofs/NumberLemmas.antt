-- sets and lists of the same numbers
use Rattle.std.proofs.Common.{◌≡◌, ◌≢◌, ⊎_elim, ℕ, zero, suc, ◌+◌, ◌<◌, ◌≤◌, Bool, true, false, ◌&&◌, ◌||◌, ◌==◌, nat_lt, List, [], ◌∷◌, refl, ap, ap₂, sym, ◌∙◌, arith}
use Rattle.std.proofs.lemmas.Bool.{cases_Bool, false≢true}
use Rattle.std.proofs.lemmas.Bool.Decides.{nat_tests, eqb_tells}
use Rattle.std.specs.List.{filter, list_any, range_with_len}
use Rattle.position_set.specs.declared.set.PositionSet.{PositionSet}
use Rattle.position_set.specs.Sets.{has, members, Stands}
use Rattle.price_trees.specs.Trees.{first}

pub eq-swap : (q k : ℕ) → (q == k) ≡ (k == q)
eq-swap q k = ⊎_elim
    (λ same. ⊎_elim (λ back. same.0 ∙ sym back.0) (λ other. absurd (other.1 (sym same.1))) (eqb_tells k q))
    (λ apart. ⊎_elim (λ back. absurd (apart.1 (sym back.1))) (λ other. apart.0 ∙ sym other.0) (eqb_tells k q))
    (eqb_tells q k)

-- Ranges ----------------------------------------------------------------------------------------

same-within : (f g : ℕ → Bool) (a n : ℕ) → ((q : ℕ) → a ≤ q → q < a + n → f q ≡ g q) → filter f (range_with_len a n) ≡ filter g (range_with_len a n)
same-within f g a zero same = refl
same-within f g a (suc n) same = rw (same a (omega arith) (omega arith), same-within f g (a + 1) n (λ q above below. same q (omega (arith, above)) (omega (arith, below)))) refl

filter-and : (f g : ℕ → Bool) (qs : List ℕ) → filter (λ q. f q && g q) qs ≡ filter g (filter f qs)
filter-and f g [] = refl
filter-and f g (q ∷ qs) = ⊎_elim (λ (one : f q ≡ true). rw (one, filter-and f g qs) refl) (λ (other : f q ≡ false). rw (other, filter-and f g qs) refl) (cases_Bool (f q))

none-from : (f : ℕ → Bool) (a n : ℕ) → ((q : ℕ) → a ≤ q → f q ≡ false) → filter f (range_with_len a n) ≡ []
none-from f a zero none = refl
none-from f a (suc n) none = rw (none a (omega arith)) (none-from f (a + 1) n (λ q from. none q (omega (arith, from))))

-- a test that none passes from the end of a shorter range on
shorter : (f : ℕ → Bool) (a n m end : ℕ) → end ≡ a + n → n ≤ m → filter (λ q. nat_lt q end && f q) (range_with_len a m) ≡ filter f (range_with_len a n)
shorter f a zero m end is few = none-from (λ q. nat_lt q end && f q) a m (λ q from. let past : nat_lt q end ≡ false = grind (arith, nat_tests) in rw past refl)
shorter f a (suc n) zero end is few = absurd (omega (arith, few))
shorter f a (suc n) (suc m) end is few =
    let below : nat_lt a end ≡ true = grind (arith, nat_tests) in
    let rest = shorter f (a + 1) n m end (omega (arith, is)) (omega (arith, few)) in
    ⊎_elim (λ (one : f a ≡ true). rw (below, one, rest) refl) (λ (other : f a ≡ false). rw (below, other, rest) refl) (cases_Bool (f a))

any-from : (f test : ℕ → Bool) (k a n : ℕ) → f k ≡ true → test k ≡ true → a ≤ k → k < a + n → list_any test (filter f (range_with_len a n)) ≡ true
any-from f test k a zero in_it passes low high = absurd (omega (arith, low, high))
any-from f test k a (suc n) in_it passes low high = ⊎_elim
    (λ same. rw (ap f same.1 ∙ in_it, ap test same.1 ∙ passes) refl)
    (λ apart.
    let differ : a ≢ k = apart.1 in
    let later : list_any test (filter f (range_with_len (a + 1) n)) ≡ true = any-from f test k (a + 1) n in_it passes (omega (arith, low, differ)) (omega (arith, high)) in
    ⊎_elim (λ (one : f a ≡ true). rw (one, later) (or-true (test a))) (λ (other : f a ≡ false). rw other later) (cases_Bool (f a)))
    (eqb_tells a k)
  where
    or-true : (b : Bool) → (b || true) ≡ true
    or-true true = refl
    or-true false = refl

no-from : (f test : ℕ → Bool) (a n : ℕ) → ((q : ℕ) → f q ≡ true → test q ≡ false) → list_any test (filter f (range_with_len a n)) ≡ false
no-from f test a zero none = refl
no-from f test a (suc n) none = ⊎_elim
    (λ (one : f a ≡ true). rw (one, none a one) (no-from f test (a + 1) n none))
    (λ (other : f a ≡ false). rw other (no-from f test (a + 1) n none))
    (cases_Bool (f a))

-- the first of those that pass is in the range
first-below : (f : ℕ → Bool) (a n q : ℕ) (qs : List ℕ) → filter f (range_with_len a n) ≡ q ∷ qs → q < a + n
first-below f a zero q qs is = absurd (cc)
first-below f a (suc n) q qs is = ⊎_elim
    (λ (one : f a ≡ true). let here : a ∷ filter f (range_with_len (a + 1) n) ≡ q ∷ qs = rw one at is in let same : a ≡ q = cc in omega (arith, same))
    (λ (other : f a ≡ false). let later = first-below f (a + 1) n q qs (rw other at is) in omega (arith, later))
    (cases_Bool (f a))

-- the least of those that pass comes first
first-from : (f : ℕ → Bool) (k a n : ℕ) → f k ≡ true → ((q : ℕ) → f q ≡ true → k ≤ q) → a ≤ k → k < a + n → first (filter f (range_with_len a n)) ≡ k
first-from f k a zero passes least low high = absurd (omega (arith, low, high))
first-from f k a (suc n) passes least low high = ⊎_elim
    (λ (one : f a ≡ true). rw one (let from = least a one in omega (arith, low, from)))
    (λ (other : f a ≡ false).
    let differ : a ≢ k = λ same. false≢true (sym other ∙ ap f same ∙ passes) in
    rw other (first-from f k (a + 1) n passes least (omega (arith, low, differ)) (omega (arith, high))))
    (cases_Bool (f a))

-- Sets ------------------------------------------------------------------------------------------

-- a set that has those of another that pass a test has the other's numbers filtered
pub members-filtered : (part whole : PositionSet) (test : ℕ → Bool) → ((q : ℕ) → q < 64 → has part q ≡ (has whole q && test q)) → members part ≡ filter test (members whole)
unfolding members
members-filtered part whole test same = same-within (has part) (λ q. has whole q && test q) 0 64 (λ q from below. same q (omega (arith, below))) ∙ filter-and (has whole) test (range_with_len 0 64)

-- a set that has the numbers below an end that pass a test
pub members-range : (set : PositionSet) (test : ℕ → Bool) (end : ℕ) → end ≤ 64 → Stands set (λ q. nat_lt q end && test q) → members set ≡ filter test (range_with_len 0 end)
unfolding members
members-range set test end few stands = same-within (has set) (λ q. nat_lt q end && test q) 0 64 (λ q from below. stands q) ∙ shorter test 0 end 64 end (omega arith) few

pub members-any : (set : PositionSet) (test : ℕ → Bool) (q : ℕ) → q < 64 → has set q ≡ true → test q ≡ true → list_any test (members set) ≡ true
unfolding members
members-any set test q within in_set passes = any-from (has set) test q 0 64 in_set passes (omega arith) (omega (arith, within))

pub members-no : (set : PositionSet) (test : ℕ → Bool) → ((q : ℕ) → has set q ≡ true → test q ≡ false) → list_any test (members set) ≡ false
unfolding members
members-no set test none = no-from (has set) test 0 64 none

pub members-below : (set : PositionSet) (q : ℕ) (qs : List ℕ) → members set ≡ q ∷ qs → q < 64
unfolding members
members-below set q qs is = first-below (has set) 0 64 q qs is

pub members-least : (set : PositionSet) (k : ℕ) → k < 64 → has set k ≡ true → ((q : ℕ) → has set q ≡ true → k ≤ q) → first (members set) ≡ k
unfolding members
members-least set k within in_set least = first-from (has set) k 0 64 in_set least (omega arith) (omega (arith, within))

-- Tables ----------------------------------------------------------------------------------------

lt-more : (q n : ℕ) → nat_lt q (n + 1) ≡ (nat_lt q n || (q == n))
lt-more q n = grind (arith, nat_tests)

spread : (a b t : Bool) → ((a || b) && t) ≡ ((a && t) || (t && b))
spread true true true = refl
spread true true false = refl
spread true false true = refl
spread true false false = refl
spread false true true = refl
spread false true false = refl
spread false false true = refl
spread false false false = refl

both-false : (a b : Bool) → (a && false) ≡ (b && false)
both-false true true = refl
both-false true false = refl
both-false false true = refl
both-false false false = refl

at-equal : (test : ℕ → Bool) (q n : ℕ) → (test q && (q == n)) ≡ (test n && (q == n))
at-equal test q n = ⊎_elim
    (λ same. ap (λ k. test k && (q == n)) same.1)
    (λ other. rw other.0 (both-false (test q) (test n)))
    (eqb_tells q n)

-- the set of those below n + 1 is that of those below n, with n where it passes
pub stands-more : (test : ℕ → Bool) (set more : PositionSet) (n : ℕ) (passes : Bool) → Stands set (λ q. nat_lt q n && test q)
    → ((q : ℕ) → has more q ≡ (has set q || (passes && (q == n)))) → passes ≡ test n → Stands more (λ q. nat_lt q (n + 1) && test q)
stands-more test set more n passes stands with is = λ q.
    with q
    ∙ ap₂ (λ a b. a || (b && (q == n))) (stands q) is
    ∙ sym (ap (λ b. b && test q) (lt-more q n) ∙ spread (nat_lt q n) (q == n) (test q) ∙ ap (λ b. (nat_lt q n && test q) || b) (at-equal test q n))
