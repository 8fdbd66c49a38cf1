-- the numbers of a set in a list
use Rattle.std.proofs.Common.{◌≡◌, ⊎_elim, ℕ, zero, suc, ◌+◌, ◌<◌, ◌≤◌, ◌≢◌, Bool, true, false, not, ◌&&◌, ◌==◌, ◌^◌, refl, ap, sym, ◌∙◌, arith, List, [], ◌∷◌, length}
use Rattle.std.proofs.lemmas.Bool.{cases_Bool, false≢true}
use Rattle.std.proofs.lemmas.Bool.Decides.{eqb_tells}
use Rattle.std.specs.List.{filter, range_with_len}
use Rattle.position_set.specs.declared.set.PositionSet.{PositionSet}
use Rattle.position_set.specs.Sets.{has, members}
use Rattle.position_set.proofs.SetLemmas.{has-above, lt-or-le}

-- Numbers of a range that pass a test -----------------------------------------------------------

-- tests that agree from a on pass the same numbers from a on
pub same-from : (f g : ℕ → Bool) (a n : ℕ) → ((q : ℕ) → a ≤ q → f q ≡ g q) → filter f (range_with_len a n) ≡ filter g (range_with_len a n)
same-from f g a zero same = refl
same-from f g a (suc n) same = rw (same a (omega arith), same-from f g (a + 1) n (λ q above. same q (omega (arith, above)))) refl

none-from : (f : ℕ → Bool) (a n : ℕ) → ((q : ℕ) → f q ≡ false) → filter f (range_with_len a n) ≡ []
none-from f a zero none = refl
none-from f a (suc n) none = rw (none a) (none-from f (a + 1) n none)

pub none-past : (f : ℕ → Bool) (a n : ℕ) → ((q : ℕ) → a ≤ q → f q ≡ false) → filter f (range_with_len a n) ≡ []
none-past f a zero none = refl
none-past f a (suc n) none = rw (none a (omega arith)) (none-past f (a + 1) n (λ q from. none q (omega (arith, from))))

-- a number of the range that passes stands in the list
some-from : (f : ℕ → Bool) (k a n : ℕ) → f k ≡ true → a ≤ k → k < a + n → 0 < length (filter f (range_with_len a n))
some-from f k a zero passes low high = absurd (omega (arith, low, high))
some-from f k a (suc n) passes low high = ⊎_elim
    (λ (one : f a ≡ true). rw one (omega arith))
    (λ (other : f a ≡ false). rw other (⊎_elim
    (λ same. absurd (false≢true (sym other ∙ ap f same.1 ∙ passes)))
    (λ apart. let differ : a ≢ k = apart.1 in some-from f k (a + 1) n passes (omega (arith, low)) (omega (arith, high)))
    (eqb_tells a k)))
    (cases_Bool (f a))

-- the least number that passes stands first, and behind it what passes without it
least-from : (f after : ℕ → Bool) (k a n : ℕ) → f k ≡ true → ((q : ℕ) → f q ≡ true → k ≤ q) → ((q : ℕ) → after q ≡ (f q && not (q == k)))
    → a ≤ k → k < a + n → filter f (range_with_len a n) ≡ k ∷ filter after (range_with_len a n)
least-from f after k a zero passes least rest low high = absurd (omega (arith, low, high))
least-from f after k a (suc n) passes least rest low high = ⊎_elim
    (λ same.
    let here : a ≡ k = same.1 in
    let one : f a ≡ true = ap f here ∙ passes in
    let gone : after a ≡ false = rest a ∙ ap (λ b. f a && not b) same.0 ∙ rw one refl in
    let later : filter f (range_with_len (a + 1) n) ≡ filter after (range_with_len (a + 1) n) =
    same-from f after (a + 1) n (λ q above. sym (rest q ∙ ap (λ b. f q && not b) (above-other q (omega (arith, above, here))) ∙ and-true (f q))) in
    rw (one, gone, later) (ap (λ m. m ∷ filter after (range_with_len (a + 1) n)) here))
    (λ apart.
    let differ : a ≢ k = apart.1 in
    let none : f a ≡ false = ⊎_elim (λ (one : f a ≡ true). absurd (omega (arith, least a one, low, differ))) (λ (other : f a ≡ false). other) (cases_Bool (f a)) in
    let gone : after a ≡ false = rest a ∙ rw none refl in
    rw (none, gone) (least-from f after k (a + 1) n passes least rest (omega (arith, low, differ)) (omega (arith, high))))
    (eqb_tells a k)
  where
    above-other : (q : ℕ) → k < q → (q == k) ≡ false
    above-other q above = ⊎_elim (λ same. absurd (omega (arith, same.1, above))) (λ apart. apart.0) (eqb_tells q k)

    and-true : (b : Bool) → (b && true) ≡ b
    and-true true = refl
    and-true false = refl

-- Numbers of a set ------------------------------------------------------------------------------

-- a set whose numbers are those of another that pass a test has the other's numbers filtered
pub members-filter : (part whole : PositionSet) (test : ℕ → Bool) → ((q : ℕ) → has part q ≡ (has whole q && test q)) → members part ≡ filter test (members whole)
unfolding members
members-filter part whole test same = same-from (has part) (λ q. has whole q && test q) 0 64 (λ q from. same q) ∙ filter-and (has whole) test (range_with_len 0 64)
  where
    filter-and : (f g : ℕ → Bool) (qs : List ℕ) → filter (λ q. f q && g q) qs ≡ filter g (filter f qs)
    filter-and f g [] = refl
    filter-and f g (q ∷ qs) = ⊎_elim (λ (one : f q ≡ true). rw (one, filter-and f g qs) refl) (λ (other : f q ≡ false). rw (other, filter-and f g qs) refl) (cases_Bool (f q))

pub members-none : (set : PositionSet) → ((q : ℕ) → has set q ≡ false) → members set ≡ []
unfolding members
members-none set none = none-from (has set) 0 64 none

-- the least number stands first, and behind it the numbers of the set without it
pub members-first : (set rest : PositionSet) (k : ℕ) → k < 64 → has set k ≡ true → ((q : ℕ) → has set q ≡ true → k ≤ q)
    → ((q : ℕ) → has rest q ≡ (has set q && not (q == k))) → members set ≡ k ∷ members rest
unfolding members
members-first set rest k within in_set least without = least-from (has set) (has rest) k 0 64 in_set least without (omega arith) (omega (arith, within))

-- a set without a number in its list has no number
pub members-empty : (set : PositionSet) → set.0 < 2 ^ 64 → length (members set) ≡ 0 → (q : ℕ) → has set q ≡ false
unfolding members
members-empty set fits none q = ⊎_elim
    (λ (one : has set q ≡ true). ⊎_elim
    (λ (within : q < 64). let some : 0 < length (filter (has set) (range_with_len 0 64)) = some-from (has set) q 0 64 one (omega arith) (omega (arith, within)) in absurd (omega (arith, some, none)))
    (λ (past : 64 ≤ q). has-above set.0 q fits past)
    (lt-or-le q 64))
    (λ (other : has set q ≡ false). other)
    (cases_Bool (has set q))
