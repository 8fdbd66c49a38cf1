-- the numbers of a set stand in its list from the least to the greatest, and the list says which set it is
use Rattle.std.proofs.Common.{◌≡◌, ⊎_elim, ℕ, zero, suc, ◌+◌, ◌^◌, ◌<◌, ◌≤◌, ◌≢◌, Bool, true, false, ◌||◌, ◌==◌, refl, ap, sym, ◌∙◌, arith, List, [], ◌∷◌, ◌++◌}
use Rattle.std.proofs.lemmas.Bool.{cases_Bool, false≢true}
use Rattle.std.proofs.lemmas.Bool.Decides.{nat_tests, eqb_tells}
use Rattle.std.proofs.lemmas.Nat.Bits.{bit_at-lt, same_from_bits_below}
use Rattle.std.specs.Int.{bit_at}
use Rattle.std.specs.List.{filter, list_any, range_with_len}
use Rattle.position_set.specs.declared.set.PositionSet.{PositionSet}
use Rattle.position_set.specs.Sets.{has, members}
use Rattle.position_set.proofs.MemberLemmas.{none-past}

-- the number stands in the list
abbrev pub stands_in : List ℕ → ℕ → Bool
stands_in qs p = list_any (λ q. q == p) qs

unlike : (a p : ℕ) → a ≢ p → (a == p) ≡ false
unlike a p differ = ⊎_elim (λ same. absurd (differ same.1)) (λ other. other.0) (eqb_tells a p)

alike : (a p : ℕ) → a ≡ p → (a == p) ≡ true
alike a p is = ⊎_elim (λ same. same.0) (λ other. absurd (other.1 is)) (eqb_tells a p)

-- Ranges ----------------------------------------------------------------------------------------

stands-from : (f : ℕ → Bool) (p a n : ℕ) → f p ≡ true → a ≤ p → p < a + n → stands_in (filter f (range_with_len a n)) p ≡ true
stands-from f p a zero passes low high = absurd (omega (arith, low, high))
stands-from f p a (suc n) passes low high = ⊎_elim
    (λ same. rw (ap f same.1 ∙ passes, same.0) refl)
    (λ apart.
    let later : stands_in (filter f (range_with_len (a + 1) n)) p ≡ true = stands-from f p (a + 1) n passes (let differ : a ≢ p = apart.1 in omega (arith, low, differ)) (omega (arith, high)) in
    ⊎_elim (λ (one : f a ≡ true). rw (one, apart.0) later) (λ (other : f a ≡ false). rw other later) (cases_Bool (f a)))
    (eqb_tells a p)

passes-from : (f : ℕ → Bool) (p a n : ℕ) → stands_in (filter f (range_with_len a n)) p ≡ true → f p ≡ true
passes-from f p a zero stands = absurd (false≢true stands)
passes-from f p a (suc n) stands = ⊎_elim
    (λ (one : f a ≡ true). ⊎_elim (λ same. ap f (sym same.1) ∙ one) (λ apart. passes-from f p (a + 1) n (rw (one, apart.0) at stands)) (eqb_tells a p))
    (λ (other : f a ≡ false). passes-from f p (a + 1) n (rw other at stands))
    (cases_Bool (f a))

-- what stands in the list of a range is not below the range
above-from : (f : ℕ → Bool) (a n : ℕ) (front more : List ℕ) (q : ℕ) → filter f (range_with_len a n) ≡ front ++ q ∷ more → a ≤ q
above-from f a zero [] more q is = absurd (cc)
above-from f a zero (x ∷ front) more q is = absurd (cc)
above-from f a (suc n) [] more q is = ⊎_elim
    (λ (one : f a ≡ true). let here : a ∷ filter f (range_with_len (a + 1) n) ≡ q ∷ more = rw one at is in let same : a ≡ q = cc in omega (arith, same))
    (λ (other : f a ≡ false). let later = above-from f (a + 1) n [] more q (rw other at is) in omega (arith, later))
    (cases_Bool (f a))
above-from f a (suc n) (x ∷ front) more q is = ⊎_elim
    (λ (one : f a ≡ true).
    let here : a ∷ filter f (range_with_len (a + 1) n) ≡ x ∷ (front ++ q ∷ more) = rw one at is in
    let rest : filter f (range_with_len (a + 1) n) ≡ front ++ q ∷ more = cc in
    let later = above-from f (a + 1) n front more q rest in omega (arith, later))
    (λ (other : f a ≡ false). let later = above-from f (a + 1) n (x ∷ front) more q (rw other at is) in omega (arith, later))
    (cases_Bool (f a))

-- what stands before another is less
ordered-from : (f : ℕ → Bool) (a n : ℕ) (front more : List ℕ) (q p : ℕ) → filter f (range_with_len a n) ≡ front ++ q ∷ more → stands_in front p ≡ true → p < q
ordered-from f a n [] more q p is stands = absurd (false≢true stands)
ordered-from f a zero (x ∷ front) more q p is stands = absurd (cc)
ordered-from f a (suc n) (x ∷ front) more q p is stands = ⊎_elim
    (λ (one : f a ≡ true).
    let here : a ∷ filter f (range_with_len (a + 1) n) ≡ x ∷ (front ++ q ∷ more) = rw one at is in
    let first : a ≡ x = cc in
    let rest : filter f (range_with_len (a + 1) n) ≡ front ++ q ∷ more = cc in
    ⊎_elim
    (λ same. let low = above-from f (a + 1) n front more q rest in let same_x : x ≡ p = same.1 in omega (arith, low, first, same_x))
    (λ apart. ordered-from f (a + 1) n front more q p rest (rw apart.0 at stands))
    (eqb_tells x p))
    (λ (other : f a ≡ false). ordered-from f (a + 1) n (x ∷ front) more q p (rw other at is) stands)
    (cases_Bool (f a))

-- one more number above all others stands last
pushed-from : (f g : ℕ → Bool) (k a n : ℕ) → ((q : ℕ) → g q ≡ (f q || (q == k))) → ((q : ℕ) → f q ≡ true → q < k) → a ≤ k → k < a + n
    → filter g (range_with_len a n) ≡ filter f (range_with_len a n) ++ k ∷ []
pushed-from f g k a zero is above low high = absurd (omega (arith, low, high))
pushed-from f g k a (suc n) is above low high = ⊎_elim
    (λ same.
    let here : a ≡ k = same.1 in
    let gone : f a ≡ false = past a (omega (arith, here)) in
    let one : g a ≡ true = with_one a (alike a k here) in
    let none : filter f (range_with_len (a + 1) n) ≡ [] = none-past f (a + 1) n (λ q from. past q (omega (arith, here, from))) in
    let later : filter g (range_with_len (a + 1) n) ≡ [] = none-past g (a + 1) n (λ q from. as_before q (unlike q k (λ e. absurd (omega (arith, e, here, from)))) ∙ past q (omega (arith, here, from))) in
    rw (gone, one, none, later) (ap (λ m. m ∷ []) here))
    (λ apart.
    let differ : a ≢ k = apart.1 in
    let later = pushed-from f g k (a + 1) n is above (omega (arith, low, differ)) (omega (arith, high)) in
    ⊎_elim
    (λ (one : f a ≡ true). rw (as_before a apart.0 ∙ one, one, later) refl)
    (λ (other : f a ≡ false). rw (as_before a apart.0 ∙ other, other, later) refl)
    (cases_Bool (f a)))
    (eqb_tells a k)
  where
    as_before : (q : ℕ) → (q == k) ≡ false → g q ≡ f q
    as_before q other = is q ∙ ap (λ b. f q || b) other ∙ or-false (f q)
      where
        or-false : (b : Bool) → (b || false) ≡ b
        or-false true = refl
        or-false false = refl

    with_one : (q : ℕ) → (q == k) ≡ true → g q ≡ true
    with_one q same = is q ∙ ap (λ b. f q || b) same ∙ or-true (f q)
      where
        or-true : (b : Bool) → (b || true) ≡ true
        or-true true = refl
        or-true false = refl

    past : (q : ℕ) → k ≤ q → f q ≡ false
    past q from = ⊎_elim (λ (one : f q ≡ true). absurd (omega (arith, above q one, from))) (λ (other : f q ≡ false). other) (cases_Bool (f q))

-- Sets ------------------------------------------------------------------------------------------

pub stands-has : (set : PositionSet) (p : ℕ) → p < 64 → has set p ≡ true → stands_in (members set) p ≡ true
unfolding members
stands-has set p within one = stands-from (has set) p 0 64 one (omega arith) (omega (arith, within))

pub has-stands : (set : PositionSet) (p : ℕ) → stands_in (members set) p ≡ true → has set p ≡ true
unfolding members
has-stands set p stands = passes-from (has set) p 0 64 stands

-- a number before another one in the list is less
pub members-ordered : (set : PositionSet) (front more : List ℕ) (q p : ℕ) → members set ≡ front ++ q ∷ more → stands_in front p ≡ true → p < q
unfolding members
members-ordered set front more q p is stands = ordered-from (has set) 0 64 front more q p is stands

-- a set with one number more, above all others
pub members-push : (set more : PositionSet) (k : ℕ) → k < 64 → ((q : ℕ) → has set q ≡ true → q < k) → ((q : ℕ) → has more q ≡ (has set q || (q == k)))
    → members more ≡ members set ++ k ∷ []
unfolding members
members-push set more k within above with_it = pushed-from (has set) (has more) k 0 64 with_it above (omega arith) (omega (arith, within))

-- sets of the same numbers are one
pub members-same : (a b : PositionSet) → a.0 < 2 ^ 64 → b.0 < 2 ^ 64 → members a ≡ members b → a ≡ b
unfolding has
members-same a b few few' is = let same : a.0 ≡ b.0 = same_from_bits_below 64 a.0 b.0 few few' bits in λ i. record { 0 = same i }
  where
    passes : (x y : PositionSet) → members x ≡ members y → (q : ℕ) → q < 64 → has x q ≡ true → has y q ≡ true
    passes x y e q within one = has-stands y q (ap (λ qs. stands_in qs q) (sym e) ∙ stands-has x q within one)

    tests : (q : ℕ) → q < 64 → has a q ≡ has b q
    tests q within = ⊎_elim
        (λ (one : has a q ≡ true). one ∙ sym (passes a b is q within one))
        (λ (other : has a q ≡ false). ⊎_elim
        (λ (one : has b q ≡ true). absurd (false≢true (sym other ∙ passes b a (sym is) q within one)))
        (λ (none : has b q ≡ false). other ∙ sym none)
        (cases_Bool (has b q)))
        (cases_Bool (has a q))

    bit : (x y : ℕ) → x < 2 → y < 2 → (x == 1) ≡ (y == 1) → x ≡ y
    bit x y few few' same = grind (arith, nat_tests)

    bits : (q : ℕ) → q < 64 → bit_at a.0 q ≡ bit_at b.0 q
    bits q within = bit (bit_at a.0 q) (bit_at b.0 q) (bit_at-lt a.0 q) (bit_at-lt b.0 q) (tests q within)
