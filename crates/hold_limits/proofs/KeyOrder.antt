-- keys are in one order, by distance and then by path, in which any two can be compared
use Rattle.std.proofs.Common.{◌≡◌, ◌⊎◌, ⊎_elim, inl, inr, ℕ, true, false, List, [], ◌∷◌, refl, ap, ap₂, arith, Ordering, Less, Equal, Greater, is_gt, nat_cmp}
use Rattle.std.proofs.lemmas.Bool.{cases_Bool, true≢false}
use Rattle.std.proofs.lemmas.Bool.Decides.{nat_tests}
use Rattle.std.proofs.lemmas.Cmp.{upto, tied_itself, nat_cmp_total, nat_list_cmp_total, on_total, then_total}
use Rattle.std.specs.Cmp.{IsTotalOrder}
use Rattle.std.specs.Cmp.Lexicographic.{slice_cmp}
use Rattle.std.specs.Ordering.{ordering_then, ordering_reverse}
use Rattle.hold_limits.specs.Placement.{Key, key_cmp, IsAtMost}

pub key_cmp_total : IsTotalOrder key_cmp
key_cmp_total = then_total (on_total (λ (k : Key). k.0) nat_cmp_total) (on_total (λ (k : Key). k.1) nat_list_cmp_total)

pub IsAtMost-refl : (a : Key) → IsAtMost a a
IsAtMost-refl a = ap is_gt (tied_itself key_cmp_total a)

pub IsAtMost-trans : (a b c : Key) → IsAtMost a b → IsAtMost b c → IsAtMost a c
IsAtMost-trans a b c ab bc = upto key_cmp_total a b c ab bc

-- Where the first is greater --------------------------------------------------------------------

turned_back : (o p : Ordering) → o ≡ ordering_reverse p → is_gt p ≡ true → is_gt o ≡ false
turned_back o Less turned greater = absurd (cc)
turned_back o Equal turned greater = ap is_gt turned
turned_back o Greater turned greater = ap is_gt turned

-- a key that is greater than another is not at most it: the other is at most the key
pub IsAtMost-from_greater : (a b : Key) → is_gt (key_cmp a b) ≡ true → IsAtMost b a
IsAtMost-from_greater a b greater = turned_back (key_cmp b a) (key_cmp a b) (key_cmp_total.antisymm b a) greater

pub IsAtMost-total : (a b : Key) → IsAtMost a b ⊎ IsAtMost b a
IsAtMost-total a b = ⊎_elim
    (λ (greater : is_gt (key_cmp a b) ≡ true). inr (IsAtMost-from_greater a b greater))
    (λ (not : is_gt (key_cmp a b) ≡ false). inl not)
    (cases_Bool (is_gt (key_cmp a b)))

-- Where each is at most the other ---------------------------------------------------------------

then_equal : (o p : Ordering) → ordering_then o p ≡ Equal → (o ≡ Equal) × (p ≡ Equal)
then_equal Less p is = absurd (cc)
then_equal Equal p is = (refl, is)
then_equal Greater p is = absurd (cc)

nat_cmp_equal : (m n : ℕ) → nat_cmp m n ≡ Equal → m ≡ n
nat_cmp_equal m n is = grind (arith, nat_tests)

-- lists that compare as equal are the same
pub slice_cmp_equal : (xs ys : List ℕ) → slice_cmp nat_cmp xs ys ≡ Equal → xs ≡ ys
slice_cmp_equal [] [] is = refl
slice_cmp_equal [] (y ∷ ys) is = absurd (cc)
slice_cmp_equal (x ∷ xs) [] is = absurd (cc)
slice_cmp_equal (x ∷ xs) (y ∷ ys) is =
    let parts = then_equal (nat_cmp x y) (slice_cmp nat_cmp xs ys) is in
    ap₂ (λ z zs. z ∷ zs) (nat_cmp_equal x y parts.0) (slice_cmp_equal xs ys parts.1)

-- keys that compare as equal are the same
pub key_cmp_equal : (a b : Key) → key_cmp a b ≡ Equal → a ≡ b
key_cmp_equal a b is =
    let parts = then_equal (nat_cmp a.0 b.0) (slice_cmp nat_cmp a.1 b.1) is in
    ap₂ (λ distance path. (distance, path)) (nat_cmp_equal a.0 b.0 parts.0) (slice_cmp_equal a.1 b.1 parts.1)

tied : (o p : Ordering) → o ≡ ordering_reverse p → is_gt o ≡ false → is_gt p ≡ false → o ≡ Equal
tied o Less turned first second = absurd (true≢false (rw turned at first))
tied o Equal turned first second = turned
tied o Greater turned first second = absurd (true≢false second)

pub IsAtMost-antisymm : (a b : Key) → IsAtMost a b → IsAtMost b a → a ≡ b
IsAtMost-antisymm a b ab ba = key_cmp_equal a b (tied (key_cmp a b) (key_cmp b a) (key_cmp_total.antisymm a b) ab ba)
