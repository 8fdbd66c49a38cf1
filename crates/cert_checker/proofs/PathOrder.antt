-- beginnings of paths, and path order
use Rattle.std.proofs.Common.{refl, sym, subst, ◌∙◌, append_assoc, append-nil, below_more, Less, Equal, Greater, ◌+◌, ◌<◌, ◌≡◌, ◌⊎◌, inl, inr, ⊎_elim, ℕ, suc, ◌≤◌, false, List, [], ◌∷◌, ◌++◌, ap, ap₂, arith, Ordering, is_gt, nat_cmp}
use Rattle.std.proofs.lemmas.Bool.Decides.{nat_tests, eqb_tells}
use Rattle.std.proofs.lemmas.Cmp.{nat_cmp_total, nat_list_cmp_total, tied_itself}
use Rattle.std.proofs.lemmas.List.Elements.{All-nil, All-cons}
use Rattle.std.specs.List.{Contains}
use Rattle.std.specs.Ordering.{ordering_then}
use Rattle.std.specs.Cmp.Lexicographic.{slice_cmp}
use Rattle.base_words.specs.Lists.{Extends}
use Rattle.hold_limits.specs.Placement.{IsAtMost}
use Rattle.certificate.specs.Good.{IsBefore, IsUncut, AreInOrder}

-- Beginnings ------------------------------------------------------------------------------------

Extends-head : (x y : ℕ) (front whole : List ℕ) → Extends (x ∷ front) (y ∷ whole) → x ≡ y
Extends-head x y front whole extends = let is : y ∷ whole ≡ x ∷ (front ++ extends.0) = extends.1 in cc

Extends-tail : (x y : ℕ) (front whole : List ℕ) → Extends (x ∷ front) (y ∷ whole) → Extends front whole
Extends-tail x y front whole extends = (extends.0, let is : y ∷ whole ≡ x ∷ (front ++ extends.0) = extends.1 in cc)

-- a list begins with another, or does not
pub Extends-or_not : (front whole : List ℕ) → Extends front whole ⊎ (Extends front whole → ⊥)
Extends-or_not [] whole = inl (whole, refl)
Extends-or_not (x ∷ front) [] = inr (λ extends. absurd (let is : [] ≡ x ∷ (front ++ extends.0) = extends.1 in cc))
Extends-or_not (x ∷ front) (y ∷ whole) = ⊎_elim
    (λ same. ⊎_elim
    (λ extends. inl (extends.0, ap₂ (λ z zs. z ∷ zs) (cc) extends.1))
    (λ not. inr (λ longer. not (Extends-tail x y front whole longer)))
    (Extends-or_not front whole))
    (λ differ. inr (λ longer. differ.1 (Extends-head x y front whole longer)))
    (eqb_tells x y)

Contains-first : (x : List ℕ) (xs : List (List ℕ)) → Contains (x ∷ xs) x
Contains-first x xs = (0, omega arith, refl)

Contains-later : (x y : List ℕ) (xs : List (List ℕ)) → Contains xs y → Contains (x ∷ xs) y
Contains-later x y xs contains = (suc contains.0, omega (arith, contains.1), contains.2)

-- one of the cuts begins the prefix, or none does
pub cut-or_uncut : (cuts : List (List ℕ)) (p : List ℕ) → ((cut : List ℕ) × Contains cuts cut × Extends cut p) ⊎ IsUncut cuts p
cut-or_uncut [] p = inr (All-nil (λ (cut : List ℕ). Extends cut p → ⊥))
cut-or_uncut (cut ∷ cuts) p = ⊎_elim
    (λ extends. inl (cut, Contains-first cut cuts, extends))
    (λ not. ⊎_elim
    (λ found. inl (found.0, Contains-later cut found.0 cuts found.1, found.2))
    (λ uncut. inr (All-cons (λ (other : List ℕ). Extends other p → ⊥) cut cuts not uncut))
    (cut-or_uncut cuts p))
    (Extends-or_not cut p)

-- Keys ------------------------------------------------------------------------------------------

-- a list precedes its extensions
pub precedes-extension : (front rest : List ℕ) → is_gt (slice_cmp nat_cmp front (front ++ rest)) ≡ false
precedes-extension [] [] = refl
precedes-extension [] (q ∷ rest) = refl
precedes-extension (x ∷ front) rest = rw (tied_itself nat_cmp_total x) (precedes-extension front rest)

-- a bound that is at most a distance, with a front of the path
pub at_most-extension : (m n : ℕ) (front rest : List ℕ) → m ≤ n → IsAtMost (m, front) (n, front ++ rest)
at_most-extension m n front rest less = not_greater m n (slice_cmp nat_cmp front (front ++ rest)) less (precedes-extension front rest)
  where
    not_greater : (m n : ℕ) (o : Ordering) → m ≤ n → is_gt o ≡ false → is_gt (ordering_then (nat_cmp m n) o) ≡ false
    not_greater m n o less not = grind (arith, nat_tests)

-- Path order ------------------------------------------------------------------------------------

nat_cmp-less : (y x : ℕ) → nat_cmp y x ≡ Less → y < x
nat_cmp-less y x is = grind (arith, nat_tests)

nat_cmp-equal : (y x : ℕ) → nat_cmp y x ≡ Equal → y ≡ x
nat_cmp-equal y x is = grind (arith, nat_tests)

less-nat_cmp : (y x : ℕ) → y < x → nat_cmp y x ≡ Less
less-nat_cmp y x less = grind (arith, nat_tests)

then-less : (r o : Ordering) → ordering_then r o ≡ Less → (r ≡ Less) ⊎ ((r ≡ Equal) × (o ≡ Less))
then-less Less o is = inl refl
then-less Equal o is = inr (refl, is)
then-less Greater o is = absurd (cc)

-- a list with a first number comes before another with one where its first number is less, or is the same and its rest comes
-- before that of the other
first-cases : (y x : ℕ) (ys xs : List ℕ) → IsBefore (y ∷ ys) (x ∷ xs) → (y < x) ⊎ ((y ≡ x) × IsBefore ys xs)
first-cases y x ys xs before = ⊎_elim
    (λ less. inl (nat_cmp-less y x less))
    (λ same. inr (nat_cmp-equal y x same.0, same.1))
    (then-less (nat_cmp y x) (slice_cmp nat_cmp ys xs) before)

first-less : (y x : ℕ) (ys xs : List ℕ) → y < x → IsBefore (y ∷ ys) (x ∷ xs)
first-less y x ys xs less = rw (less-nat_cmp y x less) refl

first-same : (x : ℕ) (ys xs : List ℕ) → IsBefore ys xs → IsBefore (x ∷ ys) (x ∷ xs)
first-same x ys xs before = rw (tied_itself nat_cmp_total x) before

pub none-before_nil : (xs : List ℕ) → IsBefore xs [] → ⊥
none-before_nil [] before = cc
none-before_nil (x ∷ xs) before = cc

pub IsBefore-not_itself : (xs : List ℕ) → IsBefore xs xs → ⊥
IsBefore-not_itself xs before = let tied = tied_itself nat_list_cmp_total xs in cc

pub IsBefore-trans : (a b c : List ℕ) → IsBefore a b → IsBefore b c → IsBefore a c
IsBefore-trans a b c ab bc = nat_list_cmp_total.trans a b c ab bc

pub IsBefore-not_back : (a b : List ℕ) → IsBefore a b → IsBefore b a → ⊥
IsBefore-not_back a b ab ba = IsBefore-not_itself a (IsBefore-trans a b a ab ba)

-- a list comes before its longer extensions
pub before-extension : (front : List ℕ) (q : ℕ) (rest : List ℕ) → IsBefore front (front ++ q ∷ rest)
before-extension [] q rest = refl
before-extension (x ∷ front) q rest = first-same x front (front ++ q ∷ rest) (before-extension front q rest)

next-less : (front : List ℕ) (a b : ℕ) (xs ys : List ℕ) → a < b → IsBefore (front ++ a ∷ xs) (front ++ b ∷ ys)
next-less [] a b xs ys less = first-less a b xs ys less
next-less (x ∷ front) a b xs ys less = first-same x (front ++ a ∷ xs) (front ++ b ∷ ys) (next-less front a b xs ys less)

extension-is : (front p : List ℕ) (q : ℕ) → (extends : Extends (front ++ q ∷ []) p) → p ≡ front ++ q ∷ extends.0
extension-is front p q extends = extends.1 ∙ append_assoc front (q ∷ []) extends.0

-- of two lists that go on after the same front the one with the lower next number comes first
pub before-next : (front x y : List ℕ) (a b : ℕ) → Extends (front ++ a ∷ []) x → Extends (front ++ b ∷ []) y → a < b → IsBefore x y
before-next front x y a b first second less =
    subst (λ z. IsBefore z y) (sym (extension-is front x a first))
    (subst (λ z. IsBefore (front ++ a ∷ first.0) z) (sym (extension-is front y b second)) (next-less front a b first.0 second.0 less))

-- a list comes before those that go on after it
pub before-longer : (front p : List ℕ) (q : ℕ) → Extends (front ++ q ∷ []) p → IsBefore front p
before-longer front p q extends = subst (IsBefore front) (sym (extension-is front p q extends)) (before-extension front q extends.0)

-- no list comes before one that it extends
pub extension-not_before : (front p : List ℕ) → Extends front p → IsBefore p front → ⊥
extension-not_before front p extends before = none extends.0 extends.1
  where
    none : (rest : List ℕ) → p ≡ front ++ rest → ⊥
    none [] is = IsBefore-not_itself front (subst (λ z. IsBefore z front) (is ∙ append-nil front) before)
    none (q ∷ rest) is = IsBefore-not_back front p (subst (IsBefore front) (sym is) (before-extension front q rest)) before

Extends-first : (x : ℕ) (front whole : List ℕ) → Extends front whole → Extends (x ∷ front) (x ∷ whole)
Extends-first x front whole extends = (extends.0, ap (λ zs. x ∷ zs) extends.1)

-- what begins a front with one more number is it, or begins the front
pub Extends-push_cases : (c front : List ℕ) (q : ℕ) → Extends c (front ++ q ∷ []) → (c ≡ front ++ q ∷ []) ⊎ Extends c front
Extends-push_cases [] front q extends = inr (front, refl)
Extends-push_cases (x ∷ c) [] q extends = inl (ap₂ (λ z zs. z ∷ zs) (Extends-head x q c [] extends) (nothing c (Extends-tail x q c [] extends)))
  where
    nothing : (xs : List ℕ) → Extends xs [] → xs ≡ []
    nothing [] none = refl
    nothing (z ∷ zs) none = absurd (let is : [] ≡ z ∷ (zs ++ none.0) = none.1 in cc)
Extends-push_cases (x ∷ c) (y ∷ front) q extends =
    let head = Extends-head x y c (front ++ q ∷ []) extends in
    ⊎_elim
    (λ same. inl (ap₂ (λ z zs. z ∷ zs) head same))
    (λ shorter. inr (subst (λ z. Extends (z ∷ c) (y ∷ front)) (sym head) (Extends-first y c front shorter)))
    (Extends-push_cases c front q (Extends-tail x y c (front ++ q ∷ []) extends))

-- what comes before a front with one more number comes before the front, or begins with it
pub before_longer-cases : (front c : List ℕ) (q : ℕ) → IsBefore c (front ++ q ∷ []) → IsBefore c front ⊎ Extends front c
before_longer-cases [] c q before = inr (c, refl)
before_longer-cases (x ∷ front) [] q before = inl refl
before_longer-cases (x ∷ front) (y ∷ c) q before = ⊎_elim
    (λ less. inl (first-less y x c front less))
    (λ same. ⊎_elim
    (λ earlier. inl (subst (λ z. IsBefore (z ∷ c) (x ∷ front)) (sym same.0) (first-same x c front earlier)))
    (λ extends. inr (subst (λ z. Extends (x ∷ front) (z ∷ c)) (sym same.0) (Extends-first x front c extends)))
    (before_longer-cases front c q same.1))
    (first-cases y x c (front ++ q ∷ []) before)

-- what comes before a front with a number one greater comes before the front with the number, or begins with that
pub before_next-cases : (front c : List ℕ) (q : ℕ) → IsBefore c (front ++ (q + 1) ∷ []) → IsBefore c (front ++ q ∷ []) ⊎ Extends (front ++ q ∷ []) c
before_next-cases [] [] q before = inl refl
before_next-cases [] (y ∷ c) q before = ⊎_elim
    (λ less. below_more (λ z. IsBefore (z ∷ c) (q ∷ []) ⊎ Extends (q ∷ []) (z ∷ c)) q
    (λ z below. inl (first-less z q c [] below))
    (inr (c, refl))
    y less)
    (λ same. absurd (none-before_nil c same.1))
    (first-cases y (q + 1) c [] before)
before_next-cases (x ∷ front) [] q before = inl refl
before_next-cases (x ∷ front) (y ∷ c) q before = ⊎_elim
    (λ less. inl (first-less y x c (front ++ q ∷ []) less))
    (λ same. ⊎_elim
    (λ earlier. inl (subst (λ z. IsBefore (z ∷ c) (x ∷ (front ++ q ∷ []))) (sym same.0) (first-same x c (front ++ q ∷ []) earlier)))
    (λ extends. inr (subst (λ z. Extends (x ∷ (front ++ q ∷ [])) (z ∷ c)) (sym same.0) (Extends-first x (front ++ q ∷ []) c extends)))
    (before_next-cases front c q same.1))
    (first-cases y x c (front ++ (q + 1) ∷ []) before)

-- what comes before a front with the number 0 comes before the front, or is it
pub before_zero-cases : (front c : List ℕ) → IsBefore c (front ++ 0 ∷ []) → IsBefore c front ⊎ (c ≡ front)
before_zero-cases [] [] before = inr refl
before_zero-cases [] (y ∷ c) before = ⊎_elim
    (λ less. absurd (omega (arith, less)))
    (λ same. absurd (none-before_nil c same.1))
    (first-cases y 0 c [] before)
before_zero-cases (x ∷ front) [] before = inl refl
before_zero-cases (x ∷ front) (y ∷ c) before = ⊎_elim
    (λ less. inl (first-less y x c front less))
    (λ same. ⊎_elim
    (λ earlier. inl (subst (λ z. IsBefore (z ∷ c) (x ∷ front)) (sym same.0) (first-same x c front earlier)))
    (λ is. inr (ap₂ (λ z zs. z ∷ zs) same.0 is))
    (before_zero-cases front c same.1))
    (first-cases y x c (front ++ 0 ∷ []) before)

-- what lies between a list and one of its extensions extends it too
between : (a b rest : List ℕ) → IsBefore a b → IsBefore b (a ++ rest) → Extends a b
between [] b rest ab bc = (b, refl)
between (x ∷ a) [] rest ab bc = absurd (none-before_nil (x ∷ a) ab)
between (x ∷ a) (y ∷ b) rest ab bc = ⊎_elim
    (λ first. ⊎_elim
    (λ second. absurd (omega (arith, first, second)))
    (λ second. absurd (omega (arith, first, second.0)))
    (first-cases y x b (a ++ rest) bc))
    (λ first. ⊎_elim
    (λ second. absurd (omega (arith, first.0, second)))
    (λ second. subst (λ z. Extends (x ∷ a) (z ∷ b)) first.0 (Extends-first x a b (between a b rest first.1 second.1)))
    (first-cases y x b (a ++ rest) bc))
    (first-cases x y a b ab)

-- Cuts in order ---------------------------------------------------------------------------------

pub AreInOrder-trans : (a b c : List ℕ) → AreInOrder a b → AreInOrder b c → AreInOrder a c
AreInOrder-trans a b c ab bc = record {
  before = IsBefore-trans a b c ab.before bc.before;
  apart = λ extends. ab.apart (between a b extends.0 ab.before (subst (IsBefore b) extends.1 bc.before));
}
