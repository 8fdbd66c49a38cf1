-- Lists of which the first elements are known.
use Rattle.std.proofs.Common.{◌≡◌, ℕ, ◌-◌, ◌≤◌, List, [], ◌∷◌, length, get_or, take, drop, refl, sym, ap, arith}
use Rattle.std.proofs.lemmas.List.{take_all}

-- exactly two
pub two-of : {X : Type 0} (xs : List X) (a b d0 d1 : X) → length xs ≡ 2 → a ≡ get_or xs 0 d0 → b ≡ get_or xs 1 d1 → xs ≡ a ∷ b ∷ []
two-of [] a b d0 d1 n p q = absurd (omega (arith, n))
two-of (x0 ∷ []) a b d0 d1 n p q = absurd (omega (arith, n))
two-of (x0 ∷ x1 ∷ []) a b d0 d1 n p q = rw (p, q) refl
two-of (x0 ∷ x1 ∷ x2 ∷ more) a b d0 d1 n p q = absurd (omega (arith, n))

-- exactly three
pub three-of : {X : Type 0} (xs : List X) (a b c d0 d1 d2 : X) → length xs ≡ 3 → a ≡ get_or xs 0 d0 → b ≡ get_or xs 1 d1 → c ≡ get_or xs 2 d2 → xs ≡ a ∷ b ∷ c ∷ []
three-of [] a b c d0 d1 d2 n p q r = absurd (omega (arith, n))
three-of (x0 ∷ []) a b c d0 d1 d2 n p q r = absurd (omega (arith, n))
three-of (x0 ∷ x1 ∷ []) a b c d0 d1 d2 n p q r = absurd (omega (arith, n))
three-of (x0 ∷ x1 ∷ x2 ∷ []) a b c d0 d1 d2 n p q r = rw (p, q, r) refl
three-of (x0 ∷ x1 ∷ x2 ∷ x3 ∷ more) a b c d0 d1 d2 n p q r = absurd (omega (arith, n))

-- exactly four
pub four-of : {X : Type 0} (xs : List X) (a b c d d0 d1 d2 d3 : X) → length xs ≡ 4 → a ≡ get_or xs 0 d0 → b ≡ get_or xs 1 d1 → c ≡ get_or xs 2 d2 → d ≡ get_or xs 3 d3 → xs ≡ a ∷ b ∷ c ∷ d ∷ []
four-of [] a b c d d0 d1 d2 d3 n p q r s = absurd (omega (arith, n))
four-of (x0 ∷ []) a b c d d0 d1 d2 d3 n p q r s = absurd (omega (arith, n))
four-of (x0 ∷ x1 ∷ []) a b c d d0 d1 d2 d3 n p q r s = absurd (omega (arith, n))
four-of (x0 ∷ x1 ∷ x2 ∷ []) a b c d d0 d1 d2 d3 n p q r s = absurd (omega (arith, n))
four-of (x0 ∷ x1 ∷ x2 ∷ x3 ∷ []) a b c d d0 d1 d2 d3 n p q r s = rw (p, q, r, s) refl
four-of (x0 ∷ x1 ∷ x2 ∷ x3 ∷ x4 ∷ more) a b c d d0 d1 d2 d3 n p q r s = absurd (omega (arith, n))

-- exactly six
pub six-of : {X : Type 0} (xs : List X) (a b c d e f d0 d1 d2 d3 d4 d5 : X) → length xs ≡ 6 → a ≡ get_or xs 0 d0 → b ≡ get_or xs 1 d1 → c ≡ get_or xs 2 d2 → d ≡ get_or xs 3 d3 → e ≡ get_or xs 4 d4 → f ≡ get_or xs 5 d5 → xs ≡ a ∷ b ∷ c ∷ d ∷ e ∷ f ∷ []
six-of [] a b c d e f d0 d1 d2 d3 d4 d5 n p q r s t u = absurd (omega (arith, n))
six-of (x0 ∷ []) a b c d e f d0 d1 d2 d3 d4 d5 n p q r s t u = absurd (omega (arith, n))
six-of (x0 ∷ x1 ∷ []) a b c d e f d0 d1 d2 d3 d4 d5 n p q r s t u = absurd (omega (arith, n))
six-of (x0 ∷ x1 ∷ x2 ∷ []) a b c d e f d0 d1 d2 d3 d4 d5 n p q r s t u = absurd (omega (arith, n))
six-of (x0 ∷ x1 ∷ x2 ∷ x3 ∷ []) a b c d e f d0 d1 d2 d3 d4 d5 n p q r s t u = absurd (omega (arith, n))
six-of (x0 ∷ x1 ∷ x2 ∷ x3 ∷ x4 ∷ []) a b c d e f d0 d1 d2 d3 d4 d5 n p q r s t u = absurd (omega (arith, n))
six-of (x0 ∷ x1 ∷ x2 ∷ x3 ∷ x4 ∷ x5 ∷ []) a b c d e f d0 d1 d2 d3 d4 d5 n p q r s t u = rw (p, q, r, s, t, u) refl
six-of (x0 ∷ x1 ∷ x2 ∷ x3 ∷ x4 ∷ x5 ∷ x6 ∷ more) a b c d e f d0 d1 d2 d3 d4 d5 n p q r s t u = absurd (omega (arith, n))

-- the first two and the others
pub two-up : {X : Type 0} (xs : List X) (a b d0 d1 : X) → 2 ≤ length xs → a ≡ get_or xs 0 d0 → b ≡ get_or xs 1 d1 → xs ≡ a ∷ b ∷ take (length xs - 2) (drop 2 xs)
two-up [] a b d0 d1 n p q = absurd (omega (arith, n))
two-up (x0 ∷ []) a b d0 d1 n p q = absurd (omega (arith, n))
two-up (x0 ∷ x1 ∷ more) a b d0 d1 n p q = rw (p, q) (ap (λ ys. x0 ∷ x1 ∷ ys) (sym (take_all (length (x0 ∷ x1 ∷ more) - 2) more (omega arith))))
