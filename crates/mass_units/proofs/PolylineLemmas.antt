-- Lines between neighbouring points: how many they are, the place of the first fall, and that rising lines are a chain.
use Rattle.std.proofs.Common.{◌≡◌, ℕ, ◌<◌, ◌≤◌, inl, inr, List, [], ◌∷◌, length, get_or, refl, sym, ◌∙◌, arith, Option, Some, None, IfSome, IfNone, Bool, false, nat_le, position}
use Rattle.std.specs.List.{position_or_len}
use Rattle.std.proofs.lemmas.Bool.{cases_lt}
use Rattle.std.proofs.lemmas.Bool.Decides.{nat_tests}
use Rattle.std.proofs.lemmas.List.Sums.{fails_before_first}
use Rattle.std.proofs.lemmas.List.Quantifiers.{position-Some}
use Rattle.std.proofs.lemmas.List.Elements.{All-head, All-tail}
use Rattle.mass_units.specs.declared.line.Line.{Line}
use Rattle.mass_units.specs.declared.line.Point.{Point}
use Rattle.mass_units.specs.Polyline.{line_between, lines, IsRising}
use Rattle.mass_units.proofs.ChainLemmas.{IsChain}

pub length-lines : {A : Type 0} (point : A → Point) (points : List A) → length (lines point points) ≤ length points
length-lines point [] = omega arith
length-lines point (a ∷ []) = omega arith
length-lines point (a ∷ b ∷ rest) = omega (arith, length-lines point (b ∷ rest))

none_passes : {X : Type 0} (p : X → Bool) (xs : List X) → position p xs ≡ None → (k : ℕ) (d : X) → k < length xs → p (get_or xs k d) ≡ false
none_passes p xs e k d l =
    elim (cases_lt (position_or_len p xs) (length xs)) [
      | inl lt ↦ let some : position p xs ≡ Some (position_or_len p xs) = grind (arith, nat_tests) in let never : ◌≡◌ {A = Option ℕ} None (Some (position_or_len p xs)) = sym e ∙ some in cc
      | inr ge ↦ fails_before_first p xs k d (omega arith)
    ]

pub position-bound : {X : Type 0} (p : X → Bool) (xs : List X) (r : Option ℕ) (most : ℕ) → r ≡ position p xs → length xs ≤ most → IfSome r (λ at. at < most)
position-bound p xs None most e short = tt
position-bound p [] (Some at) most e short = let never : ◌≡◌ {A = Option ℕ} (Some at) None = e in cc
position-bound p (x ∷ xs) (Some at) most e short = omega (arith, (position-Some p (x ∷ xs) at x (sym e)).0)

not_above : (a b : ℕ) → nat_le b a ≡ false → a < b
not_above a b e = grind (arith, nat_tests)

pub IsRising-from_none : {A : Type 0} (point : A → Point) (points : List A) (r : Option ℕ) → r ≡ position (λ line. nat_le line.to.0 line.from.0) (lines point points) → IfNone r (IsRising point points)
IsRising-from_none point points (Some at) e = tt
IsRising-from_none point points None e = λ k d l.
    not_above _ _ (none_passes (λ (line : Line). nat_le line.to.0 line.from.0) (lines point points) (sym e) k d l)

pub rising_head : {A : Type 0} (point : A → Point) (a b : A) (rest : List A) → IsRising point (a ∷ b ∷ rest) → (point a).mass.0 < (point b).mass.0
rising_head point a b rest rising = All-head (λ line. line.from.0 < line.to.0) (line_between (point a) (point b)) (lines point (b ∷ rest)) rising

pub rising_tail : {A : Type 0} (point : A → Point) (a b : A) (rest : List A) → IsRising point (a ∷ b ∷ rest) → IsRising point (b ∷ rest)
rising_tail point a b rest rising = All-tail (λ line. line.from.0 < line.to.0) (line_between (point a) (point b)) (lines point (b ∷ rest)) rising

pub IsRising-chain : {A : Type 0} (point : A → Point) (points : List A) → IsRising point points → IsChain (lines point points)
IsRising-chain point [] rising = tt
IsRising-chain point (a ∷ []) rising = tt
IsRising-chain point (a ∷ b ∷ []) rising = rising_head point a b [] rising
IsRising-chain point (a ∷ b ∷ c ∷ rest) rising =
    (rising_head point a b (c ∷ rest) rising, (refl, (refl, IsRising-chain point (b ∷ c ∷ rest) (rising_tail point a b (c ∷ rest) rising))))
