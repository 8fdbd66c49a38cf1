-- the sides of ranks
use Rattle.std.proofs.Common.{◌≡◌, ℕ, ℤ, pos, negsuc, ◌≤ℤ◌, int_lt, cond, Bool, true, false, ◌&&◌, List, refl, sym, ◌∙◌, arith}
use Rattle.std.proofs.lemmas.Bool.{and_parts}
use Rattle.std.proofs.lemmas.Int.{ints}
use Rattle.hold_limits.specs.Layout.{Layout}
use Rattle.hold_limits.specs.Lateral.{side_at}
use Rattle.position_set.specs.declared.set.PositionSet.{PositionSet}
use Rattle.hold_partial.specs.declared.sides.Sides.{Sides}
use Rattle.hold_partial.specs.Arrangement.{Ranked}
use Rattle.position_set.specs.Sets.{has}
use Rattle.hold_partial.specs.Tables.{IsSides, AreApart, side_in}
use Rattle.hold_partial.proofs.RankLemmas.{rank-passes}

side-by : Bool → Bool → ℤ
side-by right left = cond right (pos 1) (cond left (negsuc 0) (pos 0))

side-low : (right left : Bool) → negsuc 0 ≤ℤ side-by right left
unfolding side-by
side-low true left = omega (arith, ints)
side-low false true = omega (arith, ints)
side-low false false = omega (arith, ints)

on-left : (sides : Sides) (r : ℕ) → AreApart sides → has sides.left r ≡ true → side_in sides r ≡ negsuc 0
on-left sides r apart left = rw (apart r left, left) refl

left-low : (sides : Sides) (r : ℕ) → negsuc 0 ≤ℤ side_in sides r
unfolding side-by
left-low sides r = side-low (has sides.right r) (has sides.left r)

-- a rank on the left has the least side
pub left-least : (sides : Sides) (places : PositionSet) (least : ℕ) → AreApart sides → (has places least && has sides.left least) ≡ true
    → (has places least ≡ true) × ((r : ℕ) → has places r ≡ true → side_in sides least ≤ℤ side_in sides r)
left-least sides places least apart both =
    let parts = and_parts (has places least) (has sides.left least) both in
    (parts.0, λ r is. rw (on-left sides least apart parts.1) (left-low sides r))

not-both : (side : ℤ) → int_lt side (pos 0) ≡ true → int_lt (pos 0) side ≡ false
not-both side below = grind (arith, ints)

-- no position is on both sides
pub sides-apart : (hold : Layout) (ranks : List Ranked) (sides : Sides) → IsSides hold ranks sides → AreApart sides
sides-apart hold ranks sides are r left =
    let found = rank-passes (λ q. int_lt (side_at hold q) (pos 0)) ranks r (sym (are.left r) ∙ left) in
    are.right r ∙ rw found.2 (not-both (side_at hold found.0.1) found.3)
