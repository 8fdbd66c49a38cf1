-- the three reaches as one question: on which positions the remaining containers may stand, and what they add there
use Rattle.std.specs.Prelude.{◌≡◌, ◌≢◌, ℕ, ◌≤◌, ℤ, unsigned_abs, Bool, List, [], Option, Some, None}
use Rattle.hold_parts.specs.declared.parts.Item.{Item}
use Rattle.hold_limits.specs.Layout.{Layout}
use Rattle.hold_limits.specs.Problem.{Problem}
use Rattle.hold_limits.specs.Placement.{Placed, placed_moment, hold_index, placed_lateral, lateral_difference}
use Rattle.hold_reach.specs.declared.extent.Extent.{Extent}
use Rattle.hold_reach.specs.declared.extent.Extent.TheVariants.{Reach, WideReach, LateralReach}
use Rattle.hold_reach.specs.declared.span.Span.{Span}
use Rattle.hold_reach.specs.Reach.{is_free, is_open, span_from, least, greatest}

abbrev pub may_stand : Extent → Problem → List ℕ → Item → ℕ → Bool
may_stand Reach t prefix item q = is_open t prefix item q
may_stand WideReach t prefix item q = is_free t prefix item q
may_stand LateralReach t prefix item q = is_free t prefix item q

abbrev pub amount_of : Extent → Layout → Placed → ℤ
amount_of Reach hold p = placed_moment hold p
amount_of WideReach hold p = placed_moment hold p
amount_of LateralReach hold p = placed_lateral hold p

abbrev pub so_far : Extent → Problem → List ℕ → ℤ
so_far Reach t prefix = hold_index t prefix
so_far WideReach t prefix = hold_index t prefix
so_far LateralReach t prefix = lateral_difference t prefix

-- the reach, the wide reach or the lateral reach
abbrev pub reached : Extent → Problem → List ℕ → Option (ℤ × ℤ)
reached e t prefix = span_from t prefix (may_stand e t prefix) (amount_of e t.hold) (so_far e t prefix)

-- both ends of the span are at most so large
abbrev pub IsBounded : ℕ → Span → Type 0
IsBounded most span = (unsigned_abs span.low ≤ most) × (unsigned_abs span.high ≤ most)

-- the span from the least to the greatest number of the list, and none where it is empty
abbrev pub IsSpanOfList : List ℤ → Option Span → Type 0
IsSpanOfList xs None = xs ≡ []
IsSpanOfList xs (Some e) = (xs ≢ []) × (e.low ≡ least xs) × (e.high ≡ greatest xs)
