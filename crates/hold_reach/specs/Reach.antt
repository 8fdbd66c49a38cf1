-- what a prefix leaves open: positions for the remaining containers, how far the hold index and the lateral difference can still
-- reach with them, and how near the ideal the take-off index can still come
use Rattle.std.specs.Prelude.{◌≢◌, ℕ, ◌<◌, ℤ, pos, ◌+ℤ◌, ◌-ℤ◌, ◌≤ℤ◌, int_lt, unsigned_abs, Bool, not, ◌&&◌, nat_le, if◌then◌else◌, List, [], ◌∷◌, length, drop, map, All, IfSome, IsSomeAnd, Option, Some, None, option_map}
use Rattle.std.specs.List.{list_all, list_any, filter, fold, range_with_len}
use Rattle.std.specs.Int.{int_min, int_max}
use Rattle.base_words.specs.Lists.{int_sum_by}
use Rattle.hold_parts.specs.declared.parts.Item.{Item}
use Rattle.hold_parts.specs.declared.parts.Lateral.{Lateral}
use Rattle.hold_parts.specs.Twins.{AreTwins, are_twins}
use Rattle.hold_limits.specs.Layout.{Layout}
use Rattle.hold_limits.specs.Problem.{Problem}
use Rattle.hold_limits.specs.BranchOrder.{ordered}
use Rattle.hold_limits.specs.Placement.{Placed, IsAccepted, Exclude, placed, placed_moment, hold_index, placed_lateral, lateral_difference, IsSound}
use Rattle.hold_limits.specs.Twins.{IsRising}
use Rattle.hold_limits.specs.Enumeration.{is_accepted, exclude}
use Rattle.hold_reach.specs.Rules.{is_used}

-- the containers of branch order that the prefix leaves
abbrev pub remaining : Problem → List ℕ → List Item
remaining t prefix = drop (length prefix) (ordered t.items)

-- Free and open positions -----------------------------------------------------------------------

-- the position accepts the container, is unused, and is excluded by no used position
pub record IsFree (t : Problem) (prefix : List ℕ) (item : Item) (q : ℕ) : Type 0 where
  pub accepted : IsAccepted t.hold (item, q)
  pub unused : All (λ used. used ≢ q) prefix
  pub compatible : All (λ used. Exclude t.hold used q → ⊥) prefix

-- the position is free, and its number is greater than that of each placed twin of the container
pub record IsOpen (t : Problem) (prefix : List ℕ) (item : Item) (q : ℕ) : Type 0 where
  pub free : IsFree t prefix item q
  pub above_twins : All (λ (p : Placed). AreTwins p.0 item → p.1 < q) (placed t prefix)

-- the same as questions
abbrev pub is_free : Problem → List ℕ → Item → ℕ → Bool
is_free t prefix item q =
    is_accepted t.hold (item, q)
    && (not (is_used prefix q)
    && not (list_any (λ used. exclude t.hold used q) prefix))

-- a placed twin of the container has a number of at least this one
abbrev pub falls : Problem → List ℕ → Item → ℕ → Bool
falls t prefix item q = list_any (λ (p : Placed). are_twins p.0 item && nat_le q p.1) (placed t prefix)

abbrev pub is_open : Problem → List ℕ → Item → ℕ → Bool
is_open t prefix item q = is_free t prefix item q && not (falls t prefix item q)

-- Reach -----------------------------------------------------------------------------------------

-- the least and the greatest number of a list
abbrev pub least : List ℤ → ℤ
least [] = pos 0
least (x ∷ xs) = fold int_min x xs

abbrev pub greatest : List ℤ → ℤ
greatest [] = pos 0
greatest (x ∷ xs) = fold int_max x xs

-- what the container adds on each position where it may stand, from nose to tail
abbrev pub amounts : Problem → (Item → ℕ → Bool) → (Placed → ℤ) → Item → List ℤ
amounts t may amount item = map (λ q. amount (item, q)) (filter (may item) (range_with_len 0 (length t.hold.positions)))

abbrev pub has_position : Problem → (Item → ℕ → Bool) → Item → Bool
has_position t may item = list_any (may item) (range_with_len 0 (length t.hold.positions))

-- what there is so far, with the least that each remaining container adds on a position where it may stand, up to the same with the
-- greatest; none where a remaining container may stand nowhere
abbrev pub span_from : Problem → List ℕ → (Item → ℕ → Bool) → (Placed → ℤ) → ℤ → Option (ℤ × ℤ)
span_from t prefix may amount so_far =
    if list_all (has_position t may) (remaining t prefix)
    then Some (
      so_far +ℤ int_sum_by (λ item. least (amounts t may amount item)) (remaining t prefix),
      so_far +ℤ int_sum_by (λ item. greatest (amounts t may amount item)) (remaining t prefix),
    )
    else None

-- how far the hold index can still reach over open positions
abbrev pub reach : Problem → List ℕ → Option (ℤ × ℤ)
reach t prefix = span_from t prefix (is_open t prefix) (placed_moment t.hold) (hold_index t prefix)

-- the same over free positions
abbrev pub wide_reach : Problem → List ℕ → Option (ℤ × ℤ)
wide_reach t prefix = span_from t prefix (is_free t prefix) (placed_moment t.hold) (hold_index t prefix)

-- how far the lateral difference can still reach over free positions
abbrev pub lateral_reach : Problem → List ℕ → Option (ℤ × ℤ)
lateral_reach t prefix = span_from t prefix (is_free t prefix) (placed_lateral t.hold) (lateral_difference t prefix)

-- Viable ----------------------------------------------------------------------------------------

-- the ranges from a to b and from c to d have a number in common
pub record HaveCommonNumber (a b c d : ℤ) : Type 0 where
  pub number : ℤ
  pub from_a : a ≤ℤ number
  pub to_b : number ≤ℤ b
  pub from_c : c ≤ℤ number
  pub to_d : number ≤ℤ d

-- there is a span, and it has a number in common with the range from low to high
abbrev pub Meets : ℤ → ℤ → Option (ℤ × ℤ) → Type 0
Meets low high reached = IsSomeAnd reached (λ span. HaveCommonNumber span.0 span.1 low high)

-- where the hold has a lateral limit, there are lateral differences, and one of them is at most the limit either way
abbrev pub MeetsLateral : Layout → Option (ℤ × ℤ) → Type 0
MeetsLateral hold reached = IfSome hold.lateral (λ (limit : Lateral). Meets (pos 0 -ℤ pos limit.most.0) (pos limit.most.0) reached)

-- a sound and rising prefix from which the window and the lateral limit can be met
pub record IsViable (t : Problem) (prefix : List ℕ) : Type 0 where
  pub sound : IsSound t prefix
  pub rising : IsRising t prefix
  pub window : Meets t.low t.high (reach t prefix)
  pub lateral : MeetsLateral t.hold (lateral_reach t prefix)

-- Bound -----------------------------------------------------------------------------------------

-- how many ticks the ranges from a to b and from c to d lie apart; 0 where they meet
abbrev pub gap : ℤ → ℤ → ℤ → ℤ → ℕ
gap a b c d =
    if int_lt b c then unsigned_abs (c -ℤ b)
    else if int_lt d a then unsigned_abs (a -ℤ d)
    else 0

-- how far the take-off indices lie from the ideal band where the hold index goes over this span
abbrev pub gap_to_ideal : Problem → ℤ × ℤ → ℕ
gap_to_ideal t span = gap (t.base +ℤ span.0) (t.base +ℤ span.1) t.ideal_low t.ideal_high

-- how far the take-off indices in reach lie from the ideal band; none where there is no reach
abbrev pub bound : Problem → List ℕ → Option ℕ
bound t prefix = option_map (gap_to_ideal t) (reach t prefix)

-- the same for those in wide reach
abbrev pub wide_bound : Problem → List ℕ → Option ℕ
wide_bound t prefix = option_map (gap_to_ideal t) (wide_reach t prefix)
