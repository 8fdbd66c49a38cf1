-- what the reaches of a prefix and its bounds mean: which sums the containers that are left can still give
use Rattle.std.specs.Prelude.{◌≡◌, ℕ, ◌≤◌, ℤ, ◌+ℤ◌, ◌≤ℤ◌, List, length, zip, All, Option, MatchOption}
use Rattle.base_words.specs.Lists.{int_sum_by}
use Rattle.hold_parts.specs.declared.parts.Item.{Item}
use Rattle.hold_limits.specs.Problem.{Problem}
use Rattle.hold_limits.specs.Placement.{Placed, placed_moment, hold_index, placed_lateral, lateral_difference, distance_to}
use Rattle.hold_reach.specs.Reach.{remaining, IsFree, IsOpen}

-- a position for each container that the prefix leaves, on which it may stand; two of them may be the same
pub record IsChoice (t : Problem) (prefix : List ℕ) (May : Item → ℕ → Type 0) (choice : List ℕ) : Type 0 where
  pub one_each : length choice ≡ length (remaining t prefix)
  pub each : All (λ (p : Placed). May p.0 p.1) (zip (remaining t prefix) choice)

-- what there is so far and what the remaining containers add on such positions can be this sum
abbrev pub Gives : Problem → List ℕ → (Item → ℕ → Type 0) → (Placed → ℤ) → ℤ → ℤ → Type 0
Gives t prefix May amount so_far sum =
    (choice : List ℕ) × IsChoice t prefix May choice × (sum ≡ so_far +ℤ int_sum_by amount (zip (remaining t prefix) choice))

-- the remaining containers can give this hold index on open positions
abbrev pub Allows : Problem → List ℕ → ℤ → Type 0
Allows t prefix = Gives t prefix (IsOpen t prefix) (placed_moment t.hold) (hold_index t prefix)

-- the same on free positions
abbrev pub AllowsWidely : Problem → List ℕ → ℤ → Type 0
AllowsWidely t prefix = Gives t prefix (IsFree t prefix) (placed_moment t.hold) (hold_index t prefix)

-- the remaining containers can give this lateral difference on free positions
abbrev pub AllowsLaterally : Problem → List ℕ → ℤ → Type 0
AllowsLaterally t prefix = Gives t prefix (IsFree t prefix) (placed_lateral t.hold) (lateral_difference t prefix)

-- the number is in the span, whose ends belong to it
abbrev pub IsWithin : ℤ × ℤ → ℤ → Type 0
IsWithin span x = (span.0 ≤ℤ x) × (x ≤ℤ span.1)

-- one span lies in the other
abbrev pub LiesIn : ℤ × ℤ → ℤ × ℤ → Type 0
LiesIn inner outer = (outer.0 ≤ℤ inner.0) × (inner.1 ≤ℤ outer.1)

-- the span goes from the least to the greatest number that is allowed
pub record IsSpanOf (Allowed : ℤ → Type 0) (span : ℤ × ℤ) : Type 0 where
  pub least : Allowed span.0
  pub greatest : Allowed span.1
  pub between : (x : ℤ) → Allowed x → IsWithin span x

-- there is such a span, or nothing is allowed
abbrev pub Spans : Option (ℤ × ℤ) → (ℤ → Type 0) → Type 0
Spans reached Allowed = MatchOption reached ((x : ℤ) → Allowed x → ⊥) (IsSpanOf Allowed)

-- the ticks from the ideal band to the take-off index with this hold index
abbrev pub distance_at : Problem → ℤ → ℕ
distance_at t index = distance_to t.ideal_low t.ideal_high (t.base +ℤ index)

-- the distance of the hold index in the span that comes nearest to the ideal
pub record IsNearest (t : Problem) (span : ℤ × ℤ) (n : ℕ) : Type 0 where
  pub index : ℤ
  pub inside : IsWithin span index
  pub is : distance_at t index ≡ n
  pub least : (other : ℤ) → IsWithin span other → n ≤ distance_at t other
