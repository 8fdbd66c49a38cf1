-- trees of reasons why no placement among a choice has its hold index among some ticks, and what makes a path the best
use Rattle.std.specs.Prelude.{◌≡◌, ℕ, ◌<◌, ◌-◌, ℤ, pos, ◌-ℤ◌, ◌*ℤ◌, ◌<ℤ◌, Bool, not, List, [], ◌∷◌, ◌++◌, length, map, take, slice_index, All}
use Rattle.hold_limits.specs.Placement.{placed_moment, hold_index, distance, IsAdmissible}
use Rattle.hold_limits.specs.Problem.{Problem}
use Rattle.price_trees.specs.Prices.{Choice, Candidate, candidates, Prices, value, AreOf}
use Rattle.price_trees.specs.Narrowing.{Ticks, IsIn, ticks_within, goal, full, fixed, HasEmpty, narrowed_once, trimmed, cut}

-- Remainders ------------------------------------------------------------------------------------

pub record IsMultiple (divisor : ℕ) (z : ℤ) : Type 0 where
  pub times : ℤ
  pub is : z ≡ pos divisor *ℤ times

abbrev pub first : List ℕ → ℕ
first [] = 0
first (q ∷ set) = q

-- all hold indices of the choice leave one remainder, which no tick leaves
pub record IsMissed (t : Problem) (ticks : Ticks) (choice : Choice) : Type 0 where
  pub divisor : ℕ
  pub same : All (λ (c : Candidate). All (λ q. IsMultiple divisor (placed_moment t.hold (c.0, q) -ℤ placed_moment t.hold (c.0, first c.1))) c.1) (candidates t choice)
  pub none : (index : ℤ) → IsIn ticks index → IsMultiple divisor (index -ℤ hold_index t (map first choice)) → ⊥

-- Trees -----------------------------------------------------------------------------------------

-- no regular placement among the choice has its hold index among the ticks, by these rules alone
pub data Refuted (t : Problem) (ticks : Ticks) : Choice → Type 0 where
  -- there is no tick
  NoTick : {choice : Choice} → ticks.high <ℤ ticks.low → Refuted t ticks choice
  -- a container has no position left
  Empty : {choice : Choice} → HasEmpty choice → Refuted t ticks choice
  -- prices have a value beyond the ticks
  Leaf : {choice : Choice} (v : Prices) → AreOf t v → goal ticks v.end <ℤ value t choice v → Refuted t ticks choice
  -- no tick leaves the remainder of the hold indices
  Residue : {choice : Choice} → IsMissed t ticks choice → Refuted t ticks choice
  -- what is left is refuted, without the positions that another container does not leave
  Narrow : {choice : Choice} → Refuted t ticks (narrowed_once t choice) → Refuted t ticks choice
  -- .. without the positions on which prices would pass the ticks
  Trim : {choice : Choice} (v : Prices) → AreOf t v → Refuted t ticks (trimmed t ticks v choice) → Refuted t ticks choice
  -- both halves of the choice are refuted
  Split : {choice : Choice} (i : ℕ) (test : ℕ → Bool) → Refuted t ticks (cut test i choice) → Refuted t ticks (cut (λ p. not (test p)) i choice) → Refuted t ticks choice

-- an admissible path, with reasons why none is nearer to the ideal, and why none that is as near precedes it
pub record IsShownBest (t : Problem) (path : List ℕ) : Type 0 where
  pub admissible : IsAdmissible t path
  pub nearer : 0 < distance t path → Refuted t (ticks_within t (distance t path - 1)) (full t)
  pub siblings : (k p : ℕ) → k < length path → p < slice_index path k → Refuted t (ticks_within t (distance t path)) (fixed (take k path ++ p ∷ []) (full t))
