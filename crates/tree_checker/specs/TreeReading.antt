-- what comes of the operations of a tree, which are read in their order
--
-- A tree refutes a choice: no regular placement among the choice has its hold index among the ticks. First the choice is
-- narrowed. Where a container then has no position left, nothing is written; else the next operation refutes what is left,
-- by itself or with the trees that follow it.
use Rattle.std.specs.Prelude.{◌<◌, int_lt, Bool, not, if◌then◌else◌, List, [], ◌∷◌, ◌++◌, length, IsTrue, IsSomeAnd, slice_get}
use Rattle.std.specs.Option.{option_map_or}
use Rattle.hold_limits.specs.Problem.{Problem}
use Rattle.position_set.specs.Sets.{has}
use Rattle.price_trees.specs.Prices.{Choice, Prices, value}
use Rattle.price_trees.specs.Narrowing.{Ticks, goal, HasEmpty, trimmed, cut}
use Rattle.price_trees.specs.Trees.{IsMissed}
use Rattle.tree_certificate.specs.declared.parts.Operation.{Operation}
use Rattle.tree_certificate.specs.declared.parts.Operation.TheVariants.{Leaf, Residue, Narrow, Split}
use Rattle.hold_choices.specs.Narrowed.{IsNarrowed}

-- Narrowed choices ------------------------------------------------------------------------------

-- narrowed, the choice is this one, and each container has a position left
pub record IsOpenAs (t : Problem) (choice left : Choice) : Type 0 where
  pub narrowed : IsNarrowed t choice left
  pub full : HasEmpty left → ⊥

abbrev pub IsOpen : Problem → Choice → Type 0
IsOpen t choice = (left : Choice) × IsOpenAs t choice left

-- narrowed, the choice has a container without a position
pub record IsClosed (t : Problem) (choice : Choice) : Type 0 where
  pub left : Choice
  pub narrowed : IsNarrowed t choice left
  pub empty : HasEmpty left

-- Operations ------------------------------------------------------------------------------------

-- whether the value of the prices is beyond the ticks
abbrev pub is_beyond : Problem → Ticks → Choice → Prices → Bool
is_beyond t ticks choice v = int_lt (goal ticks v.end) (value t choice v)

-- the operation holds: its price list exists, and the one of a leaf has a value beyond the ticks; or no tick leaves the remainder
abbrev pub Holds : Problem → Ticks → List Prices → Choice → Operation → Type 0
Holds t ticks prices choice (Leaf v) = IsSomeAnd (slice_get prices v) (λ listed. IsTrue (is_beyond t ticks choice listed))
Holds t ticks prices choice Residue = IsMissed t ticks choice
Holds t ticks prices choice (Narrow v) = v < length prices
Holds t ticks prices choice (Split i names) = Unit {0}

-- what prices leave to refute: nothing where their value is beyond the ticks, else the choice that they trim
abbrev pub left_by_prices : Problem → Ticks → Choice → Prices → List Choice
left_by_prices t ticks choice v = if is_beyond t ticks choice v then [] else trimmed t ticks v choice ∷ []

-- the choices that an operation leaves to refute
abbrev pub left_after : Problem → Ticks → List Prices → Choice → Operation → List Choice
left_after t ticks prices choice (Leaf v) = []
left_after t ticks prices choice Residue = []
left_after t ticks prices choice (Narrow v) = option_map_or (left_by_prices t ticks choice) (slice_get prices v) []
left_after t ticks prices choice (Split i names) = cut (has names) i choice ∷ cut (λ p. not (has names p)) i choice ∷ []

-- Trees -----------------------------------------------------------------------------------------

-- either all is refuted, and these operations are left; or the first of these does not hold, or is missing
pub data Outcome : Type 0 where
  Left : List Operation → Outcome
  Stopped : List Operation → Outcome

-- what comes of the operations as trees over these choices, one tree after another
pub data Reading (t : Problem) (ticks : Ticks) (prices : List Prices) : List Choice → List Operation → Outcome → Type 0 where
  Done : {operations : List Operation} → Reading t ticks prices [] operations (Left operations)
  -- the choice needs no operation
  Closed : {choice : Choice} {choices : List Choice} {operations : List Operation} {outcome : Outcome}
      → IsClosed t choice → Reading t ticks prices choices operations outcome
      → Reading t ticks prices (choice ∷ choices) operations outcome
  -- it needs one, and there is none
  Missing : {choice : Choice} {choices : List Choice} (left : Choice) → IsOpenAs t choice left
      → Reading t ticks prices (choice ∷ choices) [] (Stopped [])
  -- the next does not hold
  Wrong : {choice : Choice} {choices : List Choice} {operation : Operation} {operations : List Operation} (left : Choice)
      → IsOpenAs t choice left → (Holds t ticks prices left operation → ⊥)
      → Reading t ticks prices (choice ∷ choices) (operation ∷ operations) (Stopped (operation ∷ operations))
  -- it holds, and what it leaves is refuted by the following ones
  Right : {choice : Choice} {choices : List Choice} {operation : Operation} {operations : List Operation} {outcome : Outcome}
      (left : Choice) → IsOpenAs t choice left → Holds t ticks prices left operation
      → Reading t ticks prices (left_after t ticks prices left operation ++ choices) operations outcome
      → Reading t ticks prices (choice ∷ choices) (operation ∷ operations) outcome
