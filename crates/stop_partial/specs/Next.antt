-- where the next container of a prefix may stand, and what can be said of the wide reach with it there
use Rattle.std.specs.Prelude.{◌≡◌, ◌↔◌, ℕ, ℤ, ◌+ℤ◌, List, [], ◌∷◌, ◌++◌, length, Some, IsTrue, slice_get}
use Rattle.hold_parts.specs.declared.parts.Item.{Item}
use Rattle.hold_limits.specs.Problem.{Problem}
use Rattle.hold_limits.specs.BranchOrder.{ordered}
use Rattle.hold_limits.specs.Placement.{IsSound, placed_moment}
use Rattle.hold_reach.specs.declared.span.Span.{Span}
use Rattle.hold_reach.specs.Choices.{LiesIn}
use Rattle.hold_reach.specs.Extents.{IsBounded}
use Rattle.hold_reach.specs.Reach.{wide_reach}
use Rattle.position_set.specs.Sets.{has}
use Rattle.stop_partial.specs.declared.next.NextPositions.{NextPositions}

-- the container is the next one after the prefix in branch order
abbrev pub IsNext : Problem → List ℕ → Item → Type 0
IsNext t prefix item = slice_get (ordered t.items) (length prefix) ≡ Some item

-- the number is the moment of the next container on a position where it may stand
pub record IsNextMoment (t : Problem) (prefix : List ℕ) (moment : ℤ) : Type 0 where
  pub position : ℕ
  pub sound : IsSound t (prefix ++ position ∷ [])
  pub is : (item : Item) → IsNext t prefix item → moment ≡ placed_moment t.hold (item, position)

-- both ends of the span are such moments, and no larger than a lawful task's are
pub record AreNextMoments (t : Problem) (prefix : List ℕ) (span : Span) : Type 0 where
  pub low : IsNextMoment t prefix span.low
  pub high : IsNextMoment t prefix span.high
  pub bounded : IsBounded 2000000000 span

-- wherever the next container may stand, the wide reach lies in this span and its moment there
abbrev pub HoldsNext : Problem → List ℕ → Span → Type 0
HoldsNext t prefix others = (item : Item) (q : ℕ) (inner : ℤ × ℤ) → IsNext t prefix item → IsSound t (prefix ++ q ∷ []) → wide_reach t (prefix ++ q ∷ []) ≡ Some inner
    → LiesIn inner (others.low +ℤ placed_moment t.hold (item, q), others.high +ℤ placed_moment t.hold (item, q))

-- the numbers are exactly those with which the prefix is sound, and the span is such a one
pub record AreNext (t : Problem) (prefix : List ℕ) (next : NextPositions) : Type 0 where
  pub fits : (q : ℕ) → IsTrue (has next.fitting q) ↔ IsSound t (prefix ++ q ∷ [])
  pub holds : HoldsNext t prefix next.others
  pub bounded : IsBounded 1000000000000 next.others
