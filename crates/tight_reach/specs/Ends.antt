-- what an assignment shows of one end of the tight reach
use Rattle.std.specs.Prelude.{◌≡◌, ℕ, ℤ, pos, ◌+ℤ◌, ◌≤ℤ◌, List, IsTrue, false}
use Rattle.assignment.specs.Prices.{total}
use Rattle.hold_limits.specs.Problem.{Problem}
use Rattle.assignment_prices.specs.declared.end.End.{End}
use Rattle.assignment_prices.specs.Steps.{counted_from, BoundEnd}
use Rattle.assignment_prices.specs.TightReach.{IsWayFrom, moment_of_way}
use Rattle.tight_reach.specs.declared.ends.Reached.{Reached}

-- all prices together
abbrev pub sum_of : Reached → ℤ
sum_of r = total r.items.items +ℤ total r.places.items

-- prices for the end of what the prefix leaves; they are together what some way adds, or there is no way, and they lie far beyond all
-- that a way could add
pub record IsReached (end : End) (t : Problem) (prefix : List ℕ) (r : Reached) : Type 0 where
  pub bound : BoundEnd end t prefix r.items.items r.places.items
  pub way : IsTrue r.has_way → (way : List ℕ) × IsWayFrom t prefix way × (moment_of_way t prefix way ≡ sum_of r)
  pub none : r.has_way ≡ false → (way : List ℕ) → IsWayFrom t prefix way → ⊥
  pub beyond : r.has_way ≡ false → pos 500000000000 ≤ℤ counted_from end (sum_of r)
