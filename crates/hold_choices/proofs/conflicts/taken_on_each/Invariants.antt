use Rattle.std.proofs.Common.{◌≡◌, ◌<◌, ◌&&◌, ◌||◌, ◌==◌, ℕ, take, slice_index_or}
use Rattle.std.specs.List.{list_any}
use Rattle.position_set.specs.declared.set.PositionSet.{PositionSet}
use Rattle.position_set.specs.Sets.{has}
use Rattle.hold_choices.proofs.conflicts.taken_on_each.Given as goal

abbrev pub invariant-loop-one : goal.invariant-loop-one
invariant-loop-one l = (q p : ℕ) (d : PositionSet) → q < 64
    → has (slice_index_or l.taken q d) p ≡ ((p == q) || list_any (λ (pair : ℕ × ℕ). ((pair.0 == q) && (pair.1 == p)) || ((pair.0 == p) && (pair.1 == q))) (take l.one-index l.one-items))
