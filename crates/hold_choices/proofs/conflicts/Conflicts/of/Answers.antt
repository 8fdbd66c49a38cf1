use Rattle.std.proofs.Common.{◌≡◌, ◌<◌, ◌||◌, ◌==◌, ℕ, subst, slice_index_or}
use Rattle.hold_limits.specs.Enumeration.{exclude}
use Rattle.hold_limits.specs.Layout.{Layout}
use Rattle.position_set.specs.declared.set.PositionSet.{PositionSet}
use Rattle.position_set.specs.Sets.{has}
use Rattle.hold_choices.proofs.conflicts.Conflicts.of.Goals as goal

pub returns : goal.returns
returns c = record {
  taken = subst (λ (h : Layout). (q p : ℕ) (d : PositionSet) → q < 64 → p < 64 → has (slice_index_or c.taken_on_each.result q d) p ≡ ((q == p) || exclude h q p)) c.hold.ensures.value c.taken_on_each.ensures;
  up_to = c.up_to_each.ensures;
  classes = c.classes_of.ensures;
}
