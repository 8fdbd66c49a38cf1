use Rattle.std.proofs.Common.{◌≡◌, ℕ, suc}
use Rattle.price_trees.specs.Narrowing.{narrowed_once}
use Rattle.hold_choices.specs.Narrowed.{narrowed_times}
use Rattle.hold_choices.proofs.NarrowedLemmas.{size}
use Rattle.hold_choices.proofs.narrowing.narrowed.Given as goal

abbrev pub invariant-loop-after : goal.invariant-loop-after
invariant-loop-after l = record {
  passes : (again : ℕ) × (l.after ≡ narrowed_times (suc again) l.task l.fn.choice);
  last : l.after ≡ narrowed_once l.task l.before;
}

abbrev pub decreases-loop-after : goal.decreases-loop-after
decreases-loop-after l = size l.before
