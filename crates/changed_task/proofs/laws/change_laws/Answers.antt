use Rattle.std.proofs.Common.{refl}
use Rattle.changed_task.proofs.LawLemmas.{combined-leaves, cumulative-leaves, lateral-leaves, window-leaves, not-above-itself, combined-same, cumulative-same, lateral-same, exclude-leaves}
use Rattle.changed_task.proofs.laws.change_laws.Goals as goal

pub returns : goal.returns
returns c = record {
  combined_leaves = combined-leaves;
  cumulative_leaves = cumulative-leaves;
  lateral_leaves = lateral-leaves;
  low_leaves = λ t v w path below. window-leaves t v.0 t.high w.0 t.high path below (not-above-itself t.high);
  high_leaves = λ t v w path above. window-leaves t t.low v.0 t.low w.0 path (not-above-itself t.low) above;
  same_combined = combined-same;
  same_cumulative = cumulative-same;
  same_lateral = lateral-same;
  same_low = λ t. refl;
  same_high = λ t. refl;
  exclude = exclude-leaves;
}
