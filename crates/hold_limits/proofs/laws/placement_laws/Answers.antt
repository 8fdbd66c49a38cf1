use Rattle.std.proofs.Common.{ap}
use Rattle.hold_limits.specs.Placement.{Key, key}
use Rattle.hold_limits.proofs.BranchOrderLemmas.{branch_order-is}
use Rattle.hold_limits.proofs.OneOrder.{one_order}
use Rattle.hold_limits.proofs.KeyOrder.{key_cmp_total, IsAtMost-antisymm}
use Rattle.hold_limits.proofs.PlacedLemmas.{length-placed, placed-at}
use Rattle.hold_limits.proofs.SoundLemmas.{IsSound-front, IsSound-within}
use Rattle.hold_limits.proofs.EnumerationLemmas.{is_admissible-Decides, best_exists, best_by_trial-is}
use Rattle.hold_limits.proofs.laws.placement_laws.Goals as goal

pub returns : goal.returns
returns c = record {
  one_order = one_order;
  order_is = branch_order-is;
  one_each = length-placed;
  paired = placed-at;
  prefixes = IsSound-front;
  numbers = IsSound-within;
  keys = key_cmp_total;
  tested = is_admissible-Decides;
  one_best = λ t a b first second. ap (λ (k : Key). k.1) (IsAtMost-antisymm (key t a) (key t b) (first.least b second.admissible) (second.least a first.admissible));
  best_exists = best_exists;
  by_trial = best_by_trial-is;
}
