use Rattle.std.proofs.Common.{◌≡◌, ◌*◌, ◌≤◌, take, unsigned_abs}
use Rattle.base_words.specs.Lists.{int_sum_by}
use Rattle.hold_limits.specs.Arms.{arm_at, loose_by}
use Rattle.hold_limits.proofs.moments.moment_of.Given as goal

abbrev pub invariant-loop-load : goal.invariant-loop-load
invariant-loop-load l = record {
  value : l.moment ≡ int_sum_by (loose_by (arm_at l.arm l.hold)) (take l.load-index l.stowage);
  bounded : unsigned_abs l.moment ≤ 500000000000000 * l.load-index;
}
