use Rattle.std.proofs.Common.{◌≡◌, w64, to_z, of_z, ap, ◌∙◌, arith, unsigned_abs}
use Rattle.std.proofs.lemmas.Int.{ints, to_z-of_z}
use Rattle.hold_limits.specs.Arms.{arm_at, loose_by, moment_by}
use Rattle.hold_limits.proofs.MomentLemmas.{moment_by-bound}
use Rattle.hold_limits.proofs.StowageLemmas.{moment-stowed}
use Rattle.hold_limits.proofs.moments.moment_in.Goals as goal

-- the sum fits into its type, and is that of the containers and the loose loads
value : (c : goal.After-moment_of) → to_z w64 (of_z w64 c.moment_of.result) ≡ moment_by (arm_at c.args.arm c.args.task.now.hold) c.args.task.now c.args.prefix.now
value c =
    let is = rw (c.hold.ensures.value, c.as_slice.ensures.value, c.stowage_in-stowage.ensures.stowed) at c.moment_of.ensures.value in
    to_z-of_z w64 c.moment_of.result (omega (arith, ints, c.moment_of.ensures.bounded)) ∙ is ∙ moment-stowed (loose_by (arm_at c.args.arm c.args.task.now.hold)) c.args.task.now c.args.prefix.now

pub moment_of-requires-clause-lawful : goal.moment_of-requires-clause-lawful
moment_of-requires-clause-lawful c = rw c.hold.ensures.value c.hold.ensures.lawful.hold

pub returns-clause-value : goal.returns-clause-value
returns-clause-value c = value c

pub returns-clause-bounded : goal.returns-clause-bounded
returns-clause-bounded c =
    let bound = moment_by-bound c.args.arm c.args.task.now c.hold.ensures.lawful c.args.prefix.now c.requires in
    omega (arith, ap unsigned_abs (value c), bound)
