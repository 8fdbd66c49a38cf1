use Rattle.std.proofs.Common.{arith, get_or}
use Rattle.hold_partial.proofs.LimitLemmas.{added-within}
use Rattle.hold_partial.proofs.loads.add_load.Goals as goal

pub overflow_add-loads : goal.overflow_add-loads
overflow_add-loads c =
    let limits = c.args.limits.now in
    let i = c.loop-place.place-index in
    let k = get_or limits i 0 in
    omega (arith, c.loop-place.invariant k, c.requires.fits i 0 c.loop-place-test.true, added-within c.args.mass.0 limits i c.loop-place-test.true)
