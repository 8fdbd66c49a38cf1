use Rattle.std.proofs.Common.{arith}
use Rattle.plan_reasons.proofs.LooserLemmas.{step-above}
use Rattle.plan_reasons.proofs.least_step.step_above.Goals as goal

pub returns : goal.returns
returns g c =
    let test = c.loop-none-test.false in
    let loop = c.loop-none in (
      c.requires.number,
      step-above c.args.task.now c.args.limit loop.none loop.plan (omega (arith, test)) loop.invariant.within loop.invariant.below loop.invariant.above,
    )
