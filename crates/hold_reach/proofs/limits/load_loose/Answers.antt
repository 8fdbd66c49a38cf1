use Rattle.std.proofs.Common.{◌≤◌, length, ap, ◌∙◌, arith}
use Rattle.hold_parts.specs.Limits.{is_limited}
use Rattle.hold_limits.specs.Placement.{loose_load}
use Rattle.hold_limits.proofs.LawfulBounds.{lawful-bounds}
use Rattle.hold_reach.proofs.LoadLemmas.{loose_load-bound}
use Rattle.hold_reach.proofs.limits.load_loose.Goals as goal

pub load_on-requires : goal.load_on-requires
load_on-requires c = omega (arith, ap length c.loose.ensures.value, (lawful-bounds c.args.task.now c.loose.ensures.lawful).loose)

bounded : (c : goal.After-load_on) → c.load_on.result ≤ 1280000
bounded c =
    let is = c.load_on.ensures ∙ ap (loose_load (is_limited c.args.limit.now)) c.loose.ensures.value in
    omega (arith, is, loose_load-bound (is_limited c.args.limit.now) c.args.task.now c.loose.ensures.lawful)

pub overflow_cast-result : goal.overflow_cast-result
overflow_cast-result c = omega (arith, bounded c)

pub returns-clause-bounded : goal.returns-clause-bounded
returns-clause-bounded c = bounded c
