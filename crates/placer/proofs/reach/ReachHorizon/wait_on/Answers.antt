use Rattle.std.proofs.Common.{arith}
use Rattle.hold_reach.proofs.ViableLemmas.{band-in_order}
use Rattle.placer.proofs.ReachLemmas.{reach-bounds}
use Rattle.placer.proofs.reach.ReachHorizon.wait_on.Goals as goal

pub returns-clause-later : goal.returns-clause-later
returns-clause-later c =
    let t = c.args.partial.now.task in
    let prefix = c.args.partial.now.prefix in
    let laws = reach-bounds t (band-in_order t c.task-lawful.ensures.lawful) in
    let here = laws.narrows prefix c.args._number c.args.reach c.requires.reach in
    omega (arith, here.2, laws.one prefix here.0 c.args._bound here.1 c.requires.bound)
