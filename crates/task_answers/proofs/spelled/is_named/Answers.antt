use Rattle.std.proofs.Common.{◌<◌, length, ap, arith}
use Rattle.std.proofs.lemmas.Bool.{ltb-true}
use Rattle.hold_limits.proofs.LawfulBounds.{hold-bounds}
use Rattle.certificate.proofs.WriterLemmas.{first_named}
use Rattle.task_answers.proofs.spelled.is_named.Goals as goal

pub returns : goal.returns
returns c = λ below.
    let ps = c.args.hold.now.positions in
    let known : c.args.number < length ps = omega (arith, ltb-true _ _ below, ap length c.positions.ensures.value) in
    first_named ps (hold-bounds c.args.hold.now c.positions.ensures.lawful).names c.args.number known
