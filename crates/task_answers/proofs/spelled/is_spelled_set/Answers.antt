use Rattle.std.proofs.Common.{rules, length, ap, arith}
use Rattle.std.proofs.lemmas.Bool.{ltb-true}
use Rattle.hold_limits.proofs.LawfulBounds.{hold-bounds}
use Rattle.task_answers.proofs.SpelledLemmas.{set-spelled, empty-spelled}
use Rattle.task_answers.proofs.spelled.is_spelled_set.Goals as goal

pub returns-in-Some : goal.returns-in-Some
returns-in-Some c = λ below.
    let ps = c.args.hold.now.positions in
    set-spelled ps (hold-bounds c.args.hold.now c.positions.ensures.lawful).names c.args.set (search rules)
    (λ q inside. let least = c.in-Some.ensures.2 q inside in omega (arith, ltb-true _ _ below, least, c.from.ensures, ap length c.positions.ensures.value))

pub returns-in-None : goal.returns-in-None
returns-in-None c = λ yes. empty-spelled c.args.hold.now.positions c.args.set (search rules) c.in-None.ensures
