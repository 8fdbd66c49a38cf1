use Rattle.std.proofs.Common.{arith}
use Rattle.std.proofs.lemmas.Int.{ints}
use Rattle.hold_limits.proofs.LawfulBounds.{lawful-bounds}
use Rattle.hold_limits.proofs.balance.take_off_index_of.Goals as goal

pub overflow_add-result : goal.overflow_add-result
overflow_add-result c =
    let bounds = lawful-bounds c.args.task.now c.hold_index_of.ensures.lawful in
    omega (arith, ints)

pub returns-clause-value : goal.returns-clause-value
returns-clause-value c =
    let bounds = lawful-bounds c.args.task.now c.hold_index_of.ensures.lawful in
    omega (arith, ints)

pub returns-clause-bounded : goal.returns-clause-bounded
returns-clause-bounded c =
    let bounds = lawful-bounds c.args.task.now c.hold_index_of.ensures.lawful in
    omega (arith, ints)
