use Rattle.std.proofs.Common.{length}
use Rattle.std.proofs.lemmas.Result.{err_from_is_err_and}
use Rattle.editions.proofs.StartLemmas.{all-good, first-refused, too-many}
use Rattle.editions.proofs.starting.opening_of.Goals as goal

pub returns-in_err-opening-clause-refused : goal.returns-in_err-opening-clause-refused
returns-in_err-opening-clause-refused c =
    let p = err_from_is_err_and c.from_residual.result c.from_residual.ensures.1 in
    rw (p.1, p.2) (first-refused c.args.fleet.now c.args.rows.now c.in_err-opening.field-0.0 c.in_err-opening.ensures.refused)

pub returns-then-not-are_few-clause-refused : goal.returns-then-not-are_few-clause-refused
returns-then-not-are_few-clause-refused c = (
  all-good c.args.fleet.now c.args.rows.now c.in_ok-opening.opening.items c.in_ok-opening.ensures.opened,
  too-many (length c.args.rows.now) c.are_few.result c.are_few.ensures c.if-not-are_few.true,
)

pub returns-clause-few : goal.returns-clause-few
returns-clause-few c = c.are_few.ensures.0 c.if-not-are_few.false
