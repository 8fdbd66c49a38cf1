use Rattle.std.proofs.Common.{subst}
use Rattle.sqlite_keeper.specs.Table.{ComesLast}
use Rattle.sqlite_keeper.proofs.OrderLemmas.{rising-added}
use Rattle.sqlite_keeper.proofs.rows.add_last.Goals as goal

pub returns-clause-rising : goal.returns-clause-rising
returns-clause-rising c rising =
    let last = subst (λ list. ComesLast list c.args.row) c.as_slice.ensures.value (c.comes_last.ensures.0 c.if-not-comes_last.false) in
    rising-added c.add.result _ _ c.args.row c.add.ensures.added last rising
