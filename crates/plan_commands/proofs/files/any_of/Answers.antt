use Rattle.std.proofs.Common.{sym, ◌∙◌}
use Rattle.std.proofs.lemmas.Bool.{false≢true}
use Rattle.plan_commands.proofs.FileLemmas.{IfErr-from_residual, cuts-halt, trees-halt}
use Rattle.plan_commands.proofs.files.any_of.Goals as goal

pub returns-in_err-cuts-clause-refused : goal.returns-in_err-cuts-clause-refused
returns-in_err-cuts-clause-refused c =
    let halt = c.in_err-cuts.field-0.0 in
    IfErr-from_residual c.from_residual.result halt _ c.from_residual.ensures.1
    (cuts-halt c.args.task.now c.args.bytes.now halt (c.begins_with_cuts.ensures.0 c.if-begins_with_cuts.true) c.in_err-cuts.ensures.refused)

pub returns-then-begins_with_cuts-clause-read : goal.returns-then-begins_with_cuts-clause-read
returns-then-begins_with_cuts-clause-read c = (c.begins_with_cuts.ensures.0 c.if-begins_with_cuts.true, c.in_ok-cuts.ensures.read)

pub returns-in_err-trees-clause-refused : goal.returns-in_err-trees-clause-refused
returns-in_err-trees-clause-refused c =
    let halt = c.in_err-trees.field-0.0 in
    IfErr-from_residual c.from_residual-in_err-trees.result halt _ c.from_residual-in_err-trees.ensures.1
    (trees-halt c.args.task.now c.args.bytes.now halt (λ begins. false≢true (sym c.if-begins_with_cuts.false ∙ c.begins_with_cuts.ensures.1 begins)) c.in_err-trees.ensures.refused)

pub returns-clause-read : goal.returns-clause-read
returns-clause-read c = (λ begins. false≢true (sym c.if-begins_with_cuts.false ∙ c.begins_with_cuts.ensures.1 begins), c.in_ok-trees.ensures.read)
