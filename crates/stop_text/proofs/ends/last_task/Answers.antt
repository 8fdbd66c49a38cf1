use Rattle.std.proofs.Common.{◌∙◌, length, sym, eq-eqb}
use Rattle.std.proofs.lemmas.Bool.{false≢true, eqb-true}
use Rattle.std.proofs.lemmas.Result.{err_from_is_err_and}
use Rattle.stop_text.proofs.LastTask.{fails_last, goes_on_last, last_read}
use Rattle.stop_text.proofs.ends.last_task.Goals as goal

pub returns-in_err-third-clause-refused : goal.returns-in_err-third-clause-refused
returns-in_err-third-clause-refused c =
    let p = err_from_is_err_and c.from_residual.result c.from_residual.ensures.1 in
    rw (p.1, p.2) (fails_last c.args.lines.now.rest.now c.args.lines.now.number c.in_err-third.field-0.0 c.in_err-third.ensures.refused)

pub returns-then-not-is_empty-clause-refused : goal.returns-then-not-is_empty-clause-refused
returns-then-not-is_empty-clause-refused c =
    let there = c.next_task.new.lines in
    goes_on_last c.args.lines.now.rest.now c.args.lines.now.number there.rest.now there.number c.in_ok-third.third c.in_ok-third.ensures.read
    (λ none. false≢true (sym c.if-not-is_empty.true ∙ c.is_empty-2.ensures ∙ eq-eqb (length there.rest.now) 0 none))

pub returns-clause-read : goal.returns-clause-read
returns-clause-read c =
    let there = c.next_task.new.lines in
    last_read c.args.lines.now.rest.now c.args.lines.now.number there.rest.now there.number c.in_ok-third.third c.in_ok-third.ensures.read
    (eqb-true (length there.rest.now) 0 (sym c.is_empty-2.ensures ∙ c.if-not-is_empty.false))
