use Rattle.std.proofs.Common.{◌∙◌, ◌++◌, ◌∷◌, ap, length, sym, eq-eqb}
use Rattle.std.proofs.lemmas.Bool.{false≢true, eqb-true}
use Rattle.std.proofs.lemmas.Result.{err_from_is_err_and}
use Rattle.text_lines.proofs.NameLemmas.{length-zero}
use Rattle.text_lines.proofs.RunsOfLines.{stops_at_last, goes_on}
use Rattle.text_lines.proofs.lines.expect_last.Goals as goal

pub returns-in_err-expect_line-clause-refused : goal.returns-in_err-expect_line-clause-refused
returns-in_err-expect_line-clause-refused c =
    let p = err_from_is_err_and c.from_residual.result c.from_residual.ensures.1 in
    rw (p.1, p.2) (stops_at_last c.args.expected.now c.args.lines.now c.in_err-expect_line.field-0.0 c.in_err-expect_line.ensures.refused)

pub returns-then-not-is_empty-clause-refused : goal.returns-then-not-is_empty-clause-refused
returns-then-not-is_empty-clause-refused c =
    let there = c.expect_line.new.lines in
    goes_on c.args.expected.now c.args.lines.now there c.in_ok-expect_line.ensures.read c.in_ok-expect_line.ensures.counted
    (λ none. false≢true (sym c.if-not-is_empty.true ∙ c.is_empty.ensures ∙ eq-eqb (length there.rest.now) 0 none))

pub returns-clause-read : goal.returns-clause-read
returns-clause-read c =
    let after = c.expect_line.new.lines.rest.now in
    let none = length-zero after (eqb-true (length after) 0 (sym c.is_empty.ensures ∙ c.if-not-is_empty.false)) in
    c.in_ok-expect_line.ensures.read ∙ ap (λ t. c.args.expected.now ++ 10 ∷ t) none
