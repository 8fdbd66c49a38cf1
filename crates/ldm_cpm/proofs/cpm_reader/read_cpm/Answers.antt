use Rattle.std.proofs.Common.{◌≡◌, refl, ap, subst, ◌∙◌}
use Rattle.std.specs.Prelude.{IfOk}
use Rattle.std.proofs.lemmas.Bool.{false≢true}
use Rattle.std.proofs.lemmas.Result.{err_from_is_err_and}
use Rattle.telex.specs.Lines.{lines_of, AreLinesOf}
use Rattle.ldm_cpm.specs.Reading.{texts, CpmStands}
use Rattle.ldm_cpm.proofs.TextReading.{cpm-read, cpm-refused, cpm-is_telex, lines-of_cpm}
use Rattle.ldm_cpm.proofs.cpm_reader.read_cpm.Goals as goal

pub returns-in_err-message-clause-refused : goal.returns-in_err-message-clause-refused
returns-in_err-message-clause-refused c =
    let p = err_from_is_err_and c.from_residual.result c.from_residual.ensures.1 in
    rw (p.1, p.2) ((c.in_err-message.ensures.refused c.in_err-message.field-0.0).0 refl)

pub returns-in_err-message-clause-read_back : goal.returns-in_err-message-clause-read_back
returns-in_err-message-clause-read_back c =
    let p = err_from_is_err_and c.from_residual.result c.from_residual.ensures.1 in
    rw (p.1) (λ m is. absurd (false≢true (c.in_err-message.ensures.accepted.1 (cpm-is_telex c.args.text.now m is))))

pub returns-clause-read : goal.returns-clause-read
returns-clause-read c =
    let cut = subst (λ t. AreLinesOf t c.lines.result) c.in_ok-message.ensures.message c.lines.ensures.cut in
    cpm-read c.read_lines.result c.args.text.now c.lines.result cut c.read_lines.ensures.spelled c.read_lines.ensures.said

pub returns-clause-stands : goal.returns-clause-stands
returns-clause-stands c =
    let same : c.lines.result ≡ lines_of c.args.text.now = c.lines.ensures.lines ∙ ap lines_of c.in_ok-message.ensures.message in
    subst (λ ls. IfOk c.read_lines.result (CpmStands ls)) same c.read_lines.ensures.stands

pub returns-clause-refused : goal.returns-clause-refused
returns-clause-refused c =
    let same : c.lines.result ≡ lines_of c.args.text.now = c.lines.ensures.lines ∙ ap lines_of c.in_ok-message.ensures.message in
    cpm-refused c.read_lines.result c.args.text.now c.lines.result (c.in_ok-message.ensures.accepted.0 refl) same c.read_lines.ensures.refused

pub returns-clause-read_back : goal.returns-clause-read_back
returns-clause-read_back c = λ m is.
    let same : c.lines.result ≡ lines_of c.args.text.now = c.lines.ensures.lines ∙ ap lines_of c.in_ok-message.ensures.message in
    c.read_lines.ensures.read_back m is.spelled (ap texts same ∙ lines-of_cpm c.args.text.now m is)
