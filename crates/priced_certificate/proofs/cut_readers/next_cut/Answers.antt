use Rattle.std.proofs.Common.{refl}
use Rattle.std.proofs.lemmas.Result.{err_from_is_err_and}
use Rattle.text_lines.proofs.PartSteps.{none_at_line, none_at_end}
use Rattle.certificate.specs.CertificateText.{cut_line, IsSpelledPath}
use Rattle.priced_certificate.proofs.CutLines.{first_line, cut_read}
use Rattle.priced_certificate.proofs.FailSteps.{fails_at_lower, fails_at_upper}
use Rattle.priced_certificate.proofs.cut_readers.next_cut.Goals as goal

pub returns-in_default-clause-none : goal.returns-in_default-clause-none
returns-in_default-clause-none c =
    let ps = c.args.names.now.positions.now in
    (refl, none_at_end (cut_line ps) (IsSpelledPath ps) c.args.lines.now c.in_default.ensures.none)

pub returns-in_default-read_path-clause-none : goal.returns-in_default-read_path-clause-none
returns-in_default-read_path-clause-none c =
    let ps = c.args.names.now.positions.now in
    let found = c.in-Some.ensures.found in
    (refl, none_at_line (cut_line ps) (IsSpelledPath ps) c.args.lines.now c.in-Some.line.now c.in-Some.after.rest.now found.0 found.1 c.in_default-read_path.ensures.none)

pub returns-in_err-lower-clause-refused : goal.returns-in_err-lower-clause-refused
returns-in_err-lower-clause-refused c =
    let ps = c.args.names.now.positions.now in
    let text = c.args.lines.now in
    let one = c.in-Some.after in
    let first = c.in-Some-read_path.ensures.found in
    let e = first_line one.rest.now c.in-Some.ensures.found.0 first.1 in
    let p = err_from_is_err_and c.from_residual.result c.from_residual.ensures.1 in
    rw (p.1, p.2) (λ most some. fails_at_lower ps most c.in-Some-read_path.prefix text.rest.now one.rest.now text.number one.number c.in_err-lower.field-0.0 some first.0 e c.in-Some.ensures.counted c.in_err-lower.ensures.refused)

pub returns-in_err-upper-clause-refused : goal.returns-in_err-upper-clause-refused
returns-in_err-upper-clause-refused c =
    let ps = c.args.names.now.positions.now in
    let text = c.args.lines.now in
    let one = c.in-Some.after in
    let two = c.next_end.new.lines in
    let first = c.in-Some-read_path.ensures.found in
    let e = first_line one.rest.now c.in-Some.ensures.found.0 first.1 in
    let lower = c.in_ok-lower.ensures.read in
    let p = err_from_is_err_and c.from_residual-in_err-upper.result c.from_residual-in_err-upper.ensures.1 in
    rw (p.1, p.2)
    (λ most some.
    fails_at_upper ps most c.in-Some-read_path.prefix c.in_ok-lower.lower text.rest.now one.rest.now two.rest.now text.number one.number two.number c.in_err-upper.field-0.0 some first.0 lower.0 e c.in-Some.ensures.counted lower.1
    c.in_ok-lower.ensures.counted c.in_err-upper.ensures.refused)

pub returns-clause-found : goal.returns-clause-found
returns-clause-found c =
    let ps = c.args.names.now.positions.now in
    let text = c.args.lines.now in
    let one = c.in-Some.after in
    let two = c.next_end.new.lines in
    let three = c.next_end-2.new.lines in
    let first = c.in-Some-read_path.ensures.found in
    let e = first_line one.rest.now c.in-Some.ensures.found.0 first.1 in
    cut_read ps c.in-Some-read_path.prefix c.in_ok-lower.lower c.in_ok-upper.upper text.rest.now one.rest.now two.rest.now three.rest.now text.number one.number two.number three.number first.0 e c.in-Some.ensures.counted
    c.in_ok-lower.ensures.read c.in_ok-lower.ensures.counted c.in_ok-upper.ensures.read c.in_ok-upper.ensures.counted
