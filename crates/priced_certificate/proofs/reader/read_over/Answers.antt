use Rattle.std.proofs.lemmas.Result.{err_from_is_err_and}
use Rattle.text_lines.specs.Lines.{text_of}
use Rattle.certificate.specs.Refusals.{cert_fault}
use Rattle.certificate.specs.Refusals.IsRefusedAfter.{no_start}
use Rattle.certificate.proofs.StartLemmas.{no_start_starts}
use Rattle.certificate.proofs.AfterStart.{refused_lines, states_after}
use Rattle.priced_certificate.specs.PricedText.{start_line, priced_lines}
use Rattle.priced_certificate.proofs.PricedParts.{priced, start_plain, spelled_once, spelled_has_no_fault}
use Rattle.priced_certificate.proofs.reader.read_over.Goals as goal

pub returns-in_default-clause-refused : goal.returns-in_default-clause-refused
returns-in_default-clause-refused c = no_start c.in_default.ensures.none

pub returns-in_default-clause-complete : goal.returns-in_default-clause-complete
returns-in_default-clause-complete c = λ said s. absurd (no_start_starts start_line start_plain c.args.text.now s.before (text_of (priced_lines c.args.positions.now said)) c.in_default.ensures.none s.starts)

pub returns-in_err-read_lines-clause-refused : goal.returns-in_err-read_lines-clause-refused
returns-in_err-read_lines-clause-refused c =
    let p = err_from_is_err_and c.from_residual.result c.from_residual.ensures.1 in
    rw (p.1, p.2) (refused_lines c.in-Some.ensures.found c.in_err-read_lines.ensures.refused)

pub returns-in_err-read_lines-clause-complete : goal.returns-in_err-read_lines-clause-complete
returns-in_err-read_lines-clause-complete c =
    let p = err_from_is_err_and c.from_residual.result c.from_residual.ensures.1 in
    rw (p.1, p.2) (λ said s. spelled_has_no_fault c.args.positions.now c.requires.named c.args.text.now said (cert_fault c.in_err-read_lines.field-0.0) s (refused_lines c.in-Some.ensures.found c.in_err-read_lines.ensures.refused))

pub returns-clause-complete : goal.returns-clause-complete
returns-clause-complete c =
    λ said s. spelled_once c.args.positions.now c.requires.named c.args.text.now c.in_ok-read_lines.field-0 said
    (states_after (priced c.args.positions.now) c.in_ok-read_lines.field-0 c.in-Some.ensures.found c.in_ok-read_lines.ensures.read) s

pub returns-clause-read : goal.returns-clause-read
returns-clause-read c = states_after (priced c.args.positions.now) c.in_ok-read_lines.field-0 c.in-Some.ensures.found c.in_ok-read_lines.ensures.read
