use Rattle.std.proofs.Common.{◌≡◌, List, IfOk, subst}
use Rattle.std.proofs.lemmas.Result.{err_from_is_err_and}
use Rattle.hold_parts.specs.declared.parts.Position.{Position}
use Rattle.text_lines.specs.Lines.{text_of}
use Rattle.text_lines.specs.Grammar.Fails.{no_memory}
use Rattle.priced_certificate.specs.PricedText.{priced_lines, IsSpelled}
use Rattle.priced_certificate.proofs.reader.read_lines.Goals as goal

pub returns-in_err-names-clause-refused : goal.returns-in_err-names-clause-refused
returns-in_err-names-clause-refused c =
    let p = err_from_is_err_and c.from_residual.result c.from_residual.ensures.1 in
    rw (p.1, p.2) no_memory

pub returns-clause-read : goal.returns-clause-read
returns-clause-read c =
    let Read : List Position → Type 0 = λ qs. IfOk c.read_named.result (λ got. IsSpelled qs got × (c.args.lines.now.rest.now ≡ text_of (priced_lines qs got))) in
    subst Read c.in_ok-names.ensures c.read_named.ensures.read
