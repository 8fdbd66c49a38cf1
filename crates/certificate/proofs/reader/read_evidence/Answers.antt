use Rattle.std.proofs.Common.{sym, subst}
use Rattle.std.proofs.lemmas.Result.{err_from_is_err_and}
use Rattle.text_lines.specs.Grammar.Fails.{no_memory}
use Rattle.certificate.proofs.PathLemmas.{AreNames}
use Rattle.certificate.proofs.reader.read_evidence.Goals as goal

pub returns-in_err-names-clause-refused : goal.returns-in_err-names-clause-refused
returns-in_err-names-clause-refused c =
    let p = err_from_is_err_and c.from_residual.result c.from_residual.ensures.1 in
    rw (p.1, p.2) no_memory

pub read_lines-requires : goal.read_lines-requires
read_lines-requires c = subst AreNames (sym c.in_ok-names.ensures) c.requires.named
