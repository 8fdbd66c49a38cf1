use Rattle.std.proofs.Common.{All, sym, subst}
use Rattle.std.proofs.lemmas.Result.{err_from_is_err_and}
use Rattle.text_lines.specs.Grammar.Fails.{no_memory}
use Rattle.problem_text.specs.TaskText.{IsSpelledPosition}
use Rattle.problem_text.proofs.reader.read_sections.Goals as goal

pub returns-in_err-names-clause-refused : goal.returns-in_err-names-clause-refused
returns-in_err-names-clause-refused c =
    let p = err_from_is_err_and c.from_residual.result c.from_residual.ensures.1 in
    rw (p.1, p.2) no_memory

pub read_named-requires : goal.read_named-requires
read_named-requires c = record { spelled = subst (All IsSpelledPosition) (sym c.in_ok-names.ensures) c.requires.spelled }
