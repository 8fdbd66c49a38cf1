use Rattle.std.proofs.Common.{◌∙◌, ◌++◌, ap, sym}
use Rattle.std.proofs.lemmas.Result.{IfOk-equal}
use Rattle.text_lines.specs.WordRuns.{run_text, name_text}
use Rattle.certificate.proofs.PathLemmas.{path_line-is}
use Rattle.certificate.proofs.WriterLemmas.{regroup}
use Rattle.certificate.proofs.line_writers.push_named.Goals as goal

pub returns-clause-written : goal.returns-clause-written
returns-clause-written c =
    let ps = c.args.hold.now.positions in
    let names = run_text (name_text ps) in
    IfOk-equal c.write_run.result c.write_run.new.out (c.text.new.self ++ names c.as_slice-numbers.result.now) _ c.write_run.ensures
    (regroup c.args.out.now c.args.word.now (names c.args.path.now.items) _ _ c.in_ok-text.ensures.added (ap (λ xs. c.text.new.self ++ names xs) c.as_slice-numbers.ensures.value)
    ∙ ap (λ line. c.args.out.now ++ line) (sym (path_line-is c.args.word.now ps c.args.path.now.items)))
