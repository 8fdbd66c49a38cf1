use Rattle.std.proofs.Common.{◌++◌, ◌∙◌, ap, sym, codes, refl}
use Rattle.std.proofs.lemmas.Result.{IfOk-equal}
use Rattle.text_lines.specs.WordRuns.{run_text, name_text}
use Rattle.position_set.specs.Sets.{members}
use Rattle.certificate.proofs.PathLemmas.{path_line-is}
use Rattle.tree_certificate.proofs.WriterSteps.{two}
use Rattle.tree_certificate.proofs.line_writers.CliquesEntryWriter.write.Goals as goal

pub returns-clause-added : goal.returns-clause-added
returns-clause-added c =
    let ps = c.args.self.now.0.now.positions in
    let old = c.args.out.now in
    let names = run_text (name_text ps) (members c.args.clique.now) in
    IfOk-equal c.push_names.result c.push_names.new.out (c.text.new.self ++ names) _ c.push_names.ensures
    (two old (codes "clique") names c.text.new.self _ c.in_ok-text.ensures.added refl ∙ ap (λ line. old ++ line) (sym (path_line-is (codes "clique") ps (members c.args.clique.now))))
