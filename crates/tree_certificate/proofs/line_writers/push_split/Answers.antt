use Rattle.std.proofs.Common.{◌≡◌, ◌++◌, ◌∷◌, ◌∙◌, ap, sym, arith, codes, refl}
use Rattle.std.proofs.lemmas.Result.{IfOk-equal}
use Rattle.mass_units.specs.Spelling.{number_text}
use Rattle.text_lines.specs.WordRuns.{run_text, name_text}
use Rattle.position_set.specs.Sets.{members}
use Rattle.certificate.proofs.PathLemmas.{path_line-is}
use Rattle.tree_certificate.proofs.WriterSteps.{two}
use Rattle.tree_certificate.proofs.line_writers.push_split.Goals as goal

pub returns : goal.returns
returns c =
    let ps = c.args.hold.now.positions in
    let old = c.args.out.now in
    let rank = number_text c.args.rank in
    let same : c.from.result ≡ c.args.rank = omega arith in
    let named : c.push_numbered.new.out ≡ old ++ (codes "split" ++ 32 ∷ rank) = c.in_ok-push_numbered.ensures ∙ ap (λ n. old ++ (codes "split" ++ 32 ∷ number_text n)) same in
    let names = run_text (name_text ps) (members c.args.set) in
    IfOk-equal c.push_names.result c.push_names.new.out (c.push_numbered.new.out ++ names) _ c.push_names.ensures
    (two old (codes "split" ++ 32 ∷ rank) names c.push_numbered.new.out _ named refl ∙ ap (λ line. old ++ (codes "split " ++ line)) (sym (path_line-is rank ps (members c.args.set))))
