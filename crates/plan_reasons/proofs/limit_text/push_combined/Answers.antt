use Rattle.std.proofs.Common.{◌∙◌, ◌++◌, ◌∷◌, ap, sym, codes}
use Rattle.std.proofs.lemmas.Result.{IfOk-equal}
use Rattle.mass_units.specs.Spelling.{number_text}
use Rattle.text_lines.specs.WordRuns.{run_text, name_text}
use Rattle.problem_text.proofs.LineLemmas.{combined_line-is}
use Rattle.problem_text.proofs.WriterLemmas.{built-3}
use Rattle.plan_reasons.proofs.limit_text.push_combined.Goals as goal

pub returns : goal.returns
returns c =
    let limit = c.args.limit.now in
    let ps = c.args.hold.now.positions in
    IfOk-equal c.write_run.result c.write_run.new.out (c.push_mass.new.out ++ run_text (name_text ps) c.as_slice.result.now) _ c.write_run.ensures
    (built-3 c.args.out.now (codes "combined") (32 ∷ number_text limit.most.0) (run_text (name_text ps) limit.places) _ _ _
    c.in_ok-text.ensures.added c.in_ok-push_mass.ensures (ap (λ places. c.push_mass.new.out ++ run_text (name_text ps) places) c.as_slice.ensures)
    ∙ ap (λ line. c.args.out.now ++ line) (sym (combined_line-is ps limit)))
