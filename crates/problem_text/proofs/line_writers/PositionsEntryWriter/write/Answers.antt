use Rattle.std.proofs.Common.{◌∙◌, ◌++◌, ◌∷◌, ap, sym}
use Rattle.std.proofs.lemmas.Result.{IfOk-equal}
use Rattle.mass_units.specs.Spelling.{number_text, signed_text}
use Rattle.problem_text.specs.TaskText.{position_word}
use Rattle.problem_text.specs.WordRuns.{fit_text}
use Rattle.text_lines.specs.WordRuns.{run_text}
use Rattle.problem_text.proofs.PositionLemmas.{position_line-is}
use Rattle.problem_text.proofs.WriterLemmas.{built-5}
use Rattle.problem_text.proofs.line_writers.PositionsEntryWriter.write.Goals as goal

pub returns-clause-added : goal.returns-clause-added
returns-clause-added c =
    let q = c.args.position.now in
    IfOk-equal c.write_run.result c.write_run.new.out (c.push_influence.new.out ++ run_text fit_text c.as_slice.result.now) _ c.write_run.ensures
    (built-5 c.args.out.now (position_word q.bulk) (32 ∷ q.name) (32 ∷ number_text q.compartment) (32 ∷ signed_text q.influence) (run_text fit_text q.fits) _ _ _ _ _
    (c.in_ok-text.ensures.added ∙ ap (λ word. c.args.out.now ++ word) c.word_of_position.ensures)
    (c.in_ok-word.ensures.added ∙ ap (λ name. c.text.new.self ++ 32 ∷ name) c.bytes-name.ensures.value)
    c.in_ok-push_number.ensures
    c.in_ok-push_influence.ensures
    (ap (λ fits. c.push_influence.new.out ++ run_text fit_text fits) c.as_slice.ensures)
    ∙ ap (λ line. c.args.out.now ++ line) (sym (position_line-is q)))
