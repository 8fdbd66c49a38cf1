use Rattle.std.proofs.Common.{◌++◌, ◌∷◌, [], List, ap, ◌∙◌}
use Rattle.std.specs.Prelude.{codes}
use Rattle.text_lines.specs.Lines.{text_of}
use Rattle.plan_answers.specs.ReplyText.{load_lines, count_lines}
use Rattle.plan_answers.proofs.JobLemmas.{with_lines}
use Rattle.plan_answers.proofs.summary_jobs.none_summary.Goals as goal

pub returns : goal.returns
returns c =
    let head = load_lines c.args.number in
    let none : List (List _) = codes "NONE" ∷ [] in
    let with_none = with_lines head none _ _ c.in_ok-out.ensures c.in_ok-text.ensures.added in
    c.finish.ensures ∙ with_lines (head ++ none) (count_lines c.args.no_plan.now.certificate) _ _ with_none
    (c.in_ok-push_counts.ensures ∙ ap (λ certificate. c.text.new.self ++ text_of (count_lines certificate)) c.certificate.ensures.value)
