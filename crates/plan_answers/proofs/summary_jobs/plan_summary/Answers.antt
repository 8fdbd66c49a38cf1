use Rattle.std.proofs.Common.{◌≡◌, ◌++◌, ◌∷◌, [], ℕ, List, ap, ap₂, sym, ◌∙◌}
use Rattle.std.specs.Prelude.{codes}
use Rattle.text_lines.specs.Lines.{text_of}
use Rattle.plan_text.specs.PlanText.{balance_lines}
use Rattle.generated_load.specs.Load.{generated_problem}
use Rattle.plan_answers.specs.ReplyText.{load_lines, count_lines}
use Rattle.plan_answers.proofs.JobLemmas.{with_lines, some_same}
use Rattle.plan_answers.proofs.summary_jobs.plan_summary.Goals as goal

pub returns : goal.returns
returns c = λ path claim.
    let head = load_lines c.args.number in
    let plan : List (List ℕ) = codes "PLAN" ∷ [] in
    let balance = balance_lines (generated_problem c.args.number) path in
    let same : c.path.result.now.items ≡ path = some_same _ _ (sym c.path.ensures.value ∙ claim) in
    let with_plan = with_lines head plan _ _ c.in_ok-out.ensures c.in_ok-text.ensures.added in
    let with_balance = with_lines (head ++ plan) balance _ _ with_plan
    (c.in_ok-push_balance.ensures ∙ ap₂ (λ t p. c.text.new.self ++ text_of (balance_lines t p)) c.requires.made same) in
    c.finish.ensures ∙ with_lines (head ++ plan ++ balance) (count_lines c.args.proven.now.certificate) _ _ with_balance
    (c.in_ok-push_counts.ensures ∙ ap (λ certificate. c.push_balance.new.out ++ text_of (count_lines certificate)) c.certificate.ensures.value)
