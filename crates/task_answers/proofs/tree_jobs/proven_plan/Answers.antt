use Rattle.std.proofs.Common.{◌++◌, ap, ap₂, subst, ◌∙◌}
use Rattle.hold_limits.specs.Faults.{IsLawful}
use Rattle.hold_limits.specs.Problem.{Problem}
use Rattle.plan_text.specs.PlanText.{plan_text}
use Rattle.certificate.specs.CertificateText.{IsSpelledClaim}
use Rattle.tree_certificate.specs.declared.parts.TreeCertificate.{TreeCertificate}
use Rattle.tree_certificate.specs.Listed.{listed_trees}
use Rattle.tree_certificate.specs.TreeText.{tree_text, IsSpelled}
use Rattle.task_answers.specs.Names.{IsNamedTask}
use Rattle.task_answers.proofs.TreeJobLemmas.{plan-placing, plan-told_text}
use Rattle.task_answers.proofs.tree_jobs.proven_plan.Goals as goal

pub returns : goal.returns
returns c =
    let t = c.args.proven.now.task in
    let of_task = c.task-task.result.now in
    let trees = listed_trees c.args.proven.now.certificate in
    let path = c.path-path.result.now.items in
    let with_plan = c.in_ok-push_plan.ensures ∙ ap (λ text. text ++ plan_text of_task path) c.new-out.ensures in
    let text = c.finish.ensures ∙ c.in_ok-push_trees.ensures
    ∙ ap₂ (λ text certificate. text ++ tree_text of_task.hold.positions (listed_trees certificate)) with_plan c.certificate-certificate.ensures.value
    ∙ ap (λ (t : Problem). plan_text t path ++ tree_text t.hold.positions trees) c.task-task.ensures in
    let CanBeSpelled : Problem → TreeCertificate → Type 0 = λ t certificate. IsSpelledClaim t.hold.positions certificate.claim → IsSpelled t.hold.positions (listed_trees certificate) in
    let spelled : CanBeSpelled of_task c.certificate-certificate.result.now = c.can_be_spelled.ensures c.if-not-can_be_spelled.false in
    plan-placing t trees path _ c.copy_of.result c.fitting.result c.copy_of.ensures c.path-path.ensures.value c.path-path.ensures.best
    (record {
      lawful = subst IsLawful c.task-task.ensures c.items-lawful.ensures.lawful;
      named = subst IsNamedTask c.task-task.ensures c.read_names.ensures;
      good = c.certificate-certificate.ensures.good;
      spelled = subst (λ (p : Problem). CanBeSpelled p c.args.proven.now.certificate) c.task-task.ensures
          (subst (CanBeSpelled of_task) c.certificate-certificate.ensures.value spelled);
      is = plan-told_text t trees path _ c.path-path.ensures.value text;
    })
    c.fitting.ensures
