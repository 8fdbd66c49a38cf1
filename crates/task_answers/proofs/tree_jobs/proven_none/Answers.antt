use Rattle.std.proofs.Common.{◌∷◌, [], ◌++◌, ap, ap₂, subst, ◌∙◌}
use Rattle.std.specs.Prelude.{codes}
use Rattle.hold_limits.specs.Faults.{IsLawful}
use Rattle.hold_limits.specs.Problem.{Problem}
use Rattle.plan_text.specs.PlanText.{one_line}
use Rattle.certificate.specs.CertificateText.{IsSpelledClaim}
use Rattle.tree_certificate.specs.declared.parts.TreeCertificate.{TreeCertificate}
use Rattle.tree_certificate.specs.Listed.{listed_trees}
use Rattle.tree_certificate.specs.TreeText.{tree_text, IsSpelled}
use Rattle.task_answers.specs.Names.{IsNamedTask}
use Rattle.task_answers.proofs.TreeJobLemmas.{none-placing, none-told_text}
use Rattle.task_answers.proofs.tree_jobs.proven_none.Goals as goal

pub returns : goal.returns
returns c =
    let t = c.args.no_plan.now.task in
    let of_task = c.task-task.result.now in
    let trees = listed_trees c.args.no_plan.now.certificate in
    let none = one_line (codes "NONE" ∷ []) in
    let with_none = c.in_ok-text.ensures.added ∙ ap (λ text. text ++ none) c.new-out.ensures in
    let text = c.finish.ensures ∙ c.in_ok-push_trees.ensures
    ∙ ap₂ (λ text certificate. text ++ tree_text of_task.hold.positions (listed_trees certificate)) with_none c.certificate-certificate.ensures.value
    ∙ ap (λ (t : Problem). none ++ tree_text t.hold.positions trees) c.task-task.ensures.value in
    let CanBeSpelled : Problem → TreeCertificate → Type 0 = λ t certificate. IsSpelledClaim t.hold.positions certificate.claim → IsSpelled t.hold.positions (listed_trees certificate) in
    let spelled : CanBeSpelled of_task c.certificate-certificate.result.now = c.can_be_spelled.ensures c.if-not-can_be_spelled.false in
    none-placing t trees _ c.fitting.result c.certificate-certificate.ensures.claims c.task-task.ensures.none
    (record {
      lawful = subst IsLawful c.task-task.ensures.value c.items-lawful.ensures.lawful;
      named = subst IsNamedTask c.task-task.ensures.value c.read_names.ensures;
      good = c.certificate-certificate.ensures.good;
      spelled = subst (λ (p : Problem). CanBeSpelled p c.args.no_plan.now.certificate) c.task-task.ensures.value
          (subst (CanBeSpelled of_task) c.certificate-certificate.ensures.value spelled);
      is = none-told_text t trees _ c.certificate-certificate.ensures.claims text;
    })
    c.fitting.ensures
