use Rattle.std.proofs.Common.{◌++◌, ap, ap₂, ◌∙◌}
use Rattle.certificate.specs.CertificateText.{certificate_text}
use Rattle.plan_text.specs.PlanText.{plan_text}
use Rattle.placer.proofs.answer_text.plan_of.Goals as goal

pub returns : goal.returns
returns c =
    let t = c.args.task.now in
    let plan = plan_text t c.path.result.now.items in
    let with_plan = c.in_ok-push_plan.ensures ∙ ap (λ text. text ++ plan) c.new-out.ensures in
    rw c.path.ensures.value
    (c.finish.ensures ∙ c.in_ok-push_certificate.ensures.written
    ∙ ap₂ (λ text certificate. text ++ certificate_text t.hold.positions certificate) with_plan c.certificate.ensures.value)
