-- the text of an answer
use Rattle.std.specs.Prelude.{ℕ, List, [], ◌∷◌, ◌++◌, codes, Option}
use Rattle.std.specs.Option.{option_map_or}
use Rattle.mass_units.specs.Spelling.{number_text}
use Rattle.hold_limits.specs.Problem.{Problem}
use Rattle.certificate.specs.Evidence.{claimed}
use Rattle.certificate.specs.CertificateText.{certificate_text}
use Rattle.certificate.specs.declared.parts.Certificate.{Certificate}
use Rattle.plan_text.specs.PlanText.{one_line, plan_text}
use Rattle.placer.specs.declared.answer.Answer.{Answer}
use Rattle.placer.specs.declared.answer.Answer.TheVariants.{Best, NoneFits, Budget}

-- the plan of the path that a certificate claims, if it claims one, and `NONE` else
abbrev pub claim_text : Problem → Option (List ℕ) → List ℕ
claim_text t claim = option_map_or (plan_text t) claim (one_line (codes "NONE" ∷ []))

-- what is claimed, and then the evidence for it
abbrev pub evidence_text : Problem → Certificate → List ℕ
evidence_text t c = claim_text t (claimed c.claim) ++ certificate_text t.hold.positions c

-- `BUDGET n`
abbrev pub budget_text : ℕ → List ℕ
budget_text budget = one_line (codes "BUDGET" ∷ number_text budget ∷ [])

abbrev pub answer_text : Problem → Answer → List ℕ
answer_text t (Best proven) = evidence_text t proven.certificate
answer_text t (NoneFits no_plan) = evidence_text t no_plan.certificate
answer_text t (Budget n) = budget_text n
