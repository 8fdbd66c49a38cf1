-- the text of an answer with prices
use Rattle.std.specs.Prelude.{ℕ, List, ◌++◌}
use Rattle.hold_limits.specs.Problem.{Problem}
use Rattle.certificate.specs.Evidence.{claimed}
use Rattle.placer.specs.AnswerText.{claim_text, budget_text}
use Rattle.priced_certificate.specs.declared.parts.PricedCertificate.{PricedCertificate}
use Rattle.priced_certificate.specs.PricedText.{priced_certificate_text}
use Rattle.priced_placer.specs.declared.answer.PricedAnswer.{PricedAnswer}
use Rattle.priced_placer.specs.declared.answer.PricedAnswer.TheVariants.{Best, NoneFits, Budget}

-- what is claimed, and then the evidence for it
abbrev pub priced_text : Problem → PricedCertificate → List ℕ
priced_text t c = claim_text t (claimed c.claim) ++ priced_certificate_text t.hold.positions c

abbrev pub priced_answer_text : Problem → PricedAnswer → List ℕ
priced_answer_text t (Best c) = priced_text t c
priced_answer_text t (NoneFits c) = priced_text t c
priced_answer_text t (Budget n) = budget_text n
