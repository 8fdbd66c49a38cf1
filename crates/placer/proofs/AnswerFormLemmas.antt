-- what holds of an answer by its form alone
use Rattle.std.proofs.Common.{ℕ}
use Rattle.placer.specs.declared.answer.Answer.{Answer}
use Rattle.placer.specs.declared.answer.Answer.TheVariants.{Best, NoneFits, Budget}
use Rattle.placer.specs.Answers.{IfBudget, IfCertified}

-- what holds in any case holds if the answer has evidence
pub IfCertified-any : (answer : Answer) (P : Type 0) → P → IfCertified answer (λ _. P)
IfCertified-any (Best proven) P p = p
IfCertified-any (NoneFits no_plan) P p = p
IfCertified-any (Budget n) P p = tt

-- anything holds of the budget of an answer that is no budget
pub IfBudget-never : (answer : Answer) (P : ℕ → Type 0) → IfBudget answer (λ _. ⊥) → IfBudget answer P
IfBudget-never (Best proven) P no_budget = tt
IfBudget-never (NoneFits no_plan) P no_budget = tt
IfBudget-never (Budget n) P no_budget = absurd no_budget
