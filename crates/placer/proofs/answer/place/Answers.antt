use Rattle.std.proofs.Common.{◌≡◌, ℕ, sym, subst}
use Rattle.hold_limits.specs.Problem.{Problem}
use Rattle.certificate.specs.Good.{AreAtMost}
use Rattle.placer.specs.Near.{AreMoreThan, IsNear}
use Rattle.placer.specs.Answers.{IsAnswerTo}
use Rattle.placer.proofs.AnswerFormLemmas.{IfBudget-never, IfCertified-any}
use Rattle.placer.proofs.answer.place.Goals as goal

pub returns-in_ok-copy-in-Some : goal.returns-in_ok-copy-in-Some
returns-in_ok-copy-in-Some c =
    let t : Problem = c.in_ok-copy-in-Some.field-0 in
    let budget : ℕ = c.args.budget in
    let answer = c.answer_of.result in
    let told = c.answer_of.ensures in
    let few = rw c.in-Some.is at c.in_ok-certificate.ensures.enough in
    let same : t ≡ c.args.task.now = c.in_ok-copy-in-Some.ensures in
    subst (λ (t : Problem). IsAnswerTo t budget answer) same
    (record {
      best = told.best;
      path = told.path;
      none = told.none;
      nothing = told.nothing;
      near = told.near;
      enough = IfCertified-any answer (AreAtMost (IsNear t) budget) (subst (λ (t : Problem). AreAtMost (IsNear t) budget) (sym same) few);
      spent = IfBudget-never answer (λ n. n ≡ budget) told.spent;
      over = IfBudget-never answer (AreMoreThan (IsNear t)) told.spent;
    })
