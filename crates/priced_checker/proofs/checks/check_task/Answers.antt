use Rattle.std.proofs.Common.{ℕ, []}
use Rattle.std.proofs.lemmas.Bool.{false≢true}
use Rattle.std.proofs.lemmas.Result.{IfOk-weaker, IfErr-weaker}
use Rattle.hold_limits.specs.Problem.{Problem}
use Rattle.hold_limits.specs.Placement.{IsSound}
use Rattle.priced_checker.specs.Steps.{EvidenceHolds, EvidenceFails}
use Rattle.priced_checker.proofs.checks.check_task.Goals as goal

pub returns-in-Err-clause-holds : goal.returns-in-Err-clause-holds
returns-in-Err-clause-holds c =
    let evidence = c.args.evidence.now in
    IfOk-weaker c.check_unsound.result
    (λ _. (t : Problem) (allowed : ℕ) → (IsSound t [] → ⊥) → EvidenceHolds t evidence allowed)
    (λ _. EvidenceHolds c.args.task.now evidence c.args.allowed)
    (λ _ holds. holds c.args.task.now c.args.allowed (λ sound. false≢true (c.in-Err.ensures.sound.1 sound)))
    c.check_unsound.ensures.holds

pub returns-in-Err-clause-fails : goal.returns-in-Err-clause-fails
returns-in-Err-clause-fails c =
    let evidence = c.args.evidence.now in
    IfErr-weaker c.check_unsound.result
    (λ reason. (t : Problem) (allowed : ℕ) → (IsSound t [] → ⊥) → EvidenceFails t evidence allowed reason)
    (λ reason. EvidenceFails c.args.task.now evidence c.args.allowed reason)
    (λ _ fails. fails c.args.task.now c.args.allowed (λ sound. false≢true (c.in-Err.ensures.sound.1 sound)))
    c.check_unsound.ensures.fails
