use Rattle.std.proofs.lemmas.Result.{IfOk-weaker, IfErr-weaker}
use Rattle.cert_checker.specs.Evidence.{path_of}
use Rattle.priced_checker.specs.Good.{IsGoodPricedFor}
use Rattle.priced_checker.specs.FirstReason.{IsFirstPricedReasonFor}
use Rattle.priced_checker.specs.Steps.{EvidenceHolds, EvidenceFails}
use Rattle.priced_checker.proofs.ReasonLemmas.{good_for-from, reason_for-from}
use Rattle.priced_checker.proofs.checks.first_reason.Goals as goal

pub returns-clause-good : goal.returns-clause-good
returns-clause-good c =
    let t = c.args.task.now in
    let certificate = c.args.c.now in
    IfOk-weaker c.check_task.result
    (λ _. EvidenceHolds t (record { standard = c.in-Ok.standard; cuts = c.as_slice.result }) certificate.expanded)
    (λ _. IsGoodPricedFor t certificate)
    (λ _ holds. good_for-from t certificate (path_of c.in-Ok.standard) c.as_slice.result.now c.in-Ok.ensures.path c.as_slice.ensures c.in-Ok.ensures.holds holds)
    c.check_task.ensures.holds

pub returns-clause-refused : goal.returns-clause-refused
returns-clause-refused c =
    let t = c.args.task.now in
    let certificate = c.args.c.now in
    IfErr-weaker c.check_task.result
    (λ reason. EvidenceFails t (record { standard = c.in-Ok.standard; cuts = c.as_slice.result }) certificate.expanded reason)
    (λ reason. IsFirstPricedReasonFor t certificate reason)
    (λ reason fails. reason_for-from t certificate (path_of c.in-Ok.standard) c.as_slice.result.now reason c.in-Ok.ensures.path c.as_slice.ensures c.in-Ok.ensures.holds fails)
    c.check_task.ensures.fails
