use Rattle.hold_reach.proofs.ViableLemmas.{band-in_order}
use Rattle.best_first.specs.Promising.{IsFoundFor}
use Rattle.certificate.specs.Good.{AreAtMost}
use Rattle.best_first.specs.Promising.{IsPromising}
use Rattle.best_first.specs.Bounds.{HasReachBound}
use Rattle.placer.proofs.NearLemmas.{IsNearCertificate-found, near-at_most}
use Rattle.placer.proofs.GoodLemmas.{IsGood-found}
use Rattle.placer.proofs.near.near_certificate.Goals as goal

pub returns-in-Some-clause-near : goal.returns-in-Some-clause-near
returns-in-Some-clause-near c =
    let t = c.args.task.now in
    let found : IsFoundFor t (HasReachBound t) c.in-Some.found = rw c.in-Some.is at c.in_ok-found.ensures.found in
    let made = c.certificate_of.ensures in
    IsNearCertificate-found t c.in-Some.found c.certificate_of.result (band-in_order t c.items-lawful.ensures.lawful) found
    (record { claim = made.claim; cuts = made.cuts; expanded = made.expanded })

pub returns-in-Some-clause-good : goal.returns-in-Some-clause-good
returns-in-Some-clause-good c =
    let t = c.args.task.now in
    let found : IsFoundFor t (HasReachBound t) c.in-Some.found = rw c.in-Some.is at c.in_ok-found.ensures.found in
    let made = c.certificate_of.ensures in
    IsGood-found t c.in-Some.found c.certificate_of.result (band-in_order t c.items-lawful.ensures.lawful) found
    (record { claim = made.claim; cuts = made.cuts; expanded = made.expanded })

pub returns-in-Some-clause-enough : goal.returns-in-Some-clause-enough
returns-in-Some-clause-enough c =
    let t = c.args.task.now in
    let few : AreAtMost (IsPromising t (HasReachBound t)) c.args.budget = rw c.in-Some.is at c.in_ok-found.ensures.enough in
    near-at_most t c.args.budget few
