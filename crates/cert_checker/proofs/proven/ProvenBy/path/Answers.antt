use Rattle.std.proofs.Common.{ap, sym, ◌∙◌, subst}
use Rattle.hold_limits.specs.Placement.{IsBest}
use Rattle.certificate.specs.Evidence.{claimed}
use Rattle.cert_checker.specs.Certified.{CertifiedBy}
use Rattle.cert_checker.proofs.proven.ProvenBy.path.Goals as goal

pub returns-clause-best : goal.returns-clause-best
returns-clause-best g c = subst (λ (p : CertifiedBy g.row.M-Certificate.Denot). IsBest p.task c.in-Best.path.items) c.self.view_is
    (c.claim.ensures.best c.self.inside.task c.in-Best.path.items c.items-lawful.ensures.lawful c.self.invariant.0
    (sym c.claim.ensures.value ∙ ap claimed c.in-Best.is))
