use Rattle.hold_reach.proofs.ViableLemmas.{band-in_order}
use Rattle.cert_checker.proofs.GoodLemmas.{good_for-best, good_for-none}
use Rattle.cert_checker.proofs.evidence.CutMethodMethod.claim.Goals as goal

pub returns-clause-best : goal.returns-clause-best
returns-clause-best c t path lawful = good_for-best t c.args.certificate.now path (band-in_order t lawful)

pub returns-clause-none : goal.returns-clause-none
returns-clause-none c t = good_for-none t c.args.certificate.now
