use Rattle.position_set.proofs.SetLemmas.{has-intersection}
use Rattle.position_set.proofs.set.PositionSet.intersection.Goals as goal

pub returns : goal.returns
returns c = has-intersection c.args.self.0 c.args.other.0
