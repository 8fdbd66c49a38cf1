use Rattle.position_set.proofs.SetLemmas.{has-union}
use Rattle.position_set.proofs.set.PositionSet.union.Goals as goal

pub returns : goal.returns
returns c = has-union c.args.self.0 c.args.other.0
