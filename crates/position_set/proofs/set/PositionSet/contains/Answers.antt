use Rattle.position_set.proofs.SetLemmas.{has-contains}
use Rattle.position_set.proofs.set.PositionSet.contains.Goals as goal

pub returns : goal.returns
returns c = has-contains c.args.self.0 c.args.number
