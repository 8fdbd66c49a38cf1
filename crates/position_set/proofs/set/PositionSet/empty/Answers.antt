use Rattle.position_set.proofs.SetLemmas.{has-empty}
use Rattle.position_set.proofs.set.PositionSet.empty.Goals as goal

pub returns : goal.returns
returns c = has-empty
