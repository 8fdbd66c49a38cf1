use Rattle.position_set.proofs.SetLemmas.{has-with}
use Rattle.position_set.proofs.set.PositionSet.with.Goals as goal

pub returns : goal.returns
returns c = λ q. has-with c.args.self.0 c.args.number q c.requires
