use Rattle.std.proofs.Common.{arith}
use Rattle.position_set.proofs.SetLemmas.{has-difference}
use Rattle.position_set.proofs.set.PositionSet.difference.Goals as goal

pub returns : goal.returns
returns c = λ q. has-difference c.args.self.0 c.args.other.0 q (omega arith) (omega arith)
