use Rattle.std.proofs.Common.{arith}
use Rattle.position_set.proofs.SetLemmas.{has-none, last-is}
use Rattle.position_set.proofs.set.PositionSet.last.Goals as goal

pub returns-then-self-eq0 : goal.returns-then-self-eq0
returns-then-self-eq0 c = has-none c.args.self (omega arith)

pub returns-else-self-eq0 : goal.returns-else-self-eq0
returns-else-self-eq0 c = last-is c.args.self (omega arith) (omega arith)
