use Rattle.std.proofs.Common.{arith}
use Rattle.std.proofs.lemmas.Int.{ints}
use Rattle.last_minute.proofs.late.index_difference.Goals as goal

pub returns : goal.returns
returns c = omega (arith, ints, c.abs.ensures.value)
