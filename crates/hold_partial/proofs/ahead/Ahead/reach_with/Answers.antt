use Rattle.std.proofs.Common.{arith}
use Rattle.std.proofs.lemmas.Int.{ints}
use Rattle.hold_partial.proofs.ahead.Ahead.reach_with.Goals as goal

pub returns-clause-still_bounded : goal.returns-clause-still_bounded
returns-clause-still_bounded c = (
  omega (arith, ints, c.requires.bounded.0, c.requires.added_bounded.0, c.times.ensures.still_bounded.0, c.plus.ensures.low, c.plus-2.ensures.low),
  omega (arith, ints, c.requires.bounded.1, c.requires.added_bounded.1, c.times.ensures.still_bounded.1, c.plus.ensures.high, c.plus-2.ensures.high),
)
