use Rattle.std.proofs.Common.{arith}
use Rattle.std.proofs.lemmas.Int.{ints}
use Rattle.choice_prices.proofs.worth.start_of.Goals as goal

pub returns-clause-value : goal.returns-clause-value
returns-clause-value c choice =
    let moment = c.loose_moment_from.ensures in
    let room = rw c.as_slice.ensures.value at (c.room_prices.ensures.value choice) in
    omega (arith, ints, moment.value, moment.bounded, room, c.room_prices.ensures.bounded)
