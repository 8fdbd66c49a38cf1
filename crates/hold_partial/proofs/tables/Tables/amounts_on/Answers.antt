use Rattle.std.proofs.Common.{arith}
use Rattle.std.proofs.lemmas.Int.{ints}
use Rattle.hold_partial.proofs.tables.Tables.amounts_on.Goals as goal

pub returns : goal.returns
returns c =
    let least = c.in_ok-least.ensures in
    let greatest = c.in_ok-greatest.ensures in
    (c.in_ok-least.least, c.in_ok-greatest.greatest, least.1, greatest.1, λ r is. (least.2 r is, greatest.2 r is), omega (arith, ints, c.amount_at.ensures), omega (arith, ints, c.amount_at-2.ensures))
