use Rattle.std.proofs.Common.{w64, FitsSigned, arith}
use Rattle.std.proofs.Math.ListN.{length-set}
use Rattle.std.proofs.lemmas.Int.{ints, to_z-of_z}
use Rattle.assignment.proofs.Refills.{refill-whole}
use Rattle.assignment_draft.proofs.PriceSteps.{moved-place}
use Rattle.assignment_draft.proofs.prices.Prices.raise.Goals as goal

pub returns : goal.returns
returns c =
    let prices = c.args.self.now in
    let price = c.greatest_place-greatest.result in
    let greatest = c.greatest_place-greatest.ensures in
    let old = c.requires.sound.places c.args.position in
    let fits : FitsSigned w64 price = omega (arith, ints, old.above, greatest.at_least, greatest.at_most) in
    rw (c.deref_mut.ensures.value, c.from.ensures, to_z-of_z w64 price fits, refill-whole prices.places.items _ (length-set prices.places.items c.args.position price))
    (moved-place prices c.args.position price c.requires.sound c.requires.position greatest.at_most
    record { above = omega (arith, ints, old.above, greatest.at_least); below = omega (arith, ints, greatest.at_most) } greatest.bound)
