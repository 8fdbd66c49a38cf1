use Rattle.std.proofs.Common.{w64}
use Rattle.std.proofs.lemmas.Int.{to_z-of_z}
use Rattle.assignment.proofs.Refills.{refill-whole}
use Rattle.assignment.proofs.standing.Standing.move_prices.Goals as goal

pub returns-clause-moved : goal.returns-clause-moved
returns-clause-moved c =
    let moved = rw (to_z-of_z w64 c.args.by c.ranges.by, c.as_mut_slice.ensures.value, c.as_mut_slice-2.ensures.value, c.as_slice.ensures.value) at c.shift.ensures in
    rw (refill-whole c.args.self.now.items.items c.shift.new.items moved.item_count, refill-whole c.args.self.now.places.items c.shift.new.places moved.place_count)
    moved
