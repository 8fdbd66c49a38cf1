use Rattle.std.proofs.Common.{◌≡◌, length, arith, w64, FitsSigned}
use Rattle.std.proofs.lemmas.Int.{ints, to_z-of_z}
use Rattle.assignment.specs.Prices.{price_at}
use Rattle.assignment.specs.Tables.{number_at}
use Rattle.assignment.proofs.Moves.{moved-first, moved-more, unmoved-item, unmoved-place}
use Rattle.assignment.proofs.standing.shift.Goals as goal

pub loop-place-init : goal.loop-place-init
loop-place-init c =
    let near = c.requires.movable.near_items (number_at c.args.members.now 0) in
    let f : FitsSigned w64 (price_at c.args.items.now (number_at c.args.members.now 0)) = omega (arith, ints, near.above, near.below) in
    rw (to_z-of_z w64 c.args.by c.ranges.by, c.from.ensures)
    (moved-first c.args.by c.args.stands.now c.args.members.now c.args.items.now c.args.places.now _ (c.requires.movable.known 0 c.requires.movable.some)
    (omega (arith, ints, near.above, near.below)))

pub overflow_add-items-in-loop-place : goal.overflow_add-items-in-loop-place
overflow_add-items-in-loop-place c =
    let near = c.requires.movable.near_items (number_at c.args.members.now c.loop-place.place) in
    let same = unmoved-item c.args.by c.args.stands.now c.args.members.now c.loop-place.place c.args.items.now c.args.places.now c.loop-place.items c.loop-place.places
    (rw (to_z-of_z w64 c.args.by c.ranges.by) at c.loop-place.invariant) c.requires.movable.apart c.requires.movable.stands_apart (omega arith) (omega arith) c.requires.movable.entered
    (c.requires.movable.known c.loop-place.place (omega arith)) (c.requires.movable.known_places _ (c.requires.movable.entered c.loop-place.place (omega arith) (omega arith))) in
    let f : FitsSigned w64 (price_at c.loop-place.items (number_at c.args.members.now c.loop-place.place)) = omega (arith, ints, near.above, near.below, same) in
    rw c.from-member.ensures (omega (arith, ints, near.above, near.below, same, f))

pub overflow_sub-places : goal.overflow_sub-places
overflow_sub-places c =
    let m = number_at c.args.members.now c.loop-place.place in
    let near = c.requires.movable.near_places (number_at c.args.stands.now m) in
    let same = unmoved-place c.args.by c.args.stands.now c.args.members.now c.loop-place.place c.args.items.now c.args.places.now c.loop-place.items c.loop-place.places
    (rw (to_z-of_z w64 c.args.by c.ranges.by) at c.loop-place.invariant) c.requires.movable.apart c.requires.movable.stands_apart (omega arith) (omega arith) c.requires.movable.entered
    (c.requires.movable.known c.loop-place.place (omega arith)) (c.requires.movable.known_places _ (c.requires.movable.entered c.loop-place.place (omega arith) (omega arith))) in
    let f : FitsSigned w64 (price_at c.loop-place.places (number_at c.args.stands.now m)) = omega (arith, ints, near.above, near.below, same) in
    rw (c.from-position.ensures, c.from-member.ensures) (omega (arith, ints, near.above, near.below, same, f))

pub loop-place-preserved : goal.loop-place-preserved
loop-place-preserved c =
    let m = number_at c.args.members.now c.loop-place.place in
    let known = c.requires.movable.known c.loop-place.place (omega arith) in
    let known_place = c.requires.movable.known_places m (c.requires.movable.entered c.loop-place.place (omega arith) (omega arith)) in
    let near_item = c.requires.movable.near_items m in
    let near_place = c.requires.movable.near_places (number_at c.args.stands.now m) in
    let same_item = unmoved-item c.args.by c.args.stands.now c.args.members.now c.loop-place.place c.args.items.now c.args.places.now c.loop-place.items c.loop-place.places
    (rw (to_z-of_z w64 c.args.by c.ranges.by) at c.loop-place.invariant) c.requires.movable.apart c.requires.movable.stands_apart (omega arith) (omega arith) c.requires.movable.entered known known_place in
    let same_place = unmoved-place c.args.by c.args.stands.now c.args.members.now c.loop-place.place c.args.items.now c.args.places.now c.loop-place.items c.loop-place.places
    (rw (to_z-of_z w64 c.args.by c.ranges.by) at c.loop-place.invariant) c.requires.movable.apart c.requires.movable.stands_apart (omega arith) (omega arith) c.requires.movable.entered known known_place in
    rw (to_z-of_z w64 c.args.by c.ranges.by, c.from-position.ensures, c.from-member.ensures)
    (moved-more c.args.by c.args.stands.now c.args.members.now c.loop-place.place c.args.items.now c.args.places.now c.loop-place.items c.loop-place.places
    (rw (to_z-of_z w64 c.args.by c.ranges.by) at c.loop-place.invariant) c.requires.movable.apart c.requires.movable.stands_apart (omega arith) (omega arith) c.requires.movable.entered known known_place _ _
    (omega (arith, ints, near_item.above, near_item.below, same_item)) (omega (arith, ints, near_place.above, near_place.below, same_place)))

pub returns : goal.returns
returns c = let end : c.loop-place.place ≡ length c.args.members.now = omega arith in
    rw (← end) (rw (to_z-of_z w64 c.args.by c.ranges.by) at c.loop-place.invariant)
