use Rattle.std.proofs.Common.{arith}
use Rattle.std.specs.Prelude.{pos, negsuc, ◌-ℤ◌, ◌≤ℤ◌}
use Rattle.std.proofs.lemmas.Int.{ints}
use Rattle.assignment.specs.Prices.{price_at}
use Rattle.assignment.specs.Tables.{IsWithin}
use Rattle.assignment_draft.specs.Trees.{most_moved}
use Rattle.assignment_draft.proofs.NearNumbers.{read, read-place}
use Rattle.assignment_draft.proofs.TreeSteps.{tree-reached, room-near}
use Rattle.assignment_draft.proofs.search.Tree.reach.Goals as goal

pub returns : goal.returns
returns c =
    let prices = c.args.prices.now in
    let tree = c.args.self.now in
    let position = c.args.position in
    let place = c.requires.sound.places position in
    let sign = c.requires.sound.lower.signs position in
    let room : IsWithin most_moved tree.room = room-near prices tree c.requires.tree in
    let own : IsWithin most_moved (price_at prices.places.items position -ℤ negsuc 999999999999) =
    record { above = omega (arith, ints, place.above); below = omega (arith, ints, sign) } in
    let lesser = rw (
      read most_moved tree.room (omega arith) room,
      c.deref.ensures.0,
      c.from.ensures,
      read-place prices c.requires.sound position,
      read most_moved (price_at prices.places.items position -ℤ negsuc 999999999999) (omega arith) own,
    ) at c.lesser-self.ensures in
    let low : pos 0 ≤ℤ c.lesser-self.result = lesser.greatest (pos 0) c.requires.tree.room_low (omega (arith, ints, place.above)) in
    let near : IsWithin most_moved c.lesser-self.result = record { above = omega (arith, ints, low); below = omega (arith, ints, lesser.one, room.below) } in
    rw (read most_moved c.lesser-self.result (omega arith) near)
    (tree-reached prices tree position c.without-self.result c.with-self.result c.lesser-self.result c.requires.tree c.requires.position c.without-self.ensures c.with-self.ensures
    low lesser.one (omega (arith, ints, lesser.other)))
