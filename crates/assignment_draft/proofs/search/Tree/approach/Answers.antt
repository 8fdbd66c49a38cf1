use Rattle.std.proofs.Common.{w64, arith}
use Rattle.std.specs.Prelude.{◌-ℤ◌, ◌+ℤ◌}
use Rattle.std.proofs.lemmas.Int.{ints, to_z-of_z}
use Rattle.assignment.specs.Tables.{IsWithin}
use Rattle.assignment_draft.specs.Trees.{most_moved}
use Rattle.assignment_draft.proofs.NearNumbers.{read}
use Rattle.assignment_draft.proofs.TreeSteps.{room-near, moved-near, can-lift, tree-moved}
use Rattle.assignment_draft.proofs.search.Tree.approach.Goals as goal

pub lower_reached-requires-clause-room : goal.lower_reached-requires-clause-room
lower_reached-requires-clause-room c =
    let room = room-near c.args.prices.now c.args.self.now c.requires.tree in
    let most = rw (read most_moved c.args.self.now.room (omega arith) room) at c.up_to-by.ensures.most in
    let by : IsWithin most_moved c.up_to-by.result = record { above = omega (arith, ints, c.up_to-by.ensures.low); below = omega (arith, ints, most, room.below) } in
    rw (read most_moved c.up_to-by.result (omega arith) by) (λ q there. let place = c.requires.tree.place_room q there in omega (arith, ints, place, most))

pub lift_members-requires-clause-room : goal.lift_members-requires-clause-room
lift_members-requires-clause-room c =
    let room = room-near c.args.prices.now c.args.self.now c.requires.tree in
    let most = rw (read most_moved c.args.self.now.room (omega arith) room) at c.up_to-by.ensures.most in
    let by : IsWithin most_moved c.up_to-by.result = record { above = omega (arith, ints, c.up_to-by.ensures.low); below = omega (arith, ints, most, room.below) } in
    rw (read most_moved c.up_to-by.result (omega arith) by, c.lower_reached.ensures.items) (λ n member. let item = c.requires.tree.item_room n member in omega (arith, ints, item, most))

pub lift_members-requires-clause-bound : goal.lift_members-requires-clause-bound
lift_members-requires-clause-bound c =
    let prices = c.args.prices.now in
    let tree = c.args.self.now in
    let room = room-near prices tree c.requires.tree in
    let moved = moved-near prices tree c.requires.tree in
    let most = rw (read most_moved tree.room (omega arith) room) at c.up_to-by.ensures.most in
    let by : IsWithin most_moved c.up_to-by.result = record { above = omega (arith, ints, c.up_to-by.ensures.low); below = omega (arith, ints, most, room.below) } in
    let way : IsWithin 12000000000000 (c.args.gap -ℤ tree.moved) = record { above = omega (arith, ints, c.requires.near.above, moved.below); below = omega (arith, ints, c.requires.near.below, moved.above) } in
    let much = rw (to_z-of_z w64 c.args.gap c.ranges.gap, read most_moved tree.moved (omega arith) moved, read 12000000000000 (c.args.gap -ℤ tree.moved) (omega arith) way) at c.up_to-by.ensures.much in
    rw (read most_moved c.up_to-by.result (omega arith) by)
    (can-lift prices tree c.args.gap c.up_to-by.result c.requires.sound c.requires.tree c.requires.limit c.requires.least much c.lower_reached.new.prices
    (rw (read most_moved c.up_to-by.result (omega arith) by) at c.lower_reached.ensures))

pub returns-clause-tree : goal.returns-clause-tree
returns-clause-tree c =
    let prices = c.args.prices.now in
    let tree = c.args.self.now in
    let room = room-near prices tree c.requires.tree in
    let moved = moved-near prices tree c.requires.tree in
    let most = rw (read most_moved tree.room (omega arith) room) at c.up_to-by.ensures.most in
    let by : IsWithin most_moved c.up_to-by.result = record { above = omega (arith, ints, c.up_to-by.ensures.low); below = omega (arith, ints, most, room.below) } in
    let further : IsWithin most_moved (tree.moved +ℤ c.up_to-by.result) =
    record { above = omega (arith, ints, moved.above, c.up_to-by.ensures.low, c.requires.tree.moved_low); below = omega (arith, ints, c.requires.tree.room_high, most) } in
    let left : IsWithin most_moved (tree.room -ℤ c.up_to-by.result) =
    record { above = omega (arith, ints, most); below = omega (arith, ints, room.below, c.up_to-by.ensures.low) } in
    rw (
      read most_moved tree.moved (omega arith) moved,
      read most_moved tree.room (omega arith) room,
      read most_moved c.up_to-by.result (omega arith) by,
      read most_moved (tree.moved +ℤ c.up_to-by.result) (omega arith) further,
      read most_moved (tree.room -ℤ c.up_to-by.result) (omega arith) left,
    )
    (tree-moved prices c.lower_reached.new.prices c.lift_members.new.prices tree c.up_to-by.result c.requires.tree c.up_to-by.ensures.low most
    (rw (read most_moved c.up_to-by.result (omega arith) by) at c.lower_reached.ensures) (rw (read most_moved c.up_to-by.result (omega arith) by) at c.lift_members.ensures))
