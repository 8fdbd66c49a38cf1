use Rattle.std.proofs.Common.{◌≡◌, ◌+◌, ◌-◌, length, arith, refl, ap, ◌∙◌}
use Rattle.assignment.proofs.Bounds.{can-move}
use Rattle.assignment.proofs.Enters.{settled-again, moved-beyond, room-for}
use Rattle.assignment.proofs.hungarian.enter.Goals as goal

pub loop-init : goal.loop-init
loop-init c = record {
  tree = c.new-tree.ensures.tree;
  gaps = c.new-tree.ensures.gaps;
  count = c.new-tree.ensures.members;
  costs = refl;
  stands = refl;
}

pub nearest-requires-clause-tree : goal.nearest-requires-clause-tree
nearest-requires-clause-tree c = c.loop.invariant.tree

pub nearest-requires-clause-gaps : goal.nearest-requires-clause-gaps
nearest-requires-clause-gaps c =
    let count : c.loop.counter ≡ length c.loop.tree.members.items - 1 = omega (arith, c.loop.invariant.count) in
    rw (← count) c.loop.invariant.gaps

pub move_prices-requires-clause-movable : goal.move_prices-requires-clause-movable
move_prices-requires-clause-movable c = rw c.as_slice.ensures.value (can-move c.loop.standing c.nearest.new.self c.in_default.ensures.tree)

pub returns-in_default-clause-costs : goal.returns-in_default-clause-costs
returns-in_default-clause-costs c = c.move_prices.ensures.costs ∙ c.loop.invariant.costs

pub returns-in_default-clause-beyond : goal.returns-in_default-clause-beyond
returns-in_default-clause-beyond c = λ _.
    rw (← c.loop.invariant.costs)
    (moved-beyond c.loop.standing c.nearest.new.self c.in_default.ensures.tree (rw (← c.in_default.ensures.members) at c.in_default.ensures.gaps) c.in_default.ensures.nearest
    c.move_prices.new.self.items.items c.move_prices.new.self.places.items (rw c.as_slice.ensures.value at c.move_prices.ensures.moved))

pub join-requires-clause-room : goal.join-requires-clause-room
join-requires-clause-room c =
    room-for c.approach.new.standing c.approach.new.self c.in-Some.nearest c.in-Some-holder.holder c.approach.ensures.tree record {
      from = omega (arith, c.approach.ensures.known, ap length c.approach.ensures.members);
      fresh = c.approach.ensures.fresh;
      holds = c.in-Some-holder.ensures;
      tight = c.approach.ensures.tight;
    }

pub join-requires-clause-paired : goal.join-requires-clause-paired
join-requires-clause-paired c =
    let room = room-for c.approach.new.standing c.approach.new.self c.in-Some.nearest c.in-Some-holder.holder c.approach.ensures.tree record {
      from = omega (arith, c.approach.ensures.known, ap length c.approach.ensures.members);
      fresh = c.approach.ensures.fresh;
      holds = c.in-Some-holder.ensures;
      tight = c.approach.ensures.tight;
    } in
    omega (arith, room, c.approach.ensures.tree.branches.paired)

pub augment-requires-clause-entered : goal.augment-requires-clause-entered
augment-requires-clause-entered c = rw c.as_slice-in-None.ensures.value c.approach.ensures.tree.branches.entered

pub augment-requires-clause-earlier : goal.augment-requires-clause-earlier
augment-requires-clause-earlier c = rw (c.as_slice-in-None.ensures.value, c.as_slice-in-None-2.ensures.value) c.approach.ensures.tree.branches.earlier

pub returns-in-None-clause-costs : goal.returns-in-None-clause-costs
returns-in-None-clause-costs c = c.augment.ensures.costs ∙ c.approach.ensures.costs ∙ c.loop.invariant.costs

pub returns-in-None-clause-settled : goal.returns-in-None-clause-settled
returns-in-None-clause-settled c = λ _.
    let standing = c.approach.new.standing in
    let tree = c.approach.new.self in
    let grown = c.approach.ensures.tree in
    rw (← c.loop.invariant.costs, ← c.approach.ensures.costs)
    (settled-again standing tree grown c.in-Some.nearest.gap.member c.in-Some.nearest.position (omega (arith, c.approach.ensures.known, ap length c.approach.ensures.members)) c.approach.ensures.tight c.in-None.ensures
    c.augment.new.self.items.items c.augment.new.self.places.items c.augment.new.self.stands.items c.augment.ensures.items c.augment.ensures.places
    (c.augment.ensures.settled standing.costs grown.stands (rw (c.as_slice-in-None.ensures.value, c.as_slice-in-None-2.ensures.value) grown.branches) (rw c.as_slice-in-None.ensures.value c.approach.ensures.tight)
    c.in-None.ensures grown.room) c.augment.ensures.longer)

pub returns-in-None-clause-longer : goal.returns-in-None-clause-longer
returns-in-None-clause-longer c = λ _. let a = ap length (c.approach.ensures.stands ∙ c.loop.invariant.stands) in omega (arith, a, c.augment.ensures.longer)

pub loop-preserved : goal.loop-preserved
loop-preserved c =
    let members : length c.approach.new.self.members.items ≡ c.loop.counter + 1 = ap length (c.approach.ensures.members ∙ c.in-Some.ensures.members) ∙ c.loop.invariant.count in
    let before : length c.nearest.new.self.members.items ≡ c.loop.counter + 1 = ap length c.in-Some.ensures.members ∙ c.loop.invariant.count in
    record {
      tree = c.join.ensures.tree c.approach.new.standing c.approach.ensures.tree record {
        from = omega (arith, c.approach.ensures.known, ap length c.approach.ensures.members);
        fresh = c.approach.ensures.fresh;
        holds = c.in-Some-holder.ensures;
        tight = c.approach.ensures.tight;
      };
      gaps = rw (← members) (c.join.ensures.gaps c.approach.new.standing (rw (before, ← members) at c.approach.ensures.gaps));
      count = c.join.ensures.longer ∙ ap (λ n. n + 1) members;
      costs = c.approach.ensures.costs ∙ c.loop.invariant.costs;
      stands = c.approach.ensures.stands ∙ c.loop.invariant.stands;
    }

pub unreachable-requires : goal.unreachable-requires
unreachable-requires c = omega (arith, c.loop.invariant.count, c.loop.invariant.tree.branches.few)
