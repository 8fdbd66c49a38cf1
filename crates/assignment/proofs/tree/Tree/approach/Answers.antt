use Rattle.std.proofs.Common.{FitsSigned, w64, to_z, of_z, refl, arith, rules}
use Rattle.std.specs.Prelude.{◌-ℤ◌}
use Rattle.std.proofs.lemmas.Int.{ints, to_z-of_z}
use Rattle.assignment.proofs.Bounds.{can-move}
use Rattle.assignment.proofs.Approaches.{its-gap, step-up, step-small, approached-tree, approached-gaps, approached-tight}
use Rattle.assignment.proofs.tree.Tree.approach.Goals as goal

pub overflow_sub-nearest : goal.overflow_sub-nearest
overflow_sub-nearest c =
    let up = step-up c.args.standing.now c.args.self.now c.args.nearest.now c.requires.tree c.requires.gaps c.requires.nearest in
    let small = step-small c.args.standing.now c.args.self.now c.args.nearest.now c.requires.tree c.requires.gaps c.requires.nearest in
    let key : FitsSigned w64 c.args.nearest.now.gap.key = search rules in
    let moved : FitsSigned w64 c.args.self.now.moved = search rules in
    omega (arith, ints, up, small)

pub move_prices-requires-clause-movable : goal.move_prices-requires-clause-movable
move_prices-requires-clause-movable c = rw c.as_slice.ensures.value (can-move c.args.standing.now c.args.self.now c.requires.tree)

pub move_prices-requires-clause-by : goal.move_prices-requires-clause-by
move_prices-requires-clause-by c =
    let up = step-up c.args.standing.now c.args.self.now c.args.nearest.now c.requires.tree c.requires.gaps c.requires.nearest in
    let small = step-small c.args.standing.now c.args.self.now c.args.nearest.now c.requires.tree c.requires.gaps c.requires.nearest in
    let key : FitsSigned w64 c.args.nearest.now.gap.key = search rules in
    let moved : FitsSigned w64 c.args.self.now.moved = search rules in
    record { above = omega (arith, ints, up, small); below = omega (arith, ints, up, small) }

pub returns-clause-tree : goal.returns-clause-tree
returns-clause-tree c =
    let up = step-up c.args.standing.now c.args.self.now c.args.nearest.now c.requires.tree c.requires.gaps c.requires.nearest in
    let small = step-small c.args.standing.now c.args.self.now c.args.nearest.now c.requires.tree c.requires.gaps c.requires.nearest in
    let key : FitsSigned w64 c.args.nearest.now.gap.key = search rules in
    let moved : FitsSigned w64 c.args.self.now.moved = search rules in
    let by : FitsSigned w64 (c.args.nearest.now.gap.key -ℤ c.args.self.now.moved) = omega (arith, ints, up, small) in
    approached-tree c.args.standing.now c.move_prices.new.self c.args.self.now (record c.args.self.now { moved = to_z w64 (of_z w64 c.args.nearest.now.gap.key) }) c.args.nearest.now
    c.requires.tree c.requires.gaps c.requires.nearest (rw (to_z-of_z w64 c.args.nearest.now.gap.key key, to_z-of_z w64 c.args.self.now.moved moved, to_z-of_z w64 (c.args.nearest.now.gap.key -ℤ c.args.self.now.moved) by, c.as_slice.ensures.value) at c.move_prices.ensures.moved) c.move_prices.ensures.costs c.move_prices.ensures.stands
    refl refl refl refl (to_z-of_z w64 c.args.nearest.now.gap.key key)

pub returns-clause-gaps : goal.returns-clause-gaps
returns-clause-gaps c =
    let up = step-up c.args.standing.now c.args.self.now c.args.nearest.now c.requires.tree c.requires.gaps c.requires.nearest in
    let small = step-small c.args.standing.now c.args.self.now c.args.nearest.now c.requires.tree c.requires.gaps c.requires.nearest in
    let key : FitsSigned w64 c.args.nearest.now.gap.key = search rules in
    let moved : FitsSigned w64 c.args.self.now.moved = search rules in
    let by : FitsSigned w64 (c.args.nearest.now.gap.key -ℤ c.args.self.now.moved) = omega (arith, ints, up, small) in
    approached-gaps c.args.standing.now c.move_prices.new.self c.args.self.now (record c.args.self.now { moved = to_z w64 (of_z w64 c.args.nearest.now.gap.key) }) c.args.nearest.now
    c.requires.tree c.requires.gaps c.requires.nearest (rw (to_z-of_z w64 c.args.nearest.now.gap.key key, to_z-of_z w64 c.args.self.now.moved moved, to_z-of_z w64 (c.args.nearest.now.gap.key -ℤ c.args.self.now.moved) by, c.as_slice.ensures.value) at c.move_prices.ensures.moved) c.move_prices.ensures.costs c.move_prices.ensures.stands
    refl refl refl refl (to_z-of_z w64 c.args.nearest.now.gap.key key)

pub returns-clause-tight : goal.returns-clause-tight
returns-clause-tight c =
    let up = step-up c.args.standing.now c.args.self.now c.args.nearest.now c.requires.tree c.requires.gaps c.requires.nearest in
    let small = step-small c.args.standing.now c.args.self.now c.args.nearest.now c.requires.tree c.requires.gaps c.requires.nearest in
    let key : FitsSigned w64 c.args.nearest.now.gap.key = search rules in
    let moved : FitsSigned w64 c.args.self.now.moved = search rules in
    let by : FitsSigned w64 (c.args.nearest.now.gap.key -ℤ c.args.self.now.moved) = omega (arith, ints, up, small) in
    approached-tight c.args.standing.now c.move_prices.new.self c.args.self.now (record c.args.self.now { moved = to_z w64 (of_z w64 c.args.nearest.now.gap.key) }) c.args.nearest.now
    c.requires.tree c.requires.gaps c.requires.nearest (rw (to_z-of_z w64 c.args.nearest.now.gap.key key, to_z-of_z w64 c.args.self.now.moved moved, to_z-of_z w64 (c.args.nearest.now.gap.key -ℤ c.args.self.now.moved) by, c.as_slice.ensures.value) at c.move_prices.ensures.moved) c.move_prices.ensures.costs c.move_prices.ensures.stands
    refl refl refl refl (to_z-of_z w64 c.args.nearest.now.gap.key key)

pub returns-clause-known : goal.returns-clause-known
returns-clause-known c = (its-gap c.args.standing.now c.args.self.now c.args.nearest.now c.requires.tree c.requires.gaps c.requires.nearest).known
