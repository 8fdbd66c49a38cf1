use Rattle.std.proofs.Common.{◌≡◌, [], ◌∷◌, ◌++◌, length, Some, sym, subst, arith}
use Rattle.std.proofs.lemmas.Int.{ints}
use Rattle.std.specs.Prelude.{slice_get}
use Rattle.hold_limits.specs.BranchOrder.{ordered}
use Rattle.hold_limits.specs.Placement.{placed_moment}
use Rattle.hold_reach.proofs.LoadLemmas.{mass-at}
use Rattle.hold_reach.proofs.ReachLemmas.{next-item, amounts-bounded}
use Rattle.hold_reach.specs.declared.extent.Extent.TheVariants.{Reach}
use Rattle.hold_partial.proofs.AheadLemmas.{reach-from_ahead, reach-without_twins}
use Rattle.hold_partial.proofs.board.Board.reach_ahead.Goals as goal

pub spares-requires-clause-ends : goal.spares-requires-clause-ends
spares-requires-clause-ends c =
    let b = c.args.self.now in
    let next = next-item b.task.now (length b.prefix.items) c.requires.short in
    (c.requires.ahead next.0 next.1).known

pub plus-requires-clause-bounded : goal.plus-requires-clause-bounded
plus-requires-clause-bounded c =
    let b = c.args.self.now in
    let next = next-item b.task.now (length b.prefix.items) c.requires.short in
    let bound = (c.requires.ahead next.0 next.1).bounded in
    (omega (arith, bound.0), omega (arith, bound.1))

pub returns-then-ahead-eq0-clause-value : goal.returns-then-ahead-eq0-clause-value
returns-then-ahead-eq0-clause-value c =
    let b = c.args.self.now in
    let t = b.task.now in
    let next = next-item t (length b.prefix.items) c.requires.short in
    let moment : c.added_on.result ≡ placed_moment t.hold (next.0, c.args.position) = c.added_on.ensures.value next.0 next.1 in
    let low : c.at-added.result.low ≡ placed_moment t.hold (next.0, c.args.position) = omega (arith, ints, c.at-added.ensures.low, c.added_on.ensures.bounded, moment) in
    let high : c.at-added.result.high ≡ placed_moment t.hold (next.0, c.args.position) = omega (arith, ints, c.at-added.ensures.high, c.added_on.ensures.bounded, moment) in
    reach-without_twins t b.prefix.items next.0 c.args.position c.args.ahead.now c.at-added.result c.plus.result next.1 (c.requires.ahead next.0 next.1)
    (c.spares.ensures c.if-not-spares.false) c.if-ahead-eq0.true low high c.plus.ensures.low c.plus.ensures.high

pub reach_with-requires-clause-few : goal.reach_with-requires-clause-few
reach_with-requires-clause-few c =
    let b = c.args.self.now in
    let next = next-item b.task.now (length b.prefix.items) c.requires.short in
    (c.requires.ahead next.0 next.1).few

pub reach_with-requires-clause-bounded : goal.reach_with-requires-clause-bounded
reach_with-requires-clause-bounded c =
    let b = c.args.self.now in
    let next = next-item b.task.now (length b.prefix.items) c.requires.short in
    (c.requires.ahead next.0 next.1).bounded

pub reach_with-requires-clause-twin_bounded : goal.reach_with-requires-clause-twin_bounded
reach_with-requires-clause-twin_bounded c =
    let b = c.args.self.now in
    let t = b.task.now in
    let next = next-item t (length b.prefix.items) c.requires.short in
    let at_next = subst (λ n. slice_get (ordered t.items) n ≡ Some next.0) (sym c.len.ensures.value) next.1 in
    let light = mass-at t c.requires.kept.lawful (length b.prefix.items) next.0 c.requires.short next.1 in
    amounts-bounded Reach t (b.prefix.items ++ c.args.position ∷ []) next.0 c.in_ok-each_twin.each_twin c.requires.kept.lawful light (c.in_ok-each_twin.ensures next.0 at_next)

pub returns-clause-value : goal.returns-clause-value
returns-clause-value c =
    let b = c.args.self.now in
    let t = b.task.now in
    let next = next-item t (length b.prefix.items) c.requires.short in
    let at_next = subst (λ n. slice_get (ordered t.items) n ≡ Some next.0) (sym c.len.ensures.value) next.1 in
    let moment : c.added_on.result ≡ placed_moment t.hold (next.0, c.args.position) = c.added_on.ensures.value next.0 next.1 in
    let low : c.at-added.result.low ≡ placed_moment t.hold (next.0, c.args.position) = omega (arith, ints, c.at-added.ensures.low, c.added_on.ensures.bounded, moment) in
    let high : c.at-added.result.high ≡ placed_moment t.hold (next.0, c.args.position) = omega (arith, ints, c.at-added.ensures.high, c.added_on.ensures.bounded, moment) in
    reach-from_ahead t b.prefix.items next.0 c.args.position c.args.ahead.now c.at-added.result c.in_ok-each_twin.each_twin c.reach_with.result next.1 (c.requires.ahead next.0 next.1)
    (c.spares.ensures c.if-not-spares.false) (λ _. c.in_ok-each_twin.ensures next.0 at_next) low high c.reach_with.ensures.low c.reach_with.ensures.high

pub returns-then-ahead-eq0-clause-bounded : goal.returns-then-ahead-eq0-clause-bounded
returns-then-ahead-eq0-clause-bounded c =
    let b = c.args.self.now in
    let next = next-item b.task.now (length b.prefix.items) c.requires.short in
    let bound = (c.requires.ahead next.0 next.1).bounded in (
      omega (arith, ints, bound.0, c.at-added.ensures.low, c.added_on.ensures.bounded, c.plus.ensures.low),
      omega (arith, ints, bound.1, c.at-added.ensures.high, c.added_on.ensures.bounded, c.plus.ensures.high),
    )
