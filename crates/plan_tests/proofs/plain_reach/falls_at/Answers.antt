use Rattle.std.proofs.Common.{◌<◌, ◌&&◌, Bool, nat_le, length, arith, sym, ◌∙◌, refl}
use Rattle.std.proofs.lemmas.List.Folds.{list_any_at, list_any_none}
use borrow.Author.Count.{below_more}
use Rattle.hold_parts.specs.Twins.{are_twins}
use Rattle.hold_limits.specs.Placement.{Placed, placed}
use Rattle.hold_limits.proofs.PlacedLemmas.{get_or-placed, length-placed}
use Rattle.plan_tests.proofs.plain_reach.falls_at.Goals as goal

pub returns-then-is_twin_from : goal.returns-then-is_twin_from
returns-then-is_twin_from c =
    let t = c.args.task.now in
    let prefix = c.args.prefix.now in
    let rank = c.loop-rank.rank in
    let test : Placed → Bool = λ p. are_twins p.0 c.args.item.now && nat_le c.args.number p.1 in
    let d : Placed = (c.at_rank.result.now, 0) in
    let inside : rank < length (placed t prefix) = omega (arith, length-placed t prefix c.requires) in
    let here = get_or-placed t prefix rank _ c.at_rank.result.now d c.requires c.loop-rank-test.true c.at_rank.ensures.value refl in
    sym (list_any_at test (placed t prefix) rank d inside (rw here (sym c.is_twin_from.ensures ∙ c.if-is_twin_from.true)))

pub loop-rank-preserved : goal.loop-rank-preserved
loop-rank-preserved c =
    let t = c.args.task.now in
    let prefix = c.args.prefix.now in
    below_more _ _ c.loop-rank.invariant
    (λ (d : Placed).
    rw (get_or-placed t prefix c.loop-rank.rank _ c.at_rank.result.now d c.requires c.loop-rank-test.true c.at_rank.ensures.value refl)
    (sym c.is_twin_from.ensures ∙ c.if-is_twin_from.false))

pub returns : goal.returns
returns c =
    let counted = length-placed c.args.task.now c.args.prefix.now c.requires in
    sym (list_any_none (λ (p : Placed). are_twins p.0 c.args.item.now && nat_le c.args.number p.1) (placed c.args.task.now c.args.prefix.now)
    (λ k d within. c.loop-rank.invariant k (omega arith) d))
