use Rattle.std.proofs.Common.{◌≤◌, length, map, ap, ◌∙◌, arith, rules}
use Rattle.std.proofs.lemmas.List.{take_all}
use Rattle.hold_limits.specs.BranchOrder.{ordered}
use Rattle.hold_limits.proofs.BranchOrderLemmas.{length-ordered}
use Rattle.hold_limits.proofs.LawfulBounds.{lawful-bounds}
use Rattle.hold_limits.specs.Twins.{first_twin}
use Rattle.hold_choices.proofs.ListLemmas.{map-more}
use Rattle.hold_choices.proofs.conflicts.classes_of.Goals as goal

pub push-requires : goal.push-requires
push-requires c =
    let few = (lawful-bounds c.args.task.now c.at_rank.ensures.lawful).items in
    (search rules, omega (arith, ap length c.items-rank-end.ensures.value))

pub loop-rank-preserved : goal.loop-rank-preserved
loop-rank-preserved c =
    let t = c.args.task.now in
    record {
      count = omega (arith, c.push.ensures.len, c.loop-rank.invariant.count);
      items = c.push.ensures.items ∙ map-more (first_twin t) (ordered t.items) c.loop-rank.rank c.at_rank.result.now _ c.first_twin.result c.at_rank.ensures.value c.loop-rank.invariant.items c.first_twin.ensures;
    }

pub returns : goal.returns
returns c =
    let t = c.args.task.now in
    let end : length (ordered t.items) ≤ c.loop-rank.rank = omega (arith, ap length c.items-rank-end.ensures.value, length-ordered t.items) in
    c.loop-rank.invariant.items ∙ ap (map (first_twin t)) (take_all c.loop-rank.rank (ordered t.items) end)
