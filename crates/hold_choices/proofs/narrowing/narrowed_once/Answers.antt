use Rattle.std.proofs.Common.{◌≡◌, ℕ, List, [], map, length, take, min, ap, sym, ◌∙◌, arith}
use Rattle.std.proofs.lemmas.List.{length-map, take-map}
use Rattle.hold_limits.specs.BranchOrder.{ordered}
use Rattle.hold_limits.proofs.BranchOrderLemmas.{length-ordered}
use Rattle.position_set.specs.declared.set.PositionSet.{PositionSet}
use Rattle.position_set.specs.Sets.{members}
use Rattle.price_trees.specs.Prices.{candidates}
use Rattle.price_trees.specs.Narrowing.{left_by, narrowed_once}
use Rattle.hold_choices.proofs.ListLemmas.{zip-take}
use Rattle.hold_choices.proofs.narrowing.narrowed_once.Goals as goal

pub returns : goal.returns
returns c =
    let t = c.args.task.now in
    let sets : List PositionSet = c.sets-sets.result.now in
    let count : ℕ = c.min-count.result in
    let enough : count ≡ min (length (map members sets)) (length (ordered t.items)) = omega (arith, c.min-count.ensures, length-map sets members, length-ordered t.items, ap length c.items.ensures.value) in
    let same : candidates t (map members (take count sets)) ≡ candidates t (map members sets) =
    ap (candidates t) (sym (take-map members count sets)) ∙ zip-take (ordered t.items) (map members sets) count enough in
    c.left_by_others.ensures
    ∙ ap (left_by t.hold []) same
    ∙ ap (narrowed_once t) c.sets-sets.ensures.sets
