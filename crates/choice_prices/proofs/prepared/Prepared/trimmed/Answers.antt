use Rattle.std.proofs.Common.{◌≡◌, ℤ, ◌-ℤ◌, to_z, of_z, map, ap, ◌∙◌, arith}
use Rattle.std.specs.Int.{w128}
use Rattle.std.proofs.lemmas.Int.{ints}
use Rattle.hold_limits.specs.BranchOrder.{ordered}
use Rattle.position_set.specs.Sets.{members}
use Rattle.price_trees.specs.Narrowing.{goal as goal_of, cheap}
use Rattle.price_trees.specs.Prices.{candidates, value}
use Rattle.choice_prices.specs.Pricing.{ticks_of}
use Rattle.choice_prices.specs.Ready.{prices_in}
use Rattle.choice_prices.proofs.ValueLemmas.{cheap-are}
use Rattle.choice_prices.proofs.prepared.Prepared.trimmed.Goals as goal

pub returns : goal.returns
returns c =
    let p = c.args.self.now in
    let t = p.task.now in
    let v = prices_in p in
    let sets = c.args.sets.now in
    let slack : ℤ = to_z w128 (of_z w128 (to_z w128 (of_z w128 c.goal.result) -ℤ to_z w128 (of_z w128 c.value.result))) in
    let is : slack ≡ goal_of (ticks_of c.args.ticks) v.end -ℤ value t (map members sets) v = omega (arith, ints, c.goal.ensures.value, c.goal.ensures.bounded, c.value.ensures.value, c.value.ensures.bounded) in
    rw c.as_slice.ensures.value at c.cheap_sets.ensures
    ∙ cheap-are t.hold v p.tariffs.items c.requires.tariffs _ (ordered t.items) sets
    ∙ ap (λ s. cheap t.hold v s (candidates t (map members sets))) is
