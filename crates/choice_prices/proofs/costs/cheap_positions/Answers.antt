use Rattle.std.proofs.Common.{◌≡◌, ◌-ℤ◌, to_z, of_z, map, ap, ap₂, ◌∙◌, arith}
use Rattle.std.specs.Int.{w128}
use Rattle.std.specs.Prelude.{int_le}
use Rattle.std.specs.List.{filter}
use Rattle.std.proofs.lemmas.Int.{ints}
use Rattle.hold_reach.specs.Reach.{least}
use Rattle.position_set.specs.Sets.{members}
use Rattle.position_set.proofs.MemberLemmas.{members-none}
use Rattle.choice_prices.specs.Tariffs.{cost_by}
use Rattle.choice_prices.proofs.CostLemmas.{sifted-start, sifted-more, sifted-all}
use Rattle.choice_prices.proofs.costs.cheap_positions.Goals as goal

pub loop-position-init : goal.loop-position-init
loop-position-init c = sifted-start _ c.args.set c.empty-cheap.result c.empty-cheap.ensures (members-none c.empty-cheap.result c.empty-cheap.ensures)

pub loop-position-preserved : goal.loop-position-preserved
loop-position-preserved c =
    let took = c.in-Some.ensures in
    let cost = c.cost_on.ensures in
    let lowest = c.least_cost-least.ensures in
    let over : to_z w128 (of_z w128 (to_z w128 (of_z w128 c.cost_on.result) -ℤ to_z w128 (of_z w128 c.least_cost-least.result))) ≡ cost_by c.args.tariffs.now c.args.mass.0 c.in-Some.position -ℤ to_z w128 (of_z w128 c.least_cost-least.result) =
    omega (arith, ints, cost.value, cost.bounded, lowest.bounded) in
    sifted-more _ c.args.set c.loop-position.rest c.take_first.new.self c.loop-position.cheap c.with_if-cheap.result c.in-Some.position _ c.loop-position.invariant took.0 took.1
    (ap (λ x. int_le x (to_z w128 (of_z w128 c.args.slack))) over) c.with_if-cheap.ensures

pub returns : goal.returns
returns c =
    let lowest = c.least_cost-least.ensures in
    let cost = cost_by c.args.tariffs.now c.args.mass.0 in
    let is : to_z w128 (of_z w128 c.least_cost-least.result) ≡ least (map cost (members c.args.set)) = omega (arith, ints, lowest.value, lowest.bounded) in
    let slack : to_z w128 (of_z w128 c.args.slack) ≡ c.args.slack = omega (arith, ints, c.ranges.slack.sfits) in
    sifted-all _ c.args.set c.loop-position.rest c.loop-position.cheap c.loop-position.invariant c.in_default.ensures
    ∙ ap₂ (λ lowest slack. filter (λ p. int_le (cost p -ℤ lowest) slack) (members c.args.set)) is slack
