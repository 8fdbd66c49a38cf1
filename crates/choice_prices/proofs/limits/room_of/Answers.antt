use Rattle.std.proofs.Common.{◌≡◌, ◌∙◌, pos, ap, arith}
use Rattle.std.proofs.lemmas.Int.{ints}
use Rattle.hold_parts.specs.Limits.{is_limited, most_of}
use Rattle.hold_limits.specs.Placement.{loose_load}
use Rattle.price_trees.specs.Prices.{stock}
use Rattle.choice_prices.specs.declared.limits.PricedLimit.TheVariants as priced
use Rattle.choice_prices.specs.Tariffs.{resource_of}
use Rattle.choice_prices.proofs.LimitLemmas.{room-mass}
use Rattle.choice_prices.proofs.limits.room_of.Goals as goal

pub returns-in-Mass-clause-value : goal.returns-in-Mass-clause-value
returns-in-Mass-clause-value c choice =
    let t = c.args.task.now in
    let limit = c.in-Mass.limit in
    let most : c.from.result ≡ pos (most_of limit) = c.from.ensures ∙ ap pos c.most.ensures in
    let load : c.from-in-Mass.result ≡ pos (loose_load (is_limited limit) t.loose) = c.from-in-Mass.ensures ∙ ap pos c.load_loose.ensures.value in
    let room : stock t choice (resource_of c.args.limit.now) ≡ stock t choice (resource_of (priced.Mass limit)) = ap (λ l. stock t choice (resource_of l)) c.in-Mass.is in
    omega (arith, ints, room-mass t choice limit, most, load, room, c.from.ensures, c.from-in-Mass.ensures, c.most.type_inv, c.load_loose.type_inv)
