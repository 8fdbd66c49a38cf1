use Rattle.std.proofs.Common.{◌≡◌, ℤ, to_z, of_z, ◌+ℤ◌, ap₂, arith}
use Rattle.std.specs.Int.{w128}
use Rattle.std.proofs.lemmas.Int.{ints}
use Rattle.tree_certificate.specs.Listed.{listed_prices}
use Rattle.choice_prices.specs.Listing.{prices_of}
use Rattle.choice_prices.specs.Tariffs.{rate_at, fee_at}
use Rattle.choice_prices.proofs.TariffLemmas.{rate-listed, fee-listed}
use Rattle.choice_prices.proofs.tariff.tariff_on.Goals as goal

pub returns-clause-value : goal.returns-clause-value
returns-clause-value c =
    let hold = c.args.hold.now in
    let cliques = c.args.cliques.now in
    let list = listed_prices c.args.list.now in
    let influence = c.influence_from-by_influence.ensures in
    let limits = c.limit_prices-by_limits.ensures in
    let by_limits = rw c.as_slice.ensures.value at limits.value in
    let place = c.place_prices-by_place.ensures in
    let by_place = rw c.as_slice-2.ensures.value at place.value in
    let of_cliques = c.clique_prices-by_cliques.ensures in
    let by_cliques = rw c.as_slice-3.ensures.value at of_cliques.value in
    let rate : to_z w128 (of_z w128 (to_z w128 (of_z w128 c.influence_from-by_influence.result) +ℤ to_z w128 (of_z w128 c.limit_prices-by_limits.result))) ≡ rate_at hold (prices_of hold cliques list) c.args.position =
    omega (arith, ints, rate-listed hold cliques list c.args.position, influence.value, influence.bounded, by_limits, limits.bounded) in
    let fee : to_z w128 (of_z w128 (to_z w128 (of_z w128 c.place_prices-by_place.result) +ℤ to_z w128 (of_z w128 c.clique_prices-by_cliques.result))) ≡ fee_at (prices_of hold cliques list) c.args.position =
    omega (arith, ints, fee-listed hold cliques list c.args.position, by_place, place.bounded, by_cliques, of_cliques.bounded) in
    ap₂ (λ r f. record { rate = r; fee = f }) rate fee
