use Rattle.std.proofs.Common.{ℤ, arith, pos, ◌*ℤ◌, if◌then◌else◌}
use Rattle.std.proofs.lemmas.Int.{ints}
use Rattle.base_words.proofs.SignedSums.{int_sum_by-more}
use Rattle.choice_prices.specs.Listing.{clique_places}
use Rattle.hold_parts.specs.Limits.{is_listed}
use Rattle.tree_certificate.specs.declared.parts.Price.{Price}
use Rattle.choice_prices.proofs.tariff.clique_prices.Goals as goal

pub loop-price-preserved : goal.loop-price-preserved
loop-price-preserved c =
    let f : Price → ℤ = λ p. pos p.price *ℤ pos (if is_listed (clique_places c.args.cliques.now p.of) c.args.position then 1 else 0) in
    let none : Price = record { of = 0; price = 0 } in
    let more = int_sum_by-more f c.args.prices.now c.loop-price.price-index none c.loop-price-test.true in
    let here = c.clique_price-sum.ensures in
    record {
      value = omega (arith, ints, more, here.value, here.bounded);
      bounded = omega (arith, ints, here.bounded);
    }
