use Rattle.std.proofs.Common.{ℤ, arith, pos, ◌*ℤ◌}
use Rattle.std.proofs.lemmas.Int.{ints}
use Rattle.base_words.proofs.SignedSums.{int_sum_by-more}
use Rattle.choice_prices.specs.Listing.{limited_resource}
use Rattle.choice_prices.specs.Tariffs.{taken_by_mass}
use Rattle.tree_certificate.specs.declared.parts.Price.{Price}
use Rattle.choice_prices.proofs.tariff.limit_prices.Goals as goal

pub loop-price-preserved : goal.loop-price-preserved
loop-price-preserved c =
    let f : Price → ℤ = λ p. pos p.price *ℤ taken_by_mass c.args.hold.now (limited_resource c.args.hold.now p.of) c.args.position in
    let none : Price = record { of = 0; price = 0 } in
    let more = int_sum_by-more f c.args.prices.now c.loop-price.price-index none c.loop-price-test.true in
    let here = c.limit_price-sum.ensures in
    record {
      value = omega (arith, ints, more, here.value, here.bounded);
      bounded = omega (arith, ints, here.bounded);
    }
