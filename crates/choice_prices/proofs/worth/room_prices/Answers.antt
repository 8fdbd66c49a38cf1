use Rattle.std.proofs.Common.{ℤ, ap, ◌∙◌, arith, pos, ◌*ℤ◌}
use Rattle.std.proofs.lemmas.Int.{ints}
use Rattle.std.proofs.lemmas.List.{take_all}
use Rattle.base_words.specs.Lists.{int_sum_by}
use Rattle.base_words.proofs.SignedSums.{int_sum_by-more}
use Rattle.choice_prices.specs.Listing.{limited_resource}
use Rattle.price_trees.specs.Prices.{stock}
use Rattle.tree_certificate.specs.declared.parts.Price.{Price}
use Rattle.choice_prices.proofs.worth.room_prices.Goals as goal

pub loop-price-preserved : goal.loop-price-preserved
loop-price-preserved c =
    let none : Price = record { of = 0; price = 0 } in
    let here = c.room_price-sum.ensures in
    record {
      value = λ choice.
          let f : Price → ℤ = λ p. pos p.price *ℤ stock c.args.task.now choice (limited_resource c.args.task.now.hold p.of) in
          let more = int_sum_by-more f c.args.prices.now c.loop-price.price-index none c.loop-price-test.true in
          let so_far = c.loop-price.invariant.value choice in
          let next = here.value choice in
          omega (arith, ints, more, so_far, next, here.bounded);
      bounded = omega (arith, ints, here.bounded);
    }

pub returns-clause-value : goal.returns-clause-value
returns-clause-value c choice =
    let f : Price → ℤ = λ p. pos p.price *ℤ stock c.args.task.now choice (limited_resource c.args.task.now.hold p.of) in
    let all = take_all c.loop-price.price-index c.args.prices.now (omega (arith, c.loop-price-test.false)) in
    c.loop-price.invariant.value choice ∙ ap (int_sum_by f) all
