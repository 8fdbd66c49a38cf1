use Rattle.std.proofs.Common.{pos, arith}
use Rattle.std.proofs.lemmas.Int.{ints}
use Rattle.base_words.proofs.SignedSums.{int_sum_by-more}
use Rattle.assignment_prices.proofs.price_span.total_of.Goals as goal

pub loop-price-preserved : goal.loop-price-preserved
loop-price-preserved c =
    let index = c.loop-price.price-index in
    let more = int_sum_by-more (λ price. price) c.args.prices.now index (pos 0) c.loop-price-test.true in
    let small = c.requires.small index (pos 0) c.loop-price-test.true in
    record {
      value = omega (arith, ints, more, c.loop-price.invariant.value);
      bounded = omega (arith, ints, small, c.loop-price.invariant.bounded);
    }
