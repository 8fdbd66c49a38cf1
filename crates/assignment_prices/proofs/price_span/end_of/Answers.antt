use Rattle.std.proofs.Common.{◌+ℤ◌, ap₂, ◌∙◌, arith}
use Rattle.std.proofs.lemmas.Int.{ints}
use Rattle.hold_limits.specs.Placement.{hold_index}
use Rattle.hold_limits.proofs.LawfulBounds.{lawful-bounds}
use Rattle.assignment_prices.proofs.SpanLemmas.{length-remaining, sums-fit}
use Rattle.assignment_prices.proofs.price_span.end_of.Goals as goal

pub total_of-requires-clause-few : goal.total_of-requires-clause-few
total_of-requires-clause-few c =
    let t = c.args.partial.now.task in
    let few = (lawful-bounds t c.task.ensures.lawful).items in
    let bound = c.bound_end.ensures.0 c.if-not-bound_end.false in
    omega (arith, few, bound.whole.one_each, length-remaining t c.args.partial.now.prefix)

pub returns-clause-found : goal.returns-clause-found
returns-clause-found c =
    let so_far = c.hold_index_of-so_far.ensures in (
      c.bound_end.ensures.0 c.if-not-bound_end.false,
      sums-fit c.hold_index_of-so_far.result.0 c.total_of.result c.total_of-2.result so_far.bounded c.total_of.ensures.bounded c.total_of-2.ensures.bounded
          ∙ ap₂ (λ a b. a +ℤ b) (so_far.value ∙ ap₂ hold_index c.task.ensures.value c.prefix.ensures.value) (ap₂ (λ a b. a +ℤ b) c.total_of.ensures.value c.total_of-2.ensures.value),
    )

pub returns-clause-bounded : goal.returns-clause-bounded
returns-clause-bounded c =
    let so_far = c.hold_index_of-so_far.ensures in
    rw (sums-fit c.hold_index_of-so_far.result.0 c.total_of.result c.total_of-2.result so_far.bounded c.total_of.ensures.bounded c.total_of-2.ensures.bounded)
    (omega (arith, ints, so_far.bounded, c.total_of.ensures.bounded, c.total_of-2.ensures.bounded))
