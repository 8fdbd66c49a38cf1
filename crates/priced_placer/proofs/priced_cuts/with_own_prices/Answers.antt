use Rattle.std.proofs.Common.{◌∙◌}
use Rattle.priced_placer.proofs.PricedCuts.{moved-priced}
use Rattle.priced_placer.proofs.priced_cuts.with_own_prices.Goals as goal

pub returns-clause-priced : goal.returns-clause-priced
returns-clause-priced c =
    let moved = c.move_to.new.partial in
    moved-priced c.args.partial.now.task moved.task moved.prefix _ c.move_to.ensures.task
    (c.move_to.ensures.moved c.if-not-move_to.false ∙ c.as_slice.ensures.value)
    (record { prices = c.prices_of-prices.ensures.prices; tight = c.prices_of-prices.ensures.tight; none = c.prices_of-prices.ensures.none })
