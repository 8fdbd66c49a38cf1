use Rattle.std.proofs.Common.{sym, subst}
use Rattle.hold_partial.specs.Placing.{Placing}
use Rattle.assignment_prices.specs.TightReach.{AllowsTightly}
use Rattle.tight_bracket.proofs.BracketLemmas.{around-ends, sum-fits, difference-fits}
use Rattle.tight_bracket.proofs.bracket.Bracket.around.Goals as goal

pub returns-clause-around : goal.returns-clause-around
returns-clause-around c index given =
    let drafts = c.self.invariant in
    let here = subst (λ (p : Placing). AllowsTightly p.task p.prefix index) (sym c.self.view_is) given in
    let low = sum-fits c.self.inside.index c.least.result drafts.small c.least.ensures.bounded in
    let high = difference-fits c.self.inside.index c.least-2.result drafts.small c.least-2.ensures.bounded in
    rw (low, high, drafts.so_far)
    (around-ends c.self.inside.task.now c.self.inside.prefix.items c.self.inside.low c.self.inside.high drafts.low_end drafts.high_end c.least.result c.least-2.result index c.least.ensures.least c.least-2.ensures.least here)
