use Rattle.std.proofs.Common.{[], ◌∷◌, ◌++◌, sym, subst}
use Rattle.hold_limits.specs.Placement.{IsSound}
use Rattle.hold_limits.specs.Twins.{IsRising}
use Rattle.hold_partial.specs.Placing.{Placing}
use Rattle.assignment_prices.specs.TightReach.{AllowsTightly}
use Rattle.tight_bracket.proofs.BracketLemmas.{around-ends_on, sum-fits, difference-fits}
use Rattle.tight_bracket.proofs.bracket.Bracket.around_on.Goals as goal

pub returns-clause-around : goal.returns-clause-around
returns-clause-around c sound rising index given =
    let drafts = c.self.invariant in
    let q = c.args.number in
    let is_sound = subst (λ (p : Placing). IsSound p.task (p.prefix ++ q ∷ [])) (sym c.self.view_is) sound in
    let is_rising = subst (λ (p : Placing). IsRising p.task (p.prefix ++ q ∷ [])) (sym c.self.view_is) rising in
    let here = subst (λ (p : Placing). AllowsTightly p.task (p.prefix ++ q ∷ []) index) (sym c.self.view_is) given in
    let low = sum-fits c.self.inside.index c.least_on.result drafts.small c.least_on.ensures.bounded in
    let high = difference-fits c.self.inside.index c.least_on-2.result drafts.small c.least_on-2.ensures.bounded in
    rw (low, high, drafts.so_far)
    (around-ends_on c.self.inside.task.now c.self.inside.prefix.items c.self.inside.low c.self.inside.high drafts.low_end drafts.high_end q c.least_on.result c.least_on-2.result index c.least_on.ensures.least c.least_on-2.ensures.least is_sound is_rising here)
