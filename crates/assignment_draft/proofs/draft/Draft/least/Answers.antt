use Rattle.assignment.specs.Costs.{MayStand, cost_in}
use Rattle.assignment.proofs.Ends.{lower-prices}
use Rattle.assignment.proofs.WeakDuality.{lower-bounds}
use Rattle.assignment_draft.specs.Drafts.{table}
use Rattle.assignment_draft.proofs.NearNumbers.{read}
use Rattle.std.proofs.Common.{arith}
use Rattle.assignment_draft.proofs.draft.Draft.least.Goals as goal

pub returns-clause-least : goal.returns-clause-least
returns-clause-least c =
    let prices = c.self.inside.prices in
    let kept = c.self.invariant in
    rw (← c.self.view_is, read 200000000000000 c.self.inside.total (omega arith) kept.near, kept.together)
    (λ way is_way. lower-bounds MayStand (cost_in prices.influences.items) prices.candidates.items prices.items.items prices.places.items way
    (lower-prices (table prices.candidates.items prices.influences.items) prices.items.items prices.places.items kept.sound.lower) is_way)
