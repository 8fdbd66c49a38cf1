use Rattle.std.proofs.Common.{refl}
use Rattle.tight_reach.proofs.ReachedLemmas.{are-prices, tight-priced, none-priced}
use Rattle.tight_reach.proofs.tight_reach.prices_of.Goals as goal

pub returns-clause-prices : goal.returns-clause-prices
returns-clause-prices c = are-prices c.args.p.now.task c.args.p.now.prefix c.reach_of-low.result c.reach_of-high.result _ c.reach_of-low.ensures c.reach_of-high.ensures refl

pub returns-clause-tight : goal.returns-clause-tight
returns-clause-tight c tight reach = tight-priced c.args.p.now.task c.args.p.now.prefix c.reach_of-low.result c.reach_of-high.result _ tight c.reach_of-low.ensures c.reach_of-high.ensures refl reach

pub returns-clause-none : goal.returns-clause-none
returns-clause-none c none = none-priced c.args.p.now.task c.args.p.now.prefix c.reach_of-low.result c.reach_of-high.result _ c.reach_of-low.ensures c.reach_of-high.ensures refl none
