use Rattle.hold_reach.proofs.ViableLemmas.{band-in_order}
use Rattle.best_first.proofs.BoundLemmas.{searchable}
use Rattle.best_first.proofs.explorer.TaskExplorerExplorerTask.laws.Goals as goal

pub returns : goal.returns
returns g c =
    let t = c.args.self.now.partial.task in
    searchable t (g.H.Horizon.has_bound t) (g.H.Horizon.may_wait t) (c.laws.ensures t (band-in_order t c.task-lawful.ensures.lawful))
