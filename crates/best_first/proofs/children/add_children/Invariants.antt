use Rattle.path_search.specs.Search.{AddsChildren}
use Rattle.best_first.specs.Bounds.{world_of}
use Rattle.best_first.proofs.children.add_children.Given as goal

abbrev pub invariant-loop-number : goal.invariant-loop-number
invariant-loop-number g l = AddsChildren (world_of l.fn.partial.task (g.H.Horizon.has_bound l.fn.partial.task)) (g.H.Horizon.may_wait l.fn.partial.task) l.fn.partial.prefix l.fn.bound l.number l.fn.queue l.queue
