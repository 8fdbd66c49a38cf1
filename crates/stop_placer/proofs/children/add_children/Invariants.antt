use Rattle.path_search.specs.Search.{AddsChildren}
use Rattle.stop_world.specs.StopWorlds.{MayWaitAtStops, stop_world}
use Rattle.stop_placer.proofs.children.add_children.Given as goal

abbrev pub invariant-loop-number : goal.invariant-loop-number
invariant-loop-number l = AddsChildren (stop_world l.fn.stops) (MayWaitAtStops l.fn.stops) l.fn.prefix l.fn.bound l.number l.fn.queue l.queue
