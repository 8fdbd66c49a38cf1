use Rattle.std.proofs.Common.{ℕ, List}
use Rattle.stop_tasks.specs.Stops.{Stops}
use Rattle.stop_world.specs.StopWorlds.{HasStopBound}
use Rattle.stop_placer.proofs.WaitingLemmas.{settled-bound, told-bound}
use Rattle.stop_placer.proofs.explorer.StopExplorerExplorerStopTask.look.Goals as goal

pub returns-in-Some-2-clause-shown : goal.returns-in-Some-2-clause-shown
returns-in-Some-2-clause-shown c =
    let t : Stops = c.args.self.now.stops.now in
    let prefix : List ℕ = c.args.prefix.now in
    let own : HasStopBound t prefix c.in-Some.bound = told-bound t prefix c.viable_bound_at.result c.in-Some.bound c.in-Some.is (rw c.requires.ready at c.viable_bound_at.ensures.found) in (
      settled-bound t prefix c.args.waited c.in-Some.bound c.requires.waits own c.if-bound-waited.false,
      λ first is_first. (rw (c.viable_bound_at.ensures.load, c.requires.ready) at c.next_after-self.ensures.next) first is_first,
    )
