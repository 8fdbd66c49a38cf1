use Rattle.std.proofs.Common.{◌≡◌}
use Rattle.std.specs.Prelude.{All}
use Rattle.path_search.specs.Search.{IsWaiting, StaysSearched}
use Rattle.path_search.proofs.TickLemmas.{ticks_left}
use Rattle.path_search.proofs.searching.take_settled.Given as goal

abbrev pub invariant-loop-first : goal.invariant-loop-first
invariant-loop-first g l =
    let s = g.E.Explorer.subject l.fn.explorer in
    record {
      ready : g.E.Explorer.ready l.explorer;
      subject : g.E.Explorer.subject l.explorer ≡ s;
      waiting : All (IsWaiting (g.E.Explorer.may_wait s)) l.queue;
      stays : StaysSearched (g.E.Explorer.world s) (g.E.Explorer.may_wait s) l.fn.queue l.queue l.fn.turned l.turned;
    }

abbrev pub decreases-loop-first : goal.decreases-loop-first
decreases-loop-first g l = ticks_left l.queue
