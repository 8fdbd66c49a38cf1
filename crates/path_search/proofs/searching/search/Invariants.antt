use Rattle.std.proofs.Common.{◌≡◌}
use Rattle.path_search.specs.Search.{HasTaken}
use Rattle.path_search.proofs.searching.search.Given as goal

abbrev pub invariant-loop-expanded : goal.invariant-loop-expanded
invariant-loop-expanded g l =
    let s = g.E.Explorer.subject l.fn.explorer in
    record {
      subject : g.E.Explorer.subject l.explorer ≡ s;
      ready : g.E.Explorer.ready l.explorer;
      taken : HasTaken (g.E.Explorer.world s) (g.E.Explorer.may_wait s) l.expanded l.queue l.turned;
    }
