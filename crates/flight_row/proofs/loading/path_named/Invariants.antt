use Rattle.flight_row.proofs.PlanLemmas.{AreSoFar}
use Rattle.flight_row.proofs.loading.path_named.Given as goal

abbrev pub invariant-loop-name : goal.invariant-loop-name
invariant-loop-name l = AreSoFar l.a l.names l.name-index l.path.items
