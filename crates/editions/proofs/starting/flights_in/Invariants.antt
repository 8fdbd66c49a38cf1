use Rattle.editions.proofs.StartLemmas.{AreSoFar}
use Rattle.editions.proofs.starting.flights_in.Given as goal

abbrev pub invariant-loop-row : goal.invariant-loop-row
invariant-loop-row l = AreSoFar l.fleet l.rows l.row-index l.opening.items
