use Rattle.assignment.specs.Standings.{AreMoved}
use Rattle.assignment.proofs.standing.shift.Given as goal

abbrev pub invariant-loop-place : goal.invariant-loop-place
invariant-loop-place l = AreMoved l.fn.by l.stands l.members l.place l.fn.items l.fn.places l.items l.places
