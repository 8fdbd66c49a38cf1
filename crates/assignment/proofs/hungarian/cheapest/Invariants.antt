use Rattle.std.proofs.Common.{◌≡◌, length}
use Rattle.assignment.specs.Standings.{IsSettled}
use Rattle.assignment.proofs.hungarian.cheapest.Given as goal

abbrev pub invariant-loop : goal.invariant-loop
invariant-loop l = record {
  candidates : l.standing.costs.candidates.now ≡ l.fn.candidates;
  influences : l.standing.costs.influences.now ≡ l.fn.influences;
  settled : IsSettled l.standing.costs l.standing.items.items l.standing.places.items l.standing.stands.items;
  count : length l.standing.stands.items ≡ l.counter;
}
