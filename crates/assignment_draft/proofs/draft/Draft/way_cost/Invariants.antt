use Rattle.assignment_draft.proofs.SeatedWays.{IsBegun, way_of}
use Rattle.assignment_draft.proofs.draft.Draft.way_cost.Given as goal

abbrev pub invariant-loop-number : goal.invariant-loop-number
invariant-loop-number l =
    IsBegun l.self-inside.prices.candidates.items l.self-inside.prices.influences.items (way_of l.self-inside.seats.stands.items) l.number l.taken l.cost
