use Rattle.std.proofs.Common.{ℕ, ◌<◌, ◌≤ℤ◌, ◌+ℤ◌}
use Rattle.std.specs.Prelude.{pos}
use Rattle.assignment.specs.Prices.{price_at}
use Rattle.assignment.specs.Tables.{MayTake, cost_at}
use Rattle.assignment_draft.specs.Drafts.{table}
use Rattle.assignment_draft.proofs.prices.Prices.greatest_place.Given as goal

abbrev pub invariant-loop-number : goal.invariant-loop-number
invariant-loop-number l = record {
  at_least : price_at l.self.places.items l.position ≤ℤ l.greatest;
  at_most : l.greatest ≤ℤ pos 0;
  bound : (number : ℕ) → number < l.number → MayTake (table l.self.candidates.items l.self.influences.items) number l.position
      → (price_at l.self.items.items number +ℤ l.greatest) ≤ℤ cost_at (table l.self.candidates.items l.self.influences.items) number l.position;
}
