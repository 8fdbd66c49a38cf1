use Rattle.std.proofs.Common.{◌≡◌, length}
use Rattle.std.specs.Prelude.{All}
use Rattle.assignment_draft.proofs.prices.repeated.Given as goal

abbrev pub invariant-loop : goal.invariant-loop
invariant-loop g l = record {
  count : length l.prices.items ≡ l.counter;
  each : All (λ entry. entry ≡ l.price) l.prices.items;
}
