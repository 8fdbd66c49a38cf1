use Rattle.std.proofs.Common.{◌≡◌, ℕ, ◌<◌}
use Rattle.assignment.specs.Tables.{number_at}
use Rattle.assignment.proofs.standing.holder_of.Given as goal

abbrev pub invariant-loop-number : goal.invariant-loop-number
invariant-loop-number l = (k : ℕ) → k < l.number → number_at l.stands k ≡ l.position → ⊥
