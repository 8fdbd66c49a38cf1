use Rattle.std.proofs.Common.{◌&&◌, nat_lt, ℕ, Bool}
use Rattle.hold_partial.specs.Arrangement.{at_rank}
use Rattle.position_set.specs.Sets.{Stands}
use Rattle.hold_partial.proofs.openness.numbers_of.Given as goal

abbrev pub invariant-loop-number : goal.invariant-loop-number
invariant-loop-number l = (test : ℕ → Bool) → Stands l.ranks (at_rank test l.board.tables.ranks.items) → Stands l.numbers (λ q. nat_lt q l.number && test q)
