use Rattle.std.proofs.Common.{ℕ, take}
use Rattle.std.specs.Prelude.{◌↔◌}
use Rattle.std.specs.Int.{◌∣◌}
use Rattle.finder_remainders.specs.Remainders.{LeaveThatOf}
use Rattle.finder_remainders.proofs.divisors.divisor_from.Given as goal

abbrev pub invariant-loop-spot : goal.invariant-loop-spot
invariant-loop-spot l = (d : ℕ) → (d ∣ l.divisor) ↔ LeaveThatOf d l.fn.index (take l.spot-index l.spots)
