use Rattle.std.proofs.Common.{ℕ, ◌<◌, ◌≢◌}
use Rattle.std.specs.Prelude.{◌↔◌, slice_index}
use Rattle.std.specs.Int.{◌∣◌}
use Rattle.finder_remainders.proofs.divisors.divisor_without.Given as goal

abbrev pub invariant-loop-other : goal.invariant-loop-other
invariant-loop-other l = (d : ℕ) → (d ∣ l.common) ↔ ((k : ℕ) → k < l.other → k ≢ l.rank → d ∣ slice_index l.divisors k)
