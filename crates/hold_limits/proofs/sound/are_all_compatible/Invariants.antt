use Rattle.std.proofs.Common.{take, ◌≢◌}
use Rattle.std.specs.Prelude.{AllPairs}
use Rattle.hold_limits.specs.Placement.{Exclude}
use Rattle.hold_limits.proofs.sound.are_all_compatible.Given as goal

abbrev pub invariant-loop-rank : goal.invariant-loop-rank
invariant-loop-rank l = AllPairs (λ a b. (a ≢ b) × (Exclude l.hold a b → ⊥)) (take l.rank l.prefix)
