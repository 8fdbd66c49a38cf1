use Rattle.std.proofs.Common.{◌≡◌, map}
use Rattle.std.specs.List.{range_with_len}
use Rattle.generated_load.specs.Load.{generated_position}
use Rattle.generated_load.proofs.load.positions.Given as goal

abbrev pub invariant-loop-number : goal.invariant-loop-number
invariant-loop-number l = l.positions.items ≡ map generated_position (range_with_len 0 l.number)
