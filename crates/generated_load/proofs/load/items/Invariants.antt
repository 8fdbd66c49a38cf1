use Rattle.std.proofs.Common.{◌≡◌, ◌-◌, map}
use Rattle.std.specs.List.{range_with_len}
use Rattle.generated_load.specs.Load.{generated_item}
use Rattle.generated_load.proofs.load.items.Given as goal

abbrev pub invariant-loop-count : goal.invariant-loop-count
invariant-loop-count l = l.items.items ≡ map (generated_item l.fn.number) (range_with_len 1 (l.count - 1))
