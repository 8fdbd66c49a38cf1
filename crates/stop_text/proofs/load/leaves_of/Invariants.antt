use Rattle.std.proofs.Common.{◌≡◌, map, take}
use Rattle.stop_text.specs.declared.parts.Leave.{Leave}
use Rattle.stop_text.proofs.load.leaves_of.Given as goal

abbrev pub invariant-loop-leave : goal.invariant-loop-leave
invariant-loop-leave l = record {
  numbers : l.numbers.items ≡ map (λ (leave : Leave). leave.sector) (take l.leave-index l.leaves);
}
