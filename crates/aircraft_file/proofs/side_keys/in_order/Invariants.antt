use Rattle.std.proofs.Common.{◌≡◌}
use Rattle.aircraft_file.specs.Loading.{in_order}
use Rattle.aircraft_file.proofs.side_keys.in_order.Given as goal

abbrev pub invariant-loop-number : goal.invariant-loop-number
invariant-loop-number l = l.sides.items ≡ in_order l.named l.number
