use Rattle.std.proofs.Common.{◌≡◌, ◌+◌, None, take, nat_lt, slice_index}
use Rattle.std.specs.List.{find}
use Rattle.hold_partial.proofs.loads.first_over.Given as goal

abbrev pub invariant-loop-place : goal.invariant-loop-place
invariant-loop-place l = find (λ j. nat_lt (slice_index l.allowed j) (slice_index l.loads j + l.mass.0)) (take l.place-index l.limits) ≡ None
