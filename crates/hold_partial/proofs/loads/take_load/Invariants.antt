use Rattle.std.proofs.Common.{◌≡◌, ℕ, ◌+◌, take, slice_index}
use Rattle.hold_partial.specs.Limits.{added_at}
use Rattle.hold_partial.proofs.loads.take_load.Given as goal

abbrev pub invariant-loop-place : goal.invariant-loop-place
invariant-loop-place l = (k : ℕ) → slice_index l.loads k + added_at l.mass.0 (take l.place-index l.limits) k ≡ slice_index l.fn.loads k
