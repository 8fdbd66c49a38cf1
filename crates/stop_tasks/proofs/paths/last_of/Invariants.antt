use Rattle.std.proofs.Common.{◌≡◌, ℕ, get_or, map, take}
use Rattle.stop_tasks.proofs.paths.last_of.Given as goal

abbrev pub invariant-loop-place : goal.invariant-loop-place
invariant-loop-place l = l.last.items ≡ map (λ (place : ℕ). get_or l.leaves place 0) (take l.place-index l.places)
