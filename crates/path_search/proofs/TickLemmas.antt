-- how often those that wait can be put back with more ticks, or be noted
use Rattle.std.proofs.Common.{ℕ, ◌+◌, ◌-◌, ◌^◌, ◌<◌, List, ◌∷◌, arith}
use Rattle.std.proofs.lemmas.List.Sorted.{sum_by_popped, sum_by_pushed}
use Rattle.std.specs.Prelude.{IsPermutation}
use Rattle.std.specs.List.{sum_by}
use Rattle.hold_limits.specs.Placement.{Key}

-- how often one can, whose ticks are below 2 ^ 64
times : Key → ℕ
times k = (2 ^ 64 - k.0) + 1

pub ticks_left : List Key → ℕ
ticks_left queue = sum_by times queue

-- less where one no longer waits
pub fewer-noted : (queue rest : List Key) (k : Key) → IsPermutation queue (k ∷ rest) → ticks_left rest < ticks_left queue
unfolding ticks_left times
fewer-noted queue rest k moved = omega (arith, sum_by_popped times k queue rest moved)

-- less where one waits with more ticks
pub fewer-later : (queue rest new : List Key) (k : Key) (ticks : ℕ) → IsPermutation queue (k ∷ rest) → IsPermutation ((ticks, k.1) ∷ rest) new → k.0 < ticks → ticks < 2 ^ 64 → ticks_left new < ticks_left queue
unfolding ticks_left times
fewer-later queue rest new k ticks moved added more within = omega (arith, sum_by_popped times k queue rest moved, sum_by_pushed times (ticks, k.1) rest new added, more, within)
