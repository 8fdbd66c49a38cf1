-- what a look at a prefix that waits shows
use Rattle.std.specs.Prelude.{ℕ, ◌<◌}
use Rattle.path_search.specs.declared.explorer.Look.{Look}
use Rattle.path_search.specs.declared.explorer.Look.TheVariants.{Settled, Later, TurnedBack}

-- a prefix with these bounds, which may wait with these ticks, waited with so many: they are its bound, and the look is at it; or it may
-- wait with more; or it has no bound
abbrev pub Shows : (ℕ → Type 0) → (ℕ → Type 0) → Type 0 → ℕ → Look → Type 0
Shows HasBound MayWait IsAt waited Settled = HasBound waited × IsAt
Shows HasBound MayWait IsAt waited (Later ticks) = (waited < ticks) × MayWait ticks
Shows HasBound MayWait IsAt waited TurnedBack = (b : ℕ) → HasBound b → ⊥
