-- Rounding to whole numbers.
use Rattle.std.specs.Prelude.{◌≡◌, ℕ, ◌*◌, ◌≤◌, ℤ, pos, ◌-ℤ◌, ◌*ℤ◌, unsigned_abs}

-- r is n / d to the nearest whole number, and of two that are equally near the one further from zero
pub record IsRounded (n : ℤ) (d : ℕ) (r : ℤ) : Type 0 where
  pub nearest : 2 * unsigned_abs ((r *ℤ pos d) -ℤ n) ≤ d
  pub away : 2 * unsigned_abs ((r *ℤ pos d) -ℤ n) ≡ d → unsigned_abs n ≤ unsigned_abs (r *ℤ pos d)
