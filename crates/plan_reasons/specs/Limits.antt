-- the limits of a task, one by one, and the task with one of them loosened
use Rattle.std.specs.Prelude.{◌≡◌, ℕ, zero, suc, ◌+◌, ◌-◌, ◌<◌, pos, ◌+ℤ◌, ◌-ℤ◌, unsigned_abs, Bool, true, false, List, [], ◌∷◌, ◌++◌, length, slice_get, Option, None, Some, is_some}
use Rattle.std.specs.Option.{option_map_or}
use Rattle.hold_parts.specs.declared.parts.Combined.{Combined as CombinedLimit}
use Rattle.hold_parts.specs.declared.parts.Cumulative.{Cumulative as CumulativeLimit}
use Rattle.hold_parts.specs.declared.parts.Lateral.{Lateral as LateralLimit}
use Rattle.hold_limits.specs.Problem.{Problem}
use Rattle.changed_task.specs.Changes.{changed}
use Rattle.changed_task.specs.declared.change.Change.{Change}
use Rattle.changed_task.specs.declared.change.Change.TheVariants as change
use Rattle.plan_reasons.specs.declared.limit.TaskLimit.{TaskLimit}
use Rattle.plan_reasons.specs.declared.limit.TaskLimit.TheVariants.{Exclude, Combined, Cumulative, Lateral, WindowLow, WindowHigh}

-- one limit for each place below a count
abbrev pub for_each : (ℕ → TaskLimit) → ℕ → List TaskLimit
for_each limit zero = []
for_each limit (suc n) = for_each limit n ++ limit n ∷ []

abbrev pub lateral_limits : Option LateralLimit → List TaskLimit
lateral_limits None = []
lateral_limits (Some lateral) = Lateral ∷ []

-- all limits of a task, in the order of its text
abbrev pub limits_of : Problem → List TaskLimit
limits_of t =
    for_each Exclude (length t.hold.excludes)
    ++ (for_each Combined (length t.hold.combined)
    ++ (for_each Cumulative (length t.hold.cumulative)
    ++ (lateral_limits t.hold.lateral
    ++ (WindowLow ∷ WindowHigh ∷ []))))

-- the limit is one of the task's
abbrev pub IsLimitOf : Problem → TaskLimit → Type 0
IsLimitOf t (Exclude at) = at < length t.hold.excludes
IsLimitOf t (Combined at) = at < length t.hold.combined
IsLimitOf t (Cumulative at) = at < length t.hold.cumulative
IsLimitOf t Lateral = is_some t.hold.lateral ≡ true
IsLimitOf t WindowLow = Unit {0}
IsLimitOf t WindowHigh = Unit {0}

-- the greatest mass of a limit, in kilograms; 0 where there is no such limit
abbrev pub combined_most : Problem → ℕ → ℕ
combined_most t at = option_map_or (λ (limit : CombinedLimit). limit.most.0) (slice_get t.hold.combined at) 0

abbrev pub cumulative_most : Problem → ℕ → ℕ
cumulative_most t at = option_map_or (λ (limit : CumulativeLimit). limit.most.0) (slice_get t.hold.cumulative at) 0

abbrev pub lateral_most : Problem → ℕ
lateral_most t = option_map_or (λ (limit : LateralLimit). limit.most.0) t.hold.lateral 0

-- the limit has a number that can be changed
abbrev pub has_number : TaskLimit → Bool
has_number (Exclude at) = false
has_number _ = true

-- by how much a limit can be loosened: a mass to 999,999,999 kg, more than any hold carries, and an end of the window to
-- 10,000 index units. A pair that excludes has no number, and goes at once
abbrev pub slack : Problem → TaskLimit → ℕ
slack t (Exclude at) = 0
slack t (Combined at) = 999999999 - combined_most t at
slack t (Cumulative at) = 999999999 - cumulative_most t at
slack t Lateral = 999999999 - lateral_most t
slack t WindowLow = unsigned_abs (t.low +ℤ pos 1000000000)
slack t WindowHigh = unsigned_abs (pos 1000000000 -ℤ t.high)

-- the change that loosens a limit by so many kilograms or ticks
abbrev pub loosening : Problem → TaskLimit → ℕ → Change
loosening t (Exclude at) n = change.DropExclude at
loosening t (Combined at) n = change.Combined at (record { 0 = combined_most t at + n })
loosening t (Cumulative at) n = change.Cumulative at (record { 0 = cumulative_most t at + n })
loosening t Lateral n = change.Lateral (record { 0 = lateral_most t + n })
loosening t WindowLow n = change.Low (record { 0 = t.low -ℤ pos n })
loosening t WindowHigh n = change.High (record { 0 = t.high +ℤ pos n })

-- the task with the limit loosened by so much, and as far as it goes
abbrev pub loosened : Problem → TaskLimit → ℕ → Problem
loosened t limit n = changed t (loosening t limit n)

abbrev pub freed : Problem → TaskLimit → Problem
freed t limit = loosened t limit (slack t limit)
