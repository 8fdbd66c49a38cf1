-- a loading task with one thing changed, and which changes it can have
use Rattle.std.specs.Prelude.{◌≡◌, ◌<◌, ◌≤◌, unsigned_abs, true, length, is_some}
use Rattle.mass_units.specs.declared.Kg.{Kg}
use Rattle.mass_units.specs.declared.Ticks.{Ticks}
use Rattle.hold_limits.specs.Problem.{Problem}
use Rattle.changed_task.specs.declared.change.Change.{Change}
use Rattle.changed_task.specs.declared.change.Change.TheVariants.{DropExclude, Combined, Cumulative, Lateral, Low, High, LeaveItem}
use Rattle.changed_task.specs.Parts.{without_exclude, with_combined, with_cumulative, with_lateral_most, in_hold, in_window, without_item}

-- the task with the change
abbrev pub changed : Problem → Change → Problem
changed t (DropExclude at) = in_hold t (without_exclude t.hold at)
changed t (Combined at most) = in_hold t (with_combined t.hold at most)
changed t (Cumulative at most) = in_hold t (with_cumulative t.hold at most)
changed t (Lateral most) = in_hold t (with_lateral_most t.hold most)
changed t (Low low) = in_window t low.0 t.high
changed t (High high) = in_window t t.low high.0
changed t (LeaveItem at) = without_item t at

-- a mass of at most nine digits, and an index within 10,000 index units
abbrev pub IsMass : Kg → Type 0
IsMass most = most.0 ≤ 999999999

abbrev pub IsIndex : Ticks → Type 0
IsIndex index = unsigned_abs index.0 ≤ 1000000000

-- the place is in its list, the mass or the index is in range, and the hold has a lateral limit where that one is changed
abbrev pub IsPossible : Problem → Change → Type 0
IsPossible t (DropExclude at) = at < length t.hold.excludes
IsPossible t (Combined at most) = (at < length t.hold.combined) × IsMass most
IsPossible t (Cumulative at most) = (at < length t.hold.cumulative) × IsMass most
IsPossible t (Lateral most) = (is_some t.hold.lateral ≡ true) × IsMass most
IsPossible t (Low low) = IsIndex low
IsPossible t (High high) = IsIndex high
IsPossible t (LeaveItem at) = at < length t.items
