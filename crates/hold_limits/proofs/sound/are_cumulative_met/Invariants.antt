use Rattle.std.proofs.Common.{ℕ, ◌<◌, ◌≤◌, get_or}
use Rattle.hold_parts.specs.declared.parts.Cumulative.{Cumulative}
use Rattle.hold_parts.specs.Limits.{is_counted}
use Rattle.hold_limits.specs.Placement.{loose_load}
use Rattle.hold_limits.proofs.sound.are_cumulative_met.Given as goal

abbrev pub invariant-loop-limit : goal.invariant-loop-limit
invariant-loop-limit l = (k : ℕ) → k < l.limit-index → (d : Cumulative) → loose_load (is_counted (get_or l.limits k d)) l.stowage.items ≤ (get_or l.limits k d).most.0
