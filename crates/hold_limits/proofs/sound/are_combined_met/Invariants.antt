use Rattle.std.proofs.Common.{ℕ, ◌<◌, ◌≤◌, get_or}
use Rattle.hold_parts.specs.declared.parts.Combined.{Combined}
use Rattle.hold_parts.specs.Limits.{is_listed}
use Rattle.hold_limits.specs.Placement.{loose_load}
use Rattle.hold_limits.proofs.sound.are_combined_met.Given as goal

abbrev pub invariant-loop-limit : goal.invariant-loop-limit
invariant-loop-limit l = (k : ℕ) → k < l.limit-index → (d : Combined) → loose_load (is_listed (get_or l.limits k d).places) l.stowage.items ≤ (get_or l.limits k d).most.0
