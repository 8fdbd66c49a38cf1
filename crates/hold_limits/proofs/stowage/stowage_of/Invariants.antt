use Rattle.std.proofs.Common.{◌≡◌, take}
use Rattle.hold_limits.specs.Stowage.{stowed}
use Rattle.hold_limits.proofs.stowage.stowage_of.Given as goal

abbrev pub invariant-loop-load : goal.invariant-loop-load
invariant-loop-load l = l.stowage.items ≡ stowed l.items l.prefix (take l.load-index l.loose)
