use Rattle.std.proofs.Common.{◌≡◌, ◌++◌}
use Rattle.plan_reasons.specs.Limits.{for_each}
use Rattle.plan_reasons.specs.declared.limit.TaskLimit.TheVariants.{Exclude}
use Rattle.plan_reasons.proofs.limit.push_excludes.Given as goal

abbrev pub invariant-loop-at : goal.invariant-loop-at
invariant-loop-at l = l.limits.items ≡ l.fn.limits.items ++ for_each Exclude l.at
