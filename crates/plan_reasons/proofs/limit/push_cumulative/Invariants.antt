use Rattle.std.proofs.Common.{◌≡◌, ◌++◌}
use Rattle.plan_reasons.specs.Limits.{for_each}
use Rattle.plan_reasons.specs.declared.limit.TaskLimit.TheVariants.{Cumulative}
use Rattle.plan_reasons.proofs.limit.push_cumulative.Given as goal

abbrev pub invariant-loop-at : goal.invariant-loop-at
invariant-loop-at l = l.limits.items ≡ l.fn.limits.items ++ for_each Cumulative l.at
