use Rattle.std.proofs.Common.{All, sym, subst}
use Rattle.plan_reasons.specs.Limits.{IsLimitOf}
use Rattle.plan_reasons.proofs.LimitLemmas.{all-limits, limits-are}
use Rattle.plan_reasons.proofs.limit.limits_of.Goals as goal

pub returns-clause-all : goal.returns-clause-all
returns-clause-all c =
    let hold = c.hold-hold.ensures.value in
    all-limits c.args.task.now _ _ _ _ _ _ _ c.new-limits.ensures.items
    (rw (c.excludes.ensures.value, hold) at c.in_ok-push_excludes.ensures)
    (rw (c.combined.ensures.value, hold) at c.in_ok-push_combined.ensures)
    (rw (c.cumulative.ensures.value, hold) at c.in_ok-push_cumulative.ensures)
    (rw hold at c.in_ok-push_lateral.ensures)
    c.in_ok-push.ensures.items c.in_ok-push-2.ensures.items

pub returns-clause-each : goal.returns-clause-each
returns-clause-each c = subst (All (IsLimitOf c.args.task.now)) (sym (returns-clause-all c)) (limits-are c.args.task.now)
