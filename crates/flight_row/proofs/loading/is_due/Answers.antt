use Rattle.std.proofs.Common.{◌↔◌, IsTrue, List, Contains, refl, sym, subst}
use Rattle.trim.specs.declared.rules.Rule.{Rule}
use Rattle.flight_row.proofs.PlanLemmas.{each_rule, plan_due}
use Rattle.flight_row.proofs.loading.is_due.Goals as goal

pub returns-in-Released : goal.returns-in-Released
returns-in-Released c = rw c.in-Released.is (λ yes. each_rule c.args.rule, λ listed. refl)

pub returns-in-Working : goal.returns-in-Working
returns-in-Working c =
    subst (λ (rules : List Rule). IsTrue c.is_on_plan.result ↔ Contains rules c.args.rule) (sym (plan_due c.args.stage c.in-Working.is)) c.is_on_plan.ensures
