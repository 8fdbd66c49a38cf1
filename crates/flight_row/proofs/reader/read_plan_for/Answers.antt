use Rattle.std.proofs.Common.{◌≤◌, ℕ, List, length, inl, refl, subst, arith}
use Rattle.std.proofs.lemmas.List.Elements.{All-pop}
use Rattle.std.proofs.lemmas.Result.{err_from_is_err_and}
use Rattle.text_lines.proofs.PartSteps.{PartBetween}
use Rattle.flight_row.specs.RowText.{plan_line}
use Rattle.flight_row.specs.Spelled.{IsSpelledPlan}
use Rattle.flight_row.proofs.ReadLemmas.{with_cause, no_plan_read, plan_read, none_left, only_plan}
use Rattle.flight_row.proofs.reader.read_plan_for.Goals as goal

pub returns-in-Working : goal.returns-in-Working
returns-in-Working c = record { plan = rw c.in-Working.is (record { spelled = tt; for_stage = refl }); read = rw c.in-Working.is (no_plan_read c.args.lines.now); refused = tt }

pub returns-in_err-next_said-in-Planned-clause-refused : goal.returns-in_err-next_said-in-Planned-clause-refused
returns-in_err-next_said-in-Planned-clause-refused c =
    let p = err_from_is_err_and c.from_residual.result c.from_residual.ensures.1 in
    rw (p.1, p.2) (with_cause c.in-Planned.is c.in_err-next_said-in-Planned.ensures.refused)

pub returns-in_ok-next_said-in-Planned-clause-read : goal.returns-in_ok-next_said-in-Planned-clause-read
returns-in_ok-next_said-in-Planned-clause-read c =
    let told = c.in_ok-next_said-in-Planned in
    plan_read c.args.stage c.in-Planned.is c.args.lines.now c.next_said.new.lines told.field-0 told.ensures.read told.ensures.counted

pub returns-in_err-plans-in-Departed-clause-refused : goal.returns-in_err-plans-in-Departed-clause-refused
returns-in_err-plans-in-Departed-clause-refused c =
    let p = err_from_is_err_and c.from_residual-in_err-plans-in-Departed.result c.from_residual-in_err-plans-in-Departed.ensures.1 in
    rw (p.1, p.2) (inl refl)

pub returns-in_ok-plans-in-Departed-clause-plan : goal.returns-in_ok-plans-in-Departed-clause-plan
returns-in_ok-plans-in-Departed-clause-plan c =
    let part = c.in_ok-plans-in-Departed.ensures in
    rw c.in-Departed.is (record { spelled = (All-pop IsSpelledPlan c.in_ok-plans-in-Departed.plans.items c.pop.new.self.items c.pop.result c.pop.ensures.items part.right).1; for_stage = tt })

pub returns-in_ok-plans-in-Departed-clause-read : goal.returns-in_ok-plans-in-Departed-clause-read
returns-in_ok-plans-in-Departed-clause-read c =
    let plans = c.in_ok-plans-in-Departed.plans.items in
    let part = c.in_ok-plans-in-Departed.ensures in
    let long = c.in_ok-plans-in-Departed.plans.ok in
    let none = none_left plans c.pop.result c.in_ok-plans-in-Departed.plans.len (omega (arith, long)) c.pop.ensures.variant in
    let only = only_plan plans c.pop.new.self.items c.pop.result part.allowed c.pop.ensures.items none in
    rw c.in-Departed.is (subst (PartBetween plan_line IsSpelledPlan (λ (xs : List (List (List ℕ))). length xs ≤ 1) c.args.lines.now c.read_up_to.new.lines) only part)
