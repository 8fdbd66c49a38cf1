use Rattle.std.proofs.Common.{ℤ, ◌≤ℤ◌, sym, ◌∙◌, subst}
use Rattle.hold_limits.specs.Faults.{IsLawful}
use Rattle.hold_limits.specs.Problem.{Problem}
use Rattle.hold_partial.specs.Placing.{Placing}
use Rattle.hold_reach.proofs.ViableLemmas.{band-in_order}
use Rattle.assignment_prices.specs.TightReach.{AllowsTightly}
use Rattle.priced_placer.proofs.LookLemmas.{IsAround, none-around, gap-around, bound-within}
use Rattle.priced_placer.proofs.horizon.quick_look.Goals as goal

pub returns-in_default : goal.returns-in_default
returns-in_default c =
    let t = c.args.partial.now.task in
    let span : ℤ × ℤ = (c.around.result.low, c.around.result.high) in
    let around = subst (λ (p : Placing). IsAround p.task p.prefix span) c.requires.same c.around.ensures.around in
    none-around t c.args.partial.now.prefix span around (rw c.task-task.ensures.value at c.in_default.ensures.none)

pub returns-then-least-waited : goal.returns-then-least-waited
returns-then-least-waited c =
    let t = c.args.partial.now.task in
    let prefix = c.args.partial.now.prefix in
    let span : ℤ × ℤ = (c.around.result.low, c.around.result.high) in
    let around = subst (λ (p : Placing). IsAround p.task p.prefix span) c.requires.same c.around.ensures.around in
    let band : t.ideal_low ≤ℤ t.ideal_high = subst (λ (u : Problem). u.ideal_low ≤ℤ u.ideal_high) c.task-task.ensures.value (band-in_order c.task-task.result.now (subst IsLawful (sym c.task-task.ensures.value) c.task-task.ensures.lawful)) in
    let found = rw c.task-task.ensures.value at c.in-Some.ensures.found in (
      c.if-least-waited.true,
      record {
        viable = c.requires.waits.viable;
        below = λ b is. rw found.1 (gap-around t prefix span band around b is);
      },
    )

pub returns-then-branch-waited : goal.returns-then-branch-waited
returns-then-branch-waited c =
    let t = c.args.partial.now.task in
    let prefix = c.args.partial.now.prefix in
    let span : ℤ × ℤ = (c.in_ok-within.field-0.low, c.in_ok-within.field-0.high) in
    let band : t.ideal_low ≤ℤ t.ideal_high = subst (λ (u : Problem). u.ideal_low ≤ℤ u.ideal_high) c.task-task.ensures.value (band-in_order c.task-task.result.now (subst IsLawful (sym c.task-task.ensures.value) c.task-task.ensures.lawful)) in
    let found = rw c.task-task.ensures.value at c.in_ok-gap_in_window.ensures.found in
    let low = subst (λ (p : Placing). AllowsTightly p.task p.prefix span.0) c.requires.same c.in_ok-within.ensures.low in
    let high = subst (λ (p : Placing). AllowsTightly p.task p.prefix span.1) c.requires.same c.in_ok-within.ensures.high in
    (bound-within t prefix span c.args.waited band low high c.in_ok-within.ensures.rising found.0 (sym c.if-branch-waited.true ∙ found.1) c.requires.waits, tt)
