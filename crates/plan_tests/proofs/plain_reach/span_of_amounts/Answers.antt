use Rattle.std.proofs.Common.{ℕ, ℤ, ap, sym, ◌∙◌}
use Rattle.hold_limits.specs.Layout.{Layout}
use Rattle.hold_reach.specs.Extents.{may_stand, amount_of}
use Rattle.plan_tests.specs.Widening.{wider_span}
use Rattle.plan_tests.proofs.WideningLemmas.{IsSpanOfList-passing, IsSpanOfList-failing}
use Rattle.plan_tests.proofs.plain_reach.span_of_amounts.Goals as goal
use Rattle.plan_tests.proofs.plain_reach.span_of_amounts.Goals.{then-may_stand, else-may_stand}

pub loop-number-preserved : goal.loop-number-preserved
loop-number-preserved c =
    let t = c.args.task.now in
    let item = c.args.item.now in
    let number = c.loop-number.number in
    let amount : ℕ → ℤ = λ q. amount_of c.args.extent t.hold (item, q) in
    elim c.if-may_stand.branch [
      | then-may_stand w ↦
          let now = w.widened.ensures ∙ ap (λ (h : Layout). wider_span c.loop-number.span (amount_of c.args.extent h (item, number))) c.hold-hold.ensures.value in
          rw (w.span-is, now) (IsSpanOfList-passing amount (may_stand c.args.extent t c.args.prefix.now item) number c.loop-number.span (sym c.may_stand.ensures ∙ w.if-may_stand.true) c.loop-number.invariant)
      | else-may_stand w ↦
          rw w.span-is (IsSpanOfList-failing amount (may_stand c.args.extent t c.args.prefix.now item) number c.loop-number.span (sym c.may_stand.ensures ∙ w.if-may_stand.false) c.loop-number.invariant)
    ]
