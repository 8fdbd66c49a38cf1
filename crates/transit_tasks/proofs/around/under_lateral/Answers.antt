use Rattle.std.proofs.Common.{◌≡◌, ◌≤◌, ◌∙◌, ap, sym, subst, rules}
use Rattle.hold_parts.specs.declared.parts.Lateral.{Lateral}
use Rattle.hold_limits.specs.Faults.{hold_fault}
use Rattle.hold_limits.specs.Layout.{with_lateral}
use Rattle.transit_tasks.proofs.around.under_lateral.Goals as goal

pub with_lateral-requires : goal.with_lateral-requires
with_lateral-requires c =
    let same : c.in_ok-clone.field-0 ≡ c.args.lateral.now = search rules in
    subst (λ (l : Lateral). l.most.0 ≤ 999999999) (sym same) c.requires.most

pub unreachable-requires : goal.unreachable-requires
unreachable-requires c =
    let same : c.in_ok-clone.field-0 ≡ c.args.lateral.now = search rules in
    absurd (cc (sym c.requires.right ∙ ap (λ (l : Lateral). hold_fault (with_lateral c.args.hold l)) (sym same) ∙ c.in-Err.ensures.refused))
