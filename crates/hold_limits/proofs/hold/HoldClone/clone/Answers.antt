use Rattle.std.proofs.Common.{rules, ◌≡◌, sym, subst}
use Rattle.hold_limits.specs.Layout.{layout_under}
use Rattle.hold_limits.specs.Faults.{IsLawfulHold}
use Rattle.hold_limits.proofs.hold.HoldClone.clone.Goals as goal

pub invariant_of-result : goal.invariant_of-result
invariant_of-result c =
    let own = c.self.inside in
    let same : layout_under c.in_ok-clone.field-0 c.in_ok-to_vec.field-0.items c.in_ok-to_vec-2.field-0.items c.in_ok-to_vec-3.field-0.items c.in_ok-to_vec-4.field-0.items
    ≡ layout_under own.lateral own.positions.items own.excludes.items own.combined.items own.cumulative.items = search rules in
    subst IsLawfulHold (sym same) c.self.invariant
