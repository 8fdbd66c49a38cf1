use Rattle.std.proofs.Common.{◌≡◌, ◌∙◌, ℕ, List, ap, rules}
use Rattle.std.specs.Prelude.{remove}
use Rattle.changed_task.proofs.LawfulHolds.{exclude-lawful}
use Rattle.changed_task.proofs.holds.without_exclude.Goals as goal

pub with_limits-requires : goal.with_limits-requires
with_limits-requires c =
    let h = c.args.hold.now in
    let copied : c.in_ok-excludes.excludes.items ≡ h.excludes = search rules in
    let fewer : c.remove.new.self.items ≡ remove h.excludes c.args.at = c.remove.ensures.items ∙ ap (λ (pairs : List (ℕ × ℕ)). remove pairs c.args.at) copied in
    let combined : c.in_ok-combined.combined.items ≡ h.combined = search rules in
    let cumulative : c.in_ok-cumulative.cumulative.items ≡ h.cumulative = search rules in
    rw (fewer, combined, cumulative) (exclude-lawful h c.args.at c.excludes.ensures.lawful c.requires)
