use Rattle.std.proofs.Common.{◌≡◌, ◌∙◌, set, sym, subst, rules}
use Rattle.std.proofs.lemmas.Result.{IfOk-weaker}
use Rattle.hold_limits.specs.Faults.{IsLawfulHold}
use Rattle.hold_limits.specs.Layout.{Layout}
use Rattle.changed_task.specs.Parts.{cumulative_of, with_limits, with_cumulative}
use Rattle.changed_task.proofs.LawfulHolds.{cumulative-lawful}
use Rattle.changed_task.proofs.PartLemmas.{cumulative-written}
use Rattle.changed_task.proofs.holds.with_cumulative.Goals as goal

pub with_limits-requires : goal.with_limits-requires
with_limits-requires c =
    let h = c.args.hold.now in
    let excludes : c.in_ok-excludes.excludes.items ≡ h.excludes = search rules in
    let combined : c.in_ok-combined.combined.items ≡ h.combined = search rules in
    let cumulative : c.in_ok-cumulative.cumulative.items ≡ h.cumulative = search rules in
    let written = cumulative-written h _ _ _ c.args.at c.index_mut.result.now c.args.most excludes combined cumulative c.requires.at c.index_mut.ensures.value in
    subst IsLawfulHold (sym written) (cumulative-lawful h c.args.at c.args.most c.excludes.ensures.lawful c.requires.most)

pub returns : goal.returns
returns c =
    let h = c.args.hold.now in
    let excludes : c.in_ok-excludes.excludes.items ≡ h.excludes = search rules in
    let combined : c.in_ok-combined.combined.items ≡ h.combined = search rules in
    let cumulative : c.in_ok-cumulative.cumulative.items ≡ h.cumulative = search rules in
    let written = cumulative-written h _ _ _ c.args.at c.index_mut.result.now c.args.most excludes combined cumulative c.requires.at c.index_mut.ensures.value in
    IfOk-weaker c.with_limits.result (λ (next : Layout). next ≡ with_limits h c.in_ok-excludes.excludes.items c.in_ok-combined.combined.items (set c.in_ok-cumulative.cumulative.items c.args.at (cumulative_of c.args.most c.index_mut.result.now))) (λ (next : Layout). next ≡ with_cumulative h c.args.at c.args.most)
    (λ next is. is ∙ written) c.with_limits.ensures
