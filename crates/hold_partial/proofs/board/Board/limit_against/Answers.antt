use Rattle.std.proofs.Common.{◌≡◌, ℕ, ◌<◌, ◌+◌, ◌^◌, nat_lt, List, [], ◌∷◌, ◌++◌, Option, length, Some, None, option_map, ap, ap₂, sym, subst, ◌∙◌, arith, slice_index}
use Rattle.std.specs.Prelude.{slice_get, All}
use Rattle.std.specs.List.{find}
use Rattle.hold_limits.specs.BranchOrder.{ordered}
use Rattle.hold_limits.specs.Layout.{Layout}
use Rattle.hold_partial.specs.Limits.{limits_on, rule_at}
use Rattle.hold_reach.specs.Rules.{limit_broken}
use Rattle.hold_reach.proofs.LoadLemmas.{mass-at}
use Rattle.hold_reach.proofs.ReachLemmas.{next-item}
use Rattle.hold_partial.proofs.KeptLemmas.{demand-is, list-is, limits-within, no_demand}
use Rattle.hold_partial.proofs.LoadSteps.{loads-fit_mass, first-over-is}
use Rattle.hold_partial.proofs.board.Board.limit_against.Goals as goal

pub first_over-requires-clause-within : goal.first_over-requires-clause-within
first_over-requires-clause-within c =
    let b = c.args.self.now in
    let t = b.task.now in
    let listed = list-is t b.tables c.requires.kept.prepared c.deref.result.now c.args.position c.index-deref-position.result c.as_slice-limits.result.now c.deref.ensures.0 c.requires.known c.index-deref-position.is c.as_slice-limits.ensures.value in
    λ k d within. (
      limits-within t c.as_slice-limits.result.now c.args.position (length b.loads) c.requires.kept.lawful listed (omega arith) k d within,
      limits-within t c.as_slice-limits.result.now c.args.position (length b.tables.allowed) c.requires.kept.lawful listed (omega arith) k d within,
    )

pub first_over-requires-clause-fits : goal.first_over-requires-clause-fits
first_over-requires-clause-fits c =
    let b = c.args.self.now in
    let t = b.task.now in
    let prefix = b.prefix.items in
    let q = c.args.position in
    let listed = list-is t b.tables c.requires.kept.prepared c.deref.result.now q c.index-deref-position.result c.as_slice-limits.result.now c.deref.ensures.0 c.requires.known c.index-deref-position.is c.as_slice-limits.ensures.value in
    let next = next-item t (length prefix) c.requires.short in
    let demand = demand-is t b.tables c.requires.kept.prepared c.deref-2.result.now c.len.result no_demand next.0 c.deref-2.ensures.0 (subst (λ r. slice_get (ordered t.items) r ≡ Some next.0) (sym c.len.ensures.value) next.1) in
    let light = mass-at t c.requires.kept.lawful (length prefix) next.0 c.requires.short next.1 in
    let P : ℕ → List ℕ → Type 0 = λ mass limits. All (λ k. slice_index b.loads k + mass < 2 ^ 32) limits in
    let fits = subst (P next.0.mass.0) (sym listed) (loads-fit_mass t prefix b.loads q next.0.mass.0 c.requires.kept.lawful c.requires.kept.sound c.requires.kept.loaded light) in
    subst (λ mass. P mass c.as_slice-limits.result.now) (sym demand.mass) fits

pub returns-in_err-place : goal.returns-in_err-place
returns-in_err-place c =
    let b = c.args.self.now in
    let t = b.task.now in
    let prefix = b.prefix.items in
    let q = c.args.position in
    let listed = list-is t b.tables c.requires.kept.prepared c.deref.result.now q c.index-deref-position.result c.as_slice-limits.result.now c.deref.ensures.0 c.requires.known c.index-deref-position.is c.as_slice-limits.ensures.value in
    let next = next-item t (length prefix) c.requires.short in
    let demand = demand-is t b.tables c.requires.kept.prepared c.deref-2.result.now c.len.result no_demand next.0 c.deref-2.ensures.0 (subst (λ r. slice_get (ordered t.items) r ≡ Some next.0) (sym c.len.ensures.value) next.1) in
    let over = first-over-is t prefix b.loads b.tables.allowed next.0 q c.requires.kept.sound c.requires.short next.1 c.requires.kept.loaded c.requires.kept.prepared.allowed in
    let first : ℕ → List ℕ → Option ℕ = λ mass limits. find (λ j. nat_lt (slice_index b.tables.allowed j) (slice_index b.loads j + mass)) limits in
    let none : first next.0.mass.0 (limits_on t.hold q) ≡ None = sym (c.in_err-place.ensures ∙ ap₂ first demand.mass listed) in
    let limits : limit_broken t (prefix ++ q ∷ []) ≡ None = sym over ∙ ap (option_map (rule_at t.hold)) none in
    c.from_residual.ensures ∙ sym limits

pub returns : goal.returns
returns c =
    let b = c.args.self.now in
    let t = b.task.now in
    let prefix = b.prefix.items in
    let q = c.args.position in
    let listed = list-is t b.tables c.requires.kept.prepared c.deref.result.now q c.index-deref-position.result c.as_slice-limits.result.now c.deref.ensures.0 c.requires.known c.index-deref-position.is c.as_slice-limits.ensures.value in
    let next = next-item t (length prefix) c.requires.short in
    let demand = demand-is t b.tables c.requires.kept.prepared c.deref-2.result.now c.len.result no_demand next.0 c.deref-2.ensures.0 (subst (λ r. slice_get (ordered t.items) r ≡ Some next.0) (sym c.len.ensures.value) next.1) in
    let over = first-over-is t prefix b.loads b.tables.allowed next.0 q c.requires.kept.sound c.requires.short next.1 c.requires.kept.loaded c.requires.kept.prepared.allowed in
    let first : ℕ → List ℕ → Option ℕ = λ mass limits. find (λ j. nat_lt (slice_index b.tables.allowed j) (slice_index b.loads j + mass)) limits in
    let some : first next.0.mass.0 (limits_on t.hold q) ≡ Some c.in_ok-place.place = sym (c.in_ok-place.ensures ∙ ap₂ first demand.mass listed) in
    let limits : limit_broken t (prefix ++ q ∷ []) ≡ Some (rule_at t.hold c.in_ok-place.place) = sym over ∙ ap (option_map (rule_at t.hold)) some in
    let broken = c.rule_of.ensures ∙ ap (λ (h : Layout). rule_at h c.in_ok-place.place) c.hold.ensures.value in
    ap (λ r. Some r) broken ∙ sym limits
