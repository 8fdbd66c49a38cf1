use Rattle.std.proofs.Common.{⊎_elim, ◌≡◌, get_or, Some, ℤ, pos, ◌*ℤ◌, length, ap₂, sym, subst, ◌∙◌, arith}
use Rattle.std.proofs.lemmas.Int.{ints}
use Rattle.std.specs.Prelude.{slice_get}
use Rattle.hold_limits.specs.BranchOrder.{ordered}
use Rattle.hold_parts.specs.declared.parts.Item.{Item}
use Rattle.hold_limits.specs.Placement.{placed_lateral, placed_moment}
use Rattle.hold_reach.proofs.ReachLemmas.{moment-bound}
use Rattle.hold_partial.proofs.KeptLemmas.{no_demand, no_entry, demand-is, entry-is, demand-light, entry-near}
use Rattle.hold_partial.proofs.board.Board.added_on.Goals as goal

pub moment-requires : goal.moment-requires
moment-requires c =
    let b = c.args.self.now in
    record {
      light = demand-light b.task.now b.tables c.requires.kept.lawful c.requires.kept.prepared c.deref.result.now c.len.result no_demand c.deref.ensures.0 (omega (arith, c.len.ensures.value, c.requires.short));
      near = (entry-near b.task.now b.tables c.requires.kept.lawful c.requires.kept.prepared c.deref-2.result.now c.args.position no_entry c.deref-2.ensures.0 c.requires.position).0;
    }

pub lateral-requires-clause-light : goal.lateral-requires-clause-light
lateral-requires-clause-light c =
    let b = c.args.self.now in
    demand-light b.task.now b.tables c.requires.kept.lawful c.requires.kept.prepared c.deref.result.now c.len.result no_demand c.deref.ensures.0 (omega (arith, c.len.ensures.value, c.requires.short))

pub returns-in-Reach : goal.returns-in-Reach
returns-in-Reach c =
    let b = c.args.self.now in
    let t = b.task.now in
    let light = demand-light t b.tables c.requires.kept.lawful c.requires.kept.prepared c.deref.result.now c.len.result no_demand c.deref.ensures.0 (omega (arith, c.len.ensures.value, c.requires.short)) in
    let near = (entry-near t b.tables c.requires.kept.lawful c.requires.kept.prepared c.deref-2.result.now c.args.position no_entry c.deref-2.ensures.0 c.requires.position).0 in
    let bound = moment-bound (get_or c.deref.result.now c.len.result no_demand).mass.0 (get_or c.deref-2.result.now c.args.position no_entry).influence light near in
    let place = entry-is t b.tables c.requires.kept.prepared c.deref-2.result.now c.args.position no_entry c.deref-2.ensures.0 c.requires.position in
    let is : (item : Item) → slice_get (ordered t.items) (length b.prefix.items) ≡ Some item → c.moment.result ≡ placed_moment t.hold (item, c.args.position) = λ item there.
    let demand = demand-is t b.tables c.requires.kept.prepared c.deref.result.now c.len.result no_demand item c.deref.ensures.0 (subst (λ n. slice_get (ordered t.items) n ≡ Some item) (sym c.len.ensures.value) there) in
    c.moment.ensures ∙ ap₂ (λ m (x : ℤ). pos m *ℤ x) demand.mass place.influence in
    ⊎_elim
    (λ same. rw same record { value = λ item there. omega (arith, ints, is item there); bounded = omega (arith, ints, c.moment.ensures, bound) })
    (λ same. rw same record { value = λ item there. omega (arith, ints, is item there); bounded = omega (arith, ints, c.moment.ensures, bound) })
    c.in-Reach.is

pub returns-in-LateralReach-clause-value : goal.returns-in-LateralReach-clause-value
returns-in-LateralReach-clause-value c = λ item there.
    let b = c.args.self.now in
    let t = b.task.now in
    let demand = demand-is t b.tables c.requires.kept.prepared c.deref.result.now c.len.result no_demand item c.deref.ensures.0 (subst (λ n. slice_get (ordered t.items) n ≡ Some item) (sym c.len.ensures.value) there) in
    let place = entry-is t b.tables c.requires.kept.prepared c.deref-2.result.now c.args.position no_entry c.deref-2.ensures.0 c.requires.position in
    let is : c.lateral.result ≡ placed_lateral t.hold (item, c.args.position) = c.lateral.ensures ∙ ap₂ (λ m (x : ℤ). pos m *ℤ x) demand.mass place.side in
    rw c.in-LateralReach.is (omega (arith, ints, is))

pub returns-in-LateralReach-clause-bounded : goal.returns-in-LateralReach-clause-bounded
returns-in-LateralReach-clause-bounded c =
    let b = c.args.self.now in
    let light = demand-light b.task.now b.tables c.requires.kept.lawful c.requires.kept.prepared c.deref.result.now c.len.result no_demand c.deref.ensures.0 (omega (arith, c.len.ensures.value, c.requires.short)) in
    let near = (entry-near b.task.now b.tables c.requires.kept.lawful c.requires.kept.prepared c.deref-2.result.now c.args.position no_entry c.deref-2.ensures.0 c.requires.position).1 in
    let bound = moment-bound (get_or c.deref.result.now c.len.result no_demand).mass.0 (get_or c.deref-2.result.now c.args.position no_entry).side light (omega (arith, near)) in
    omega (arith, ints, c.lateral.ensures, bound)
