use Rattle.std.proofs.Common.{◌≡◌, ◌∙◌, Some, None, ap, sym, subst, arith}
use Rattle.std.specs.Prelude.{position, bytes_eq}
use Rattle.hold_limits.specs.Layout.{Layout}
use Rattle.hold_parts.specs.declared.parts.Position.{Position}
use Rattle.flight_row.proofs.PlanLemmas.{AreSoFar, none_so_far, one_more, no_path, all_named, names_differ, plan_once}
use Rattle.flight_row.proofs.loading.path_named.Goals as goal

pub loop-name-init : goal.loop-name-init
loop-name-init c =
    subst (AreSoFar c.args.a.now c.args.names.now 0) (sym c.new-path.ensures) (none_so_far c.args.a.now c.args.names.now)

pub returns-in_err-number_named-clause-none : goal.returns-in_err-number_named-clause-none
returns-in_err-number_named-clause-none c =
    let name = c.name-item.result in
    let none : position (λ (p : Position). bytes_eq p.name name) c.args.a.now.hold.positions ≡ None =
    sym (c.in_err-number_named.ensures ∙ ap (λ (h : Layout). position (λ (p : Position). bytes_eq p.name name) h.positions) c.hold-hold.ensures.value) in
    rw c.from_residual.ensures (no_path c.args.a.now c.args.names.now c.loop-name.name-index name c.loop-name-test.true c.name-item.is none)

pub push-requires : goal.push-requires
push-requires c =
    let long = c.loop-name.invariant.long in
    let within = c.loop-name-test.true in
    let few = c.requires in
    (omega arith, omega (arith, long, within, few))

pub loop-name-preserved : goal.loop-name-preserved
loop-name-preserved c =
    let name = c.name-item.result in
    let found : position (λ (p : Position). bytes_eq p.name name) c.args.a.now.hold.positions ≡ Some c.in_ok-number_named.field-0 =
    sym (c.in_ok-number_named.ensures ∙ ap (λ (h : Layout). position (λ (p : Position). bytes_eq p.name name) h.positions) c.hold-hold.ensures.value) in
    one_more c.args.a.now c.args.names.now c.loop-name.name-index name c.in_ok-number_named.field-0 c.loop-name.path.items c.push.new.self.items
    c.loop-name-test.true c.name-item.is found c.push.ensures.items c.loop-name.invariant

pub returns-clause-found : goal.returns-clause-found
returns-clause-found c =
    all_named c.args.a.now c.args.names.now c.loop-name.name-index c.loop-name.path.items (omega (arith, c.loop-name-test.false)) c.loop-name.invariant

pub returns-clause-only : goal.returns-clause-only
returns-clause-only c =
    let named = all_named c.args.a.now c.args.names.now c.loop-name.name-index c.loop-name.path.items (omega (arith, c.loop-name-test.false)) c.loop-name.invariant in
    λ other is. plan_once c.args.a.now (names_differ c.args.a.now c.hold-hold.ensures.lawful) c.args.names.now other c.loop-name.path.items is named
