use Rattle.std.proofs.Common.{◌≡◌, ◌∙◌, List, length, ap, sym, subst}
use Rattle.std.specs.Prelude.{Any, Contains}
use Rattle.std.proofs.lemmas.Bool.{false≢true}
use Rattle.trim.specs.declared.figures.Figures.{Figures}
use Rattle.trim.specs.declared.rules.Rule.{Rule}
use Rattle.trim.specs.Limits as figures
use Rattle.trim.specs.Refusals.{CanBeWeighed}
use Rattle.trim.specs.Rules.{AreBroken}
use Rattle.flight_state.proofs.LimitLemmas.{effective_keeps, same_parts}
use Rattle.flight_row.specs.Loading.{StillHolds, rules_due}
use Rattle.flight_row.proofs.PlanLemmas.{weighed_answers, no_other, due_broken, still_holds}
use Rattle.flight_row.proofs.loading.plan_that_holds.Goals as goal

pub can_be_weighed-requires : goal.can_be_weighed-requires
can_be_weighed-requires c = subst figures.KeepsLimits (sym c.in_ok-figures.ensures) (effective_keeps c.args.s.now c.requires.limits)

pub broken_rules-requires : goal.broken_rules-requires
broken_rules-requires c =
    let a = c.args.a.now in
    let s = c.args.s.now in
    let path = c.in-Some.path.items in
    let complete : length path ≡ length s.base.containers = ap length (sym c.as_slice.ensures.value) ∙ c.if-as_slice.false ∙ ap length c.as_slice-2.ensures in
    record {
      limits = subst figures.KeepsLimits (sym c.in_ok-figures.ensures) (effective_keeps s c.requires.limits);
      complete = complete ∙ ap length (sym (same_parts s.base s.lmcs).containers) ∙ ap (λ (f : Figures). length f.containers) (sym c.in_ok-figures.ensures);
    }

pub returns-in_default-clause-none : goal.returns-in_default-clause-none
returns-in_default-clause-none c = λ path named holds. c.in_default.ensures.none path named

pub returns-then-as_slice-clause-none : goal.returns-then-as_slice-clause-none
returns-then-as_slice-clause-none c =
    let a = c.args.a.now in
    let s = c.args.s.now in
    let path = c.in-Some.path.items in
    let fails : StillHolds a s path → ⊥ = λ holds. c.if-as_slice.true (ap length c.as_slice.ensures.value ∙ holds.complete ∙ ap length (sym c.as_slice-2.ensures)) in
    no_other a s path fails c.args.names.now c.in-Some.ensures.only

pub returns-then-not-branch-clause-none : goal.returns-then-not-branch-clause-none
returns-then-not-branch-clause-none c =
    let a = c.args.a.now in
    let s = c.args.s.now in
    let path = c.in-Some.path.items in
    let fails : StillHolds a s path → ⊥ = λ holds.
    false≢true (sym c.if-not-branch.true ∙ c.in_ok-can_be_weighed.ensures.1 (subst (CanBeWeighed a) (sym c.in_ok-figures.ensures) holds.weighed)) in
    no_other a s path fails c.args.names.now c.in-Some.ensures.only

pub returns-in_default-broken_rules-clause-none : goal.returns-in_default-broken_rules-clause-none
returns-in_default-broken_rules-clause-none c = λ other named holds.
    weighed_answers c.args.a.now c.in_ok-figures.figures c.broken_rules.result (c.in_ok-can_be_weighed.ensures.0 c.if-not-branch.false) c.broken_rules.ensures.refused c.in_default-broken_rules.not-Ok

pub returns-then-some_is_due-clause-none : goal.returns-then-some_is_due-clause-none
returns-then-some_is_due-clause-none c =
    let a = c.args.a.now in
    let s = c.args.s.now in
    let path = c.in-Some.path.items in
    let rules = c.in-Ok.rules.items in
    let are = subst (λ (f : Figures). AreBroken a f path rules) c.in_ok-figures.ensures c.in-Ok.ensures.broken in
    let some = subst (λ (found : List Rule). Any (Contains (rules_due s.stage)) found) c.as_slice-3.ensures.value (c.some_is_due.ensures.0 c.if-some_is_due.true) in
    no_other a s path (due_broken a s path rules are some) c.args.names.now c.in-Some.ensures.only

pub returns-clause-found : goal.returns-clause-found
returns-clause-found c =
    let a = c.args.a.now in
    let s = c.args.s.now in
    let path = c.in-Some.path.items in
    let complete : length path ≡ length s.base.containers = ap length (sym c.as_slice.ensures.value) ∙ c.if-as_slice.false ∙ ap length c.as_slice-2.ensures in
    let rules = c.in-Ok.rules.items in
    let weighed = subst (CanBeWeighed a) c.in_ok-figures.ensures (c.in_ok-can_be_weighed.ensures.0 c.if-not-branch.false) in
    let are = subst (λ (f : Figures). AreBroken a f path rules) c.in_ok-figures.ensures c.in-Ok.ensures.broken in
    let none : Any (Contains (rules_due s.stage)) rules → ⊥ = λ some.
    false≢true (sym c.if-some_is_due.false ∙ c.some_is_due.ensures.1 (subst (λ (found : List Rule). Any (Contains (rules_due s.stage)) found) (sym c.as_slice-3.ensures.value) some)) in
    (c.in-Some.ensures.found, still_holds a s path rules complete weighed are none)
