use Rattle.std.proofs.Common.{◌≡◌, ◌≤◌, List, ℕ, None, length, sym, subst, refl}
use Rattle.flight_state.specs.declared.state.FlightState.{FlightState}
use Rattle.std.proofs.lemmas.Result.{IfOk-weaker}
use Rattle.flight_row.specs.Loading.{AreNamed, IsLoaded, state_with, without_plan}
use Rattle.flight_row.specs.Loading.IsLoaded.{unplanned}
use Rattle.flight_row.proofs.LoadLemmas.{keeps_limits, is_planned, is_dropped}
use Rattle.flight_row.proofs.loading.loaded.Goals as goal

pub plan_that_holds-requires : goal.plan_that_holds-requires
plan_that_holds-requires c =
    let plan = rw c.in-Some.is at c.requires.plan in
    record {
      limits = keeps_limits (state_with c.args.row None) c.requires.base c.requires.changes c.requires.edition;
      few = subst (λ (names : List (List ℕ)). length names ≤ 60) (sym c.as_slice.ensures) plan.few;
    }

pub without_plan-requires : goal.without_plan-requires
without_plan-requires c = record { changes = c.requires.changes; edition = c.requires.edition; unplanned = refl }

pub returns-in_default : goal.returns-in_default
returns-in_default c = unplanned c.in_default.is

pub returns : goal.returns
returns c =
    let a = c.args.a.now in
    let row = c.args.row in
    let names = c.in-Some.names in
    let plan = c.in-Some-2.plan in
    let found = rw c.in-Some-2.is at c.in_ok-plan.ensures.found in
    let named = subst (λ (ns : List (List ℕ)). AreNamed a ns plan.items) c.as_slice.ensures found.0 in
    subst (IsLoaded a row) (sym c.with_plan.ensures) (is_planned a row names plan c.in-Some.is (named, found.1))

pub returns-in_default-2 : goal.returns-in_default-2
returns-in_default-2 c =
    let a = c.args.a.now in
    let row = c.args.row in
    let names = c.in-Some.names in
    let none = rw c.in_default-2.is at c.in_ok-plan.ensures.none in
    let loaded = is_dropped a row names c.in-Some.is (λ path named holds. none path (subst (λ (ns : List (List ℕ)). AreNamed a ns path) (sym c.as_slice.ensures) named) holds) in
    IfOk-weaker c.without_plan.result (λ (s : FlightState). s ≡ without_plan row.stage (state_with row None)) (IsLoaded a row) (λ s e. subst (IsLoaded a row) (sym e) loaded) c.without_plan.ensures
