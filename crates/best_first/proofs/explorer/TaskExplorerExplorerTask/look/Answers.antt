use Rattle.std.proofs.Common.{◌≡◌, ℕ, List, sym, ap, subst}
use Rattle.std.specs.Prelude.{IfOk, Result, Ok, Err}
use Rattle.hold_limits.specs.Problem.{Problem}
use Rattle.hold_partial.specs.Placing.{Placing, placing_of}
use Rattle.hold_reach.proofs.ViableLemmas.{band-in_order}
use Rattle.path_search.specs.declared.explorer.Look.{Look}
use Rattle.path_search.specs.declared.explorer.Look.TheVariants.{Settled, Later, TurnedBack}
use Rattle.best_first.specs.Looks.{Shows}
use Rattle.best_first.proofs.explorer.TaskExplorerExplorerTask.look.Goals as goal

pub go_to-requires : goal.go_to-requires
go_to-requires g c =
    let t = c.args.self.now.partial.task in
    let laws = c.laws.ensures t (band-in_order t c.task-lawful.ensures.lawful) in
    (laws.waiting c.args.prefix.now c.args.waited c.requires.waits).sound

-- a look shows the same where what it is at is known by more
shows-more : (HasBound MayWait : ℕ → Type 0) (A B : Type 0) (waited : ℕ) (look : Look) → (A → B) → Shows HasBound MayWait A waited look → Shows HasBound MayWait B waited look
shows-more HasBound MayWait A B waited Settled more given = (given.0, more given.1)
shows-more HasBound MayWait A B waited (Later ticks) more given = given
shows-more HasBound MayWait A B waited TurnedBack more given = given

if-shown : {E : Type 0} (o : Result Look E) (HasBound MayWait : ℕ → Type 0) (A B : Type 0) (waited : ℕ) → (A → B) → IfOk o (Shows HasBound MayWait A waited) → IfOk o (Shows HasBound MayWait B waited)
if-shown (Ok look) HasBound MayWait A B waited more given = shows-more HasBound MayWait A B waited look more given
if-shown (Err fault) HasBound MayWait A B waited more given = tt

pub returns-clause-shown : goal.returns-clause-shown
returns-clause-shown g c =
    let t = c.args.self.now.partial.task in
    let prefix = c.args.prefix.now in
    let At : Problem → List ℕ → Type 0 = g.H.Horizon.is_at c.look.new.self in
    let here : c.go_to.new.partial ≡ placing_of t prefix = c.go_to.ensures in
    if-shown c.look.result (g.H.Horizon.has_bound t prefix) (g.H.Horizon.may_wait t prefix) (At t prefix) _ c.args.waited
    (λ at. (ap (λ (p : Placing). p.prefix) here, subst (λ u. At u prefix) (sym (ap (λ (p : Placing). p.task) here)) at))
    (subst (λ (p : Placing). IfOk c.look.result (Shows (g.H.Horizon.has_bound p.task p.prefix) (g.H.Horizon.may_wait p.task p.prefix) (At p.task p.prefix) c.args.waited)) here c.look.ensures.shown)
