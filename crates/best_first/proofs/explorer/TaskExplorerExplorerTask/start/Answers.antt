use Rattle.std.proofs.Common.{ℕ, [], Option, Some, None, subst}
use Rattle.std.specs.Prelude.{IfSome}
use Rattle.hold_limits.specs.Problem.{Problem}
use Rattle.hold_reach.proofs.ViableLemmas.{band-in_order}
use Rattle.best_first.specs.Bounds.{HasReachBound}
use Rattle.best_first.proofs.explorer.TaskExplorerExplorerTask.start.Goals as goal

-- what follows from a bound, where there is one
if-weaker : (o : Option ℕ) (P Q : ℕ → Type 0) → ((b : ℕ) → P b → Q b) → IfSome o P → IfSome o Q
if-weaker None P Q weaker given = tt
if-weaker (Some b) P Q weaker given = weaker b given

pub returns-then-move_to-clause-found : goal.returns-then-move_to-clause-found
returns-then-move_to-clause-found g c =
    let t = c.args.self.now.partial.task in
    let laws = c.laws.ensures t (band-in_order t c.task-lawful.ensures.lawful) in
    let found : IfSome c.viable_bound.result (HasReachBound t []) =
    subst (λ prefix. IfSome c.viable_bound.result (HasReachBound t prefix)) (c.move_to.ensures.moved c.if-move_to.true)
    (subst (λ (u : Problem). IfSome c.viable_bound.result (HasReachBound u c.move_to.new.partial.prefix)) c.move_to.ensures.task c.viable_bound.ensures.found) in
    if-weaker c.viable_bound.result (HasReachBound t []) (g.H.Horizon.may_wait t []) (laws.reach []) found
