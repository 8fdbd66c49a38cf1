use Rattle.std.proofs.Common.{◌≡◌, ℕ, ◌+◌, List, [], ◌∷◌, ◌++◌, length, sym, ap, subst, arith, ◌∙◌}
use Rattle.hold_limits.specs.Problem.{Problem}
use Rattle.hold_limits.specs.declared.hold.Hold.{Hold}
use Rattle.hold_partial.specs.Placing.{Placing}
use Rattle.hold_reach.specs.Reach.{IsViable}
use Rattle.path_search.specs.Search.{AddsChildren}
use Rattle.path_search.specs.Worlds.{World}
use Rattle.best_first.specs.Bounds.{world_of}
use Rattle.path_search.proofs.SearchLemmas.{AddsChildren-none, AddsChildren-passed, AddsChildren-added}
use Rattle.best_first.proofs.children.add_children.Goals as goal
use Rattle.best_first.proofs.children.add_children.Goals.{in-Some+in_ok-add, in_default}

pub loop-number-init : goal.loop-number-init
loop-number-init g c = AddsChildren-none (world_of c.args.partial.now.task (g.H.Horizon.has_bound c.args.partial.now.task)) (g.H.Horizon.may_wait c.args.partial.now.task) c.args.partial.now.prefix c.args.bound c.args.queue.now

pub loop-number-preserved : goal.loop-number-preserved
loop-number-preserved g c =
    let t : Problem = c.args.partial.now.task in
    let world : World = world_of t (g.H.Horizon.has_bound t) in
    let waits : List ℕ → ℕ → Type 0 = g.H.Horizon.may_wait t in
    let front : List ℕ = c.args.partial.now.prefix in
    let bound : ℕ = c.args.bound in
    let number : ℕ = c.loop-number.number in
    let old = c.args.queue.now in
    let same = c.outlook-outlook.ensures in
    elim c.match-bound_on.branch [
      | in-Some+in_ok-add w ↦
          let path : List ℕ = w.longer-prefix.result.items in
          let is : path ≡ front ++ number ∷ [] = w.longer-prefix.ensures ∙ ap (λ (numbers : List ℕ). numbers ++ number ∷ []) w.prefix.ensures.value in
          let waiting : waits path w.wait_on-bound.result = subst (λ p. waits p w.wait_on-bound.result) (sym is) w.wait_on-bound.ensures.waits in
          subst (λ queue. AddsChildren world waits front bound (number + 1) old queue) (sym w.queue-is)
          (AddsChildren-added world waits front bound number old c.loop-number.queue _ (w.wait_on-bound.result, path) waiting w.wait_on-bound.ensures.later is w.in_ok-add.ensures.added c.loop-number.invariant)
      | in_default w ↦
          subst (λ queue. AddsChildren world waits front bound (number + 1) old queue) (sym w.queue-is)
          (AddsChildren-passed world waits front bound number old c.loop-number.queue
          (subst (λ (p : Placing). IsViable p.task (p.prefix ++ number ∷ []) → ⊥) same w.in_default.ensures.none)
          c.loop-number.invariant)
    ]

pub returns : goal.returns
returns g c =
    let t : Problem = c.args.partial.now.task in
    let count : c.position_count-number-end.result ≡ length t.hold.positions =
    c.position_count-number-end.ensures.value ∙ ap (λ (h : Hold). length h.positions) (c.hold.ensures.value ∙ ap (λ (u : Problem). u.hold) c.task.ensures.value) in
    let all : c.loop-number.number ≡ length t.hold.positions = omega (arith, count, c.loop-number.auto.number-end, c.loop-number-test.false) in
    subst (λ n. AddsChildren (world_of t (g.H.Horizon.has_bound t)) (g.H.Horizon.may_wait t) c.args.partial.now.prefix c.args.bound n c.args.queue.now c.loop-number.queue) all c.loop-number.invariant
