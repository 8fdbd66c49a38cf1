use Rattle.std.proofs.Common.{◌≡◌, ℕ, ◌+◌, List, [], ◌∷◌, ◌++◌, subst, sym, ◌∙◌, arith}
use Rattle.std.proofs.lemmas.Bool.{false≢true}
use Rattle.hold_limits.specs.Problem.{Problem}
use Rattle.path_search.specs.Search.{AddsChildren}
use Rattle.path_search.specs.Worlds.{IsSearchable}
use Rattle.path_search.proofs.SearchLemmas.{AddsChildren-passed, AddsChildren-added}
use Rattle.stop_tasks.specs.Stops.{Stops}
use Rattle.stop_world.specs.StopWorlds.{MayWaitAtStops, stop_world}
use Rattle.stop_placer.proofs.WaitingLemmas.{first-band, longer-waits, sound-at_start}
use Rattle.stop_placer.proofs.children.add_children.Goals as goal
use Rattle.stop_placer.proofs.children.add_children.Goals.{then-contains+in_ok-add, else-contains}

pub loop-number-preserved : goal.loop-number-preserved
loop-number-preserved c =
    let t : Stops = c.args.stops.now in
    let front : List ℕ = c.args.prefix.now in
    let bound : ℕ = c.args.bound in
    let number : ℕ = c.loop-number.number in
    let old = c.args.queue.now in
    let first : Problem = c.first-first.result.now in
    let is_first = c.first-first.ensures.value in
    let laws : IsSearchable (stop_world t) (MayWaitAtStops t) = c.stop_world_laws.ensures.searchable t c.first-first.ensures.lawful (first-band t first is_first c.items-lawful.ensures.lawful) in
    let fits = (c.requires.next first is_first).fits number in
    elim c.if-contains.branch [
      | then-contains+in_ok-add w ↦
          let path : List ℕ = w.longer-prefix.result.items in
          let is : path ≡ front ++ number ∷ [] = w.longer-prefix.ensures in
          let sound = sound-at_start t first (front ++ number ∷ []) is_first (fits.0 (sym c.contains.ensures ∙ w.if-contains.true)) in
          let waiting : MayWaitAtStops t path w.max-bound.result = subst (λ p. MayWaitAtStops t p w.max-bound.result) (sym is)
          (longer-waits t first front number bound w.least_bound_on.result w.max-bound.result laws c.requires.bound is_first w.least_bound_on.ensures w.max-bound.ensures sound) in
          subst (λ queue. AddsChildren (stop_world t) (MayWaitAtStops t) front bound (number + 1) old queue) (sym w.queue-is)
          (AddsChildren-added (stop_world t) (MayWaitAtStops t) front bound number old c.loop-number.queue _ (w.max-bound.result, path) waiting (omega arith) is w.in_ok-add.ensures.added c.loop-number.invariant)
      | else-contains w ↦
          subst (λ queue. AddsChildren (stop_world t) (MayWaitAtStops t) front bound (number + 1) old queue) (sym w.queue-is)
          (AddsChildren-passed (stop_world t) (MayWaitAtStops t) front bound number old c.loop-number.queue
          (λ sound. false≢true (sym w.if-contains.false ∙ c.contains.ensures ∙ fits.1 (sound first is_first)))
          c.loop-number.invariant)
    ]
