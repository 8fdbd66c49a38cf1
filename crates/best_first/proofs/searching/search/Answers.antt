use Rattle.std.proofs.Common.{refl, ℕ, List, []}
use Rattle.hold_reach.specs.Reach.{IsViable}
use Rattle.hold_reach.proofs.ViableLemmas.{band-in_order}
use Rattle.path_search.specs.Worlds.{IsSearchable}
use Rattle.path_search.proofs.AnswerLemmas.{nothing-found, nothing-enough}
use Rattle.best_first.specs.Bounds.{world_of}
use Rattle.best_first.proofs.BoundLemmas.{searchable}
use Rattle.best_first.proofs.searching.search.Goals as goal

-- Nothing is sound ------------------------------------------------------------------------------

pub returns-in_default-clause-found : goal.returns-in_default-clause-found
returns-in_default-clause-found g c =
    let t = c.args.task.now in
    let has : List ℕ → ℕ → Type 0 = g.H.Horizon.has_bound t in
    let waits : List ℕ → ℕ → Type 0 = g.H.Horizon.may_wait t in
    let laws : IsSearchable (world_of t has) waits = searchable t has waits (c.laws.ensures t (band-in_order t c.items-lawful.ensures.lawful)) in
    let not : IsViable t [] → ⊥ = λ viable. absurd (let ok = c.in_default.ensures.sound.1 viable.sound in cc) in
    nothing-found (world_of t has) waits laws _ not refl c.new-in_default.ensures.items refl

pub returns-in_default-clause-enough : goal.returns-in_default-clause-enough
returns-in_default-clause-enough g c =
    let t = c.args.task.now in
    let has : List ℕ → ℕ → Type 0 = g.H.Horizon.has_bound t in
    let waits : List ℕ → ℕ → Type 0 = g.H.Horizon.may_wait t in
    let laws : IsSearchable (world_of t has) waits = searchable t has waits (c.laws.ensures t (band-in_order t c.items-lawful.ensures.lawful)) in
    let not : IsViable t [] → ⊥ = λ viable. absurd (let ok = c.in_default.ensures.sound.1 viable.sound in cc) in
    nothing-enough (world_of t has) waits laws c.args.budget not
