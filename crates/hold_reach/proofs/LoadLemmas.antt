-- how large the masses and the loads of a lawful task are, and which limits they break
use Rattle.std.proofs.Common.{◌≡◌, ℕ, ◌*◌, ◌<◌, ◌≤◌, Bool, true, false, nat_lt, List, length, get_or, Option, Some, All, ap₂, ◌∙◌, arith}
use Rattle.std.proofs.lemmas.List.Sums.{sum_by-le}
use Rattle.std.proofs.lemmas.Option.{get_or_from_slice_get, slice_get_within}
use Rattle.std.specs.Prelude.{slice_get, position, if◌then◌else◌}
use Rattle.hold_parts.specs.declared.parts.Combined.{Combined}
use Rattle.hold_parts.specs.declared.parts.Cumulative.{Cumulative}
use Rattle.hold_parts.specs.declared.parts.Item.{Item}
use Rattle.hold_parts.specs.declared.parts.Loose.{Loose}
use Rattle.hold_parts.specs.Limits.{is_listed, is_counted}
use Rattle.hold_limits.specs.Problem.{Problem}
use Rattle.hold_limits.specs.BranchOrder.{ordered}
use Rattle.hold_limits.specs.Faults.{IsLawful}
use Rattle.hold_limits.specs.Placement.{loose_load}
use Rattle.hold_limits.specs.Stowage.{stowed}
use Rattle.hold_limits.proofs.BranchOrderLemmas.{rank-is}
use Rattle.hold_limits.proofs.LawfulBounds.{lawful-bounds}
use Rattle.hold_limits.proofs.StowageLemmas.{load-stowed}
use Rattle.hold_reach.specs.Rules.{breaks_combined, breaks_cumulative}

-- a container of a lawful task has at most 20,000 kg
pub mass-at : (t : Problem) → IsLawful t → (rank : ℕ) (item : Item) → rank < length t.items → slice_get (ordered t.items) rank ≡ Some item → item.mass.0 ≤ 20000
mass-at t lawful rank item within there =
    let bounds = lawful-bounds t lawful in
    let r = rank-is t.items rank within in
    let light = rw (get_or_from_slice_get t.items r.0.0 r.0.1 r.0.1 r.3) at (bounds.item_masses r.0.0 r.0.1 (slice_get_within t.items r.0.0 r.0.1 r.3)) in
    let there_too : slice_get (ordered t.items) rank ≡ Some r.0.1 = r.2 in
    let same : item ≡ r.0.1 = cc in
    rw same light

-- the loose loads of a lawful task come to at most 64 times 20,000 kg
pub loose_load-bound : (is_in : ℕ → Bool) (t : Problem) → IsLawful t → loose_load is_in t.loose ≤ 1280000
loose_load-bound is_in t lawful =
    let bounds = lawful-bounds t lawful in
    let mass : Loose → ℕ = λ l. if is_in l.position then l.mass.0 else 0 in
    let each : All (λ (l : Loose). mass l ≤ 20000) t.loose = λ k d within. counted-few (is_in (get_or t.loose k d).position) (get_or t.loose k d).mass.0 (bounds.loose_masses k d within) in
    let most : loose_load is_in t.loose ≤ length t.loose * 20000 = sum_by-le mass 20000 t.loose each in
    omega (arith, most, bounds.loose)
  where
    counted-few : (counts : Bool) (mass : ℕ) → mass ≤ 20000 → (if counts then mass else 0) ≤ 20000
    counted-few true mass few = few
    counted-few false mass few = omega arith

-- the first limit that what is stowed breaks is the first that the prefix breaks
pub broken_combined-is : (t : Problem) (prefix : List ℕ) (loads : List Loose) (limits : List Combined) (found : Option ℕ)
    → loads ≡ stowed t.items prefix t.loose → limits ≡ t.hold.combined → found ≡ position (λ (c : Combined). nat_lt c.most.0 (loose_load (is_listed c.places) loads)) limits
    → found ≡ position (breaks_combined t prefix) t.hold.combined
broken_combined-is t prefix loads limits found all known is =
    is
    ∙ ap₂ (λ (ls : List Loose) (cs : List Combined). position (λ (c : Combined). nat_lt c.most.0 (loose_load (is_listed c.places) ls)) cs) all known
    ∙ (λ i. position (λ (c : Combined). nat_lt c.most.0 (load-stowed (is_listed c.places) t prefix i)) t.hold.combined)

pub broken_cumulative-is : (t : Problem) (prefix : List ℕ) (loads : List Loose) (limits : List Cumulative) (found : Option ℕ)
    → loads ≡ stowed t.items prefix t.loose → limits ≡ t.hold.cumulative → found ≡ position (λ (c : Cumulative). nat_lt c.most.0 (loose_load (is_counted c) loads)) limits
    → found ≡ position (breaks_cumulative t prefix) t.hold.cumulative
broken_cumulative-is t prefix loads limits found all known is =
    is
    ∙ ap₂ (λ (ls : List Loose) (cs : List Cumulative). position (λ (c : Cumulative). nat_lt c.most.0 (loose_load (is_counted c) ls)) cs) all known
    ∙ (λ i. position (λ (c : Cumulative). nat_lt c.most.0 (load-stowed (is_counted c) t prefix i)) t.hold.cumulative)
