-- what drafts for the ends of the tight reach show of it
use Rattle.std.proofs.Common.{refl, ◌≡◌, ℕ, ◌≤◌, ℤ, ◌+ℤ◌, ◌-ℤ◌, ◌≤ℤ◌, unsigned_abs, w64, to_z, of_z, List, [], ◌∷◌, ◌++◌, sym, ap, ap₂, ◌∙◌, subst, arith}
use Rattle.std.proofs.lemmas.Int.{ints, to_z-of_z}
use Rattle.hold_limits.specs.Placement.{IsSound, hold_index}
use Rattle.hold_limits.specs.Problem.{Problem}
use Rattle.hold_limits.specs.Twins.{IsRising}
use Rattle.hold_reach.specs.Choices.{IsWithin}
use Rattle.hold_reach.specs.Reach.{remaining}
use Rattle.assignment.specs.Costs.{MayStand, cost_in}
use Rattle.assignment.specs.Ways.{IsWay, cost_of}
use Rattle.assignment_draft.specs.Drafts.{Work}
use Rattle.assignment_prices.specs.declared.end.End.{End}
use Rattle.assignment_prices.specs.declared.end.End.TheVariants.{Low, High}
use Rattle.assignment_prices.specs.Steps.{counted_from}
use Rattle.assignment_prices.specs.TightReach.{AllowsTightly, IsWayFrom, moment_of_way}
use Rattle.assignment_prices.proofs.WayLemmas.{allows-with}
use Rattle.tight_reach.proofs.Crossing.{counted-twice, cost_of-counted, way-for_candidates, way-of_candidates}
use Rattle.tight_bracket.specs.Brackets.{IsDraftFor}

-- no way of the draft's candidates costs less
abbrev pub IsLeast : Work → ℤ → Type 0
IsLeast work least = (way : List ℕ) → IsWay MayStand work.candidates way → least ≤ℤ cost_of (cost_in work.influences) work.candidates way

-- the same of the ways that give the first one this position
abbrev pub IsLeastOn : Work → ℕ → ℤ → Type 0
IsLeastOn work q least = (rest : List ℕ) → IsWay MayStand work.candidates (q ∷ rest) → least ≤ℤ cost_of (cost_in work.influences) work.candidates (q ∷ rest)

-- a way of the draft's candidates costs so much
abbrev pub IsCostOfWay : Work → ℤ → Type 0
IsCostOfWay work cost = (way : List ℕ) × IsWay MayStand work.candidates way × (cost_of (cost_in work.influences) work.candidates way ≡ cost)

module _ (t : Problem) (prefix : List ℕ) (end : End) (work : Work) (for : IsDraftFor t prefix end work) where
  for-candidates : (way : List ℕ) → IsWayFrom t prefix way → IsWay MayStand work.candidates way
  for-candidates way is = record {
    each = way-for_candidates t prefix (remaining t prefix) work.candidates way for.candidates is.each;
    apart = is.apart;
  }

  cost-counted : (way : List ℕ) → cost_of (cost_in work.influences) work.candidates way ≡ counted_from end (moment_of_way t prefix way)
  cost-counted way = cost_of-counted t prefix end work.influences for.influences (remaining t prefix) work.candidates way for.candidates

  least-counted : (least : ℤ) → IsLeast work least → (way : List ℕ) → IsWayFrom t prefix way → least ≤ℤ counted_from end (moment_of_way t prefix way)
  least-counted least law way is = subst (λ n. least ≤ℤ n) (cost-counted way) (law way (for-candidates way is))

  least_on-counted : (q : ℕ) (least : ℤ) → IsLeastOn work q least → (rest : List ℕ) → IsWayFrom t prefix (q ∷ rest) → least ≤ℤ counted_from end (moment_of_way t prefix (q ∷ rest))
  least_on-counted q least law rest is = subst (λ n. least ≤ℤ n) (cost-counted (q ∷ rest)) (law rest (for-candidates (q ∷ rest) is))

  -- a way of the draft is one of the containers, and adds what it costs, counted from the end
  pub allowed-by_way : (cost : ℤ) → IsCostOfWay work cost → AllowsTightly t prefix (hold_index t prefix +ℤ counted_from end cost)
  allowed-by_way cost way = (
    way.0,
    record { each = way-of_candidates t prefix (remaining t prefix) work.candidates way.0 for.candidates way.1.each; apart = way.1.apart },
    ap (λ m. hold_index t prefix +ℤ m) (sym (sym (counted-twice end (moment_of_way t prefix way.0)) ∙ ap (counted_from end) (sym (cost-counted way.0) ∙ way.2))) ∙ refl,
  )

-- what lies between the leasts of both ends
module _ (t : Problem) (prefix : List ℕ) (low high : Work) (low_for : IsDraftFor t prefix Low low) (high_for : IsDraftFor t prefix High high) where
  pub around-ends : (least greatest index : ℤ) → IsLeast low least → IsLeast high greatest → AllowsTightly t prefix index
      → IsWithin (hold_index t prefix +ℤ least, hold_index t prefix -ℤ greatest) index
  around-ends least greatest index lower upper given =
      let below = least-counted t prefix Low low low_for least lower given.0 given.1 in
      let above = least-counted t prefix High high high_for greatest upper given.0 given.1 in
      (omega (arith, ints, below, given.2), omega (arith, ints, above, given.2))

  pub around-ends_on : (q : ℕ) (least greatest index : ℤ) → IsLeastOn low q least → IsLeastOn high q greatest → IsSound t (prefix ++ q ∷ []) → IsRising t (prefix ++ q ∷ [])
      → AllowsTightly t (prefix ++ q ∷ []) index → IsWithin (hold_index t prefix +ℤ least, hold_index t prefix -ℤ greatest) index
  around-ends_on q least greatest index lower upper sound rising given =
      let with = allows-with t prefix q index sound rising given in
      let below = least_on-counted t prefix Low low low_for q least lower with.0 with.1 in
      let above = least_on-counted t prefix High high high_for q greatest upper with.0 with.1 in
      (omega (arith, ints, below, with.2), omega (arith, ints, above, with.2))

-- Sums of numbers that are kept -------------------------------------------------------------------

-- a hold index with what is added to it is kept in 64 bits
pub sum-fits : (x y : ℤ) → unsigned_abs x ≤ 248000000000 → unsigned_abs y ≤ 2000000000000000 → to_z w64 (of_z w64 (to_z w64 (of_z w64 x) +ℤ to_z w64 (of_z w64 y))) ≡ x +ℤ y
sum-fits x y near far =
    ap₂ (λ a b. to_z w64 (of_z w64 (a +ℤ b))) (to_z-of_z w64 x (omega (arith, ints, near))) (to_z-of_z w64 y (omega (arith, ints, far)))
    ∙ to_z-of_z w64 (x +ℤ y) (omega (arith, ints, near, far))

-- and so is it with what is taken from it
pub difference-fits : (x y : ℤ) → unsigned_abs x ≤ 248000000000 → unsigned_abs y ≤ 2000000000000000 → to_z w64 (of_z w64 (to_z w64 (of_z w64 x) -ℤ to_z w64 (of_z w64 y))) ≡ x -ℤ y
difference-fits x y near far =
    ap₂ (λ a b. to_z w64 (of_z w64 (a -ℤ b))) (to_z-of_z w64 x (omega (arith, ints, near))) (to_z-of_z w64 y (omega (arith, ints, far)))
    ∙ to_z-of_z w64 (x -ℤ y) (omega (arith, ints, near, far))
