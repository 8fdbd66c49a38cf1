-- from what an assignment takes and gives to what a prefix leaves, counted from one end
use Rattle.std.proofs.Common.{refl, ◌≡◌, ⊎_elim, ℕ, zero, suc, ◌<◌, ◌≤◌, ℤ, pos, ◌+ℤ◌, ◌-ℤ◌, ◌*ℤ◌, ◌≤ℤ◌, unsigned_abs, List, [], ◌∷◌, length, map, get_or, sym, ap, ap₂, ◌∙◌, subst, arith}
use Rattle.std.proofs.Math.IntN.{zero-*ℤ, suc_ℤ-*ℤ}
use Rattle.std.proofs.Math.ListN.{get_or-map}
use Rattle.std.proofs.lemmas.Bool.Decides.{leb_tells}
use Rattle.std.proofs.lemmas.Int.{ints}
use Rattle.std.proofs.lemmas.List.{get_or_past}
use Rattle.std.proofs.lemmas.Option.{slice_get_past}
use Rattle.std.proofs.lemmas.List.Elements.{All-map, All-weaker}
use Rattle.std.specs.Prelude.{All, slice_index_or}
use Rattle.std.specs.List.{AllZip}
use Rattle.hold_parts.specs.declared.parts.Item.{Item}
use Rattle.hold_limits.specs.Layout.{Layout}
use Rattle.hold_limits.specs.Placement.{placed_moment, influence_at}
use Rattle.hold_limits.specs.Problem.{Problem}
use Rattle.hold_reach.specs.Reach.{IsOpen}
use Rattle.hold_reach.proofs.ChoiceLemmas.{is_open-Decides}
use Rattle.assignment.specs.declared.candidate.Candidate.{Candidate}
use Rattle.assignment.specs.Costs.{MayStand, cost_in}
use Rattle.assignment.specs.Prices.{price_at, total}
use Rattle.assignment.specs.Ways.{cost_of}
use Rattle.assignment_prices.specs.declared.end.End.{End}
use Rattle.assignment_prices.specs.declared.end.End.TheVariants.{Low, High}
use Rattle.assignment_prices.specs.Priced.{AreSmall}
use Rattle.assignment_prices.specs.Steps.{counted_from, Bounds}
use Rattle.tight_reach.specs.Candidates.{IsCandidate, AreInfluences}

-- Numbers counted from an end -------------------------------------------------------------------

times-minus : (n : ℕ) (z : ℤ) → pos n *ℤ (pos 0 -ℤ z) ≡ pos 0 -ℤ pos n *ℤ z
times-minus zero z = omega (arith, ints, zero-*ℤ z, zero-*ℤ (pos 0 -ℤ z))
times-minus (suc n) z = omega (arith, ints, suc_ℤ-*ℤ (pos n) z, suc_ℤ-*ℤ (pos n) (pos 0 -ℤ z), times-minus n z)

pub counted-twice : (end : End) (x : ℤ) → counted_from end (counted_from end x) ≡ x
counted-twice Low x = refl
counted-twice High x = omega (arith, ints)

counted-sum : (end : End) (x y : ℤ) → counted_from end (counted_from end x +ℤ counted_from end y) ≡ x +ℤ y
counted-sum Low x y = refl
counted-sum High x y = omega (arith, ints)

pub counted-plus : (end : End) (x y : ℤ) → counted_from end (x +ℤ y) ≡ counted_from end x +ℤ counted_from end y
counted-plus Low x y = refl
counted-plus High x y = omega (arith, ints)

counted-none : (end : End) → counted_from end (pos 0) ≡ pos 0
counted-none Low = refl
counted-none High = omega (arith, ints)

counted-product : (end : End) (n : ℕ) (x : ℤ) → pos n *ℤ counted_from end x ≡ counted_from end (pos n *ℤ x)
counted-product Low n x = refl
counted-product High n x = times-minus n x

pub counted-size : (end : End) (x : ℤ) → unsigned_abs (counted_from end x) ≡ unsigned_abs x
counted-size Low x = refl
counted-size High x = omega (arith, ints)

pub total-counted : (end : End) (xs : List ℤ) → total (map (counted_from end) xs) ≡ counted_from end (total xs)
total-counted end [] = sym (counted-none end)
total-counted end (x ∷ xs) = ap (λ r. counted_from end x +ℤ r) (total-counted end xs) ∙ sym (counted-plus end x (total xs))

pub small-counted : (end : End) (xs : List ℤ) → AreSmall xs → AreSmall (map (counted_from end) xs)
small-counted end xs small = All-map (λ price. unsigned_abs price ≤ 10000000000000) (counted_from end) xs
    (All-weaker (λ price. unsigned_abs price ≤ 10000000000000) (λ price. unsigned_abs (counted_from end price) ≤ 10000000000000)
    (λ price is. subst (λ n. n ≤ 10000000000000) (sym (counted-size end price)) is) xs small)

pub signs-counted : (end : End) (xs : List ℤ) → All (λ price. price ≤ℤ pos 0) xs → All (λ price. counted_from end price ≤ℤ counted_from end (pos 0)) (map (counted_from end) xs)
signs-counted end xs signs = All-map (λ price. counted_from end price ≤ℤ counted_from end (pos 0)) (counted_from end) xs
    (All-weaker (λ price. price ≤ℤ pos 0) (λ price. counted_from end (counted_from end price) ≤ℤ counted_from end (pos 0))
    (λ price is. subst (λ n. n ≤ℤ counted_from end (pos 0)) (sym (counted-twice end price)) (subst (λ n. price ≤ℤ n) (sym (counted-none end)) is)) xs signs)

price-counted : (end : End) (xs : List ℤ) (q : ℕ) → price_at (map (counted_from end) xs) q ≡ counted_from end (price_at xs q)
price-counted end xs q = ap (λ d. slice_index_or (map (counted_from end) xs) q d) (sym (counted-none end)) ∙ get_or-map (counted_from end) xs q (pos 0)

-- Containers as candidates ----------------------------------------------------------------------

may-stand : (t : Problem) (prefix : List ℕ) (item : Item) (c : Candidate) (q : ℕ) → IsCandidate t prefix item c → IsOpen t prefix item q → MayStand c q
may-stand t prefix item c q is given = is.positions q ∙ (is_open-Decides t prefix item q).1 given

pub is-open : (t : Problem) (prefix : List ℕ) (item : Item) (c : Candidate) (q : ℕ) → IsCandidate t prefix item c → MayStand c q → IsOpen t prefix item q
is-open t prefix item c q is may = (is_open-Decides t prefix item q).0 (sym (is.positions q) ∙ may)

-- what the candidate costs is the moment of its container, counted from that end
cost-counted : (t : Problem) (prefix : List ℕ) (end : End) (influences : List ℤ) (item : Item) (c : Candidate) (q : ℕ) → IsCandidate t prefix item c → AreInfluences t.hold end influences
    → cost_in influences (c, q) ≡ counted_from end (placed_moment t.hold (item, q))
cost-counted t prefix end influences item c q is are =
    ap₂ (λ m x. pos m *ℤ x) is.mass (are.each q) ∙ counted-product end item.mass.0 (influence_at t.hold q)

-- lower prices of the candidates, counted from that end, are prices for it
pub bounds-counted : (t : Problem) (prefix : List ℕ) (end : End) (influences places : List ℤ) → AreInfluences t.hold end influences → (items : List Item) (candidates : List Candidate) (prices : List ℤ)
    → AllZip (IsCandidate t prefix) items candidates → AllZip (λ c price. (q : ℕ) → MayStand c q → (price +ℤ price_at places q) ≤ℤ cost_in influences (c, q)) candidates prices
    → AllZip (Bounds end t prefix (map (counted_from end) places)) items (map (counted_from end) prices)
bounds-counted t prefix end influences places are [] [] [] each bound = tt
bounds-counted t prefix end influences places are [] [] (x ∷ prices) each bound = absurd bound
bounds-counted t prefix end influences places are [] (c ∷ candidates) prices each bound = absurd each
bounds-counted t prefix end influences places are (item ∷ items) [] prices each bound = absurd each
bounds-counted t prefix end influences places are (item ∷ items) (c ∷ candidates) [] each bound = absurd bound
bounds-counted t prefix end influences places are (item ∷ items) (c ∷ candidates) (x ∷ prices) each bound = (
  λ q given.
      let most = bound.0 q (may-stand t prefix item c q each.0 given) in
      let sum : counted_from end (counted_from end x +ℤ price_at (map (counted_from end) places) q) ≡ x +ℤ price_at places q =
      ap (λ p. counted_from end (counted_from end x +ℤ p)) (price-counted end places q) ∙ counted-sum end x (price_at places q) in
      subst (λ n. n ≤ℤ counted_from end (placed_moment t.hold (item, q))) (sym sum)
      (subst (λ n. (x +ℤ price_at places q) ≤ℤ n) (cost-counted t prefix end influences item c q each.0 are) most),
  bounds-counted t prefix end influences places are items candidates prices each.1 bound.1,
)

-- Ways ------------------------------------------------------------------------------------------

pub way-of_candidates : (t : Problem) (prefix : List ℕ) (items : List Item) (candidates : List Candidate) (way : List ℕ) → AllZip (IsCandidate t prefix) items candidates → AllZip MayStand candidates way → AllZip (IsOpen t prefix) items way
way-of_candidates t prefix [] [] [] each may = tt
way-of_candidates t prefix [] [] (q ∷ way) each may = absurd may
way-of_candidates t prefix [] (c ∷ candidates) way each may = absurd each
way-of_candidates t prefix (item ∷ items) [] way each may = absurd each
way-of_candidates t prefix (item ∷ items) (c ∷ candidates) [] each may = absurd may
way-of_candidates t prefix (item ∷ items) (c ∷ candidates) (q ∷ way) each may = (is-open t prefix item c q each.0 may.0, way-of_candidates t prefix items candidates way each.1 may.1)

pub way-for_candidates : (t : Problem) (prefix : List ℕ) (items : List Item) (candidates : List Candidate) (way : List ℕ) → AllZip (IsCandidate t prefix) items candidates → AllZip (IsOpen t prefix) items way → AllZip MayStand candidates way
way-for_candidates t prefix [] [] [] each given = tt
way-for_candidates t prefix [] [] (q ∷ way) each given = absurd given
way-for_candidates t prefix [] (c ∷ candidates) way each given = absurd each
way-for_candidates t prefix (item ∷ items) [] way each given = absurd each
way-for_candidates t prefix (item ∷ items) (c ∷ candidates) [] each given = absurd given
way-for_candidates t prefix (item ∷ items) (c ∷ candidates) (q ∷ way) each given = (may-stand t prefix item c q each.0 given.0, way-for_candidates t prefix items candidates way each.1 given.1)

-- what the candidates cost on their positions is what the containers add there, counted from that end
pub cost_of-counted : (t : Problem) (prefix : List ℕ) (end : End) (influences : List ℤ) → AreInfluences t.hold end influences → (items : List Item) (candidates : List Candidate) (way : List ℕ) → AllZip (IsCandidate t prefix) items candidates
    → cost_of (cost_in influences) candidates way ≡ counted_from end (cost_of (placed_moment t.hold) items way)
cost_of-counted t prefix end influences are [] [] way each = sym (counted-none end)
cost_of-counted t prefix end influences are [] (c ∷ candidates) way each = absurd each
cost_of-counted t prefix end influences are (item ∷ items) [] way each = absurd each
cost_of-counted t prefix end influences are (item ∷ items) (c ∷ candidates) [] each = sym (counted-none end)
cost_of-counted t prefix end influences are (item ∷ items) (c ∷ candidates) (q ∷ way) each =
    ap₂ (λ a b. a +ℤ b) (cost-counted t prefix end influences item c q each.0 are) (cost_of-counted t prefix end influences are items candidates way each.1)
    ∙ sym (counted-plus end (placed_moment t.hold (item, q)) (cost_of (placed_moment t.hold) items way))

-- Influences --------------------------------------------------------------------------------------

-- beyond the positions there is neither an influence nor one counted from an end
pub beyond-counted : (hold : Layout) (end : End) (influences : List ℤ) → length influences ≡ length hold.positions
    → ((q : ℕ) → q < length influences → get_or influences q (pos 0) ≡ counted_from end (influence_at hold q)) → (q : ℕ) → get_or influences q (pos 0) ≡ counted_from end (influence_at hold q)
beyond-counted hold end influences count each q = ⊎_elim
    (λ past.
    let none : influence_at hold q ≡ pos 0 = rw (slice_get_past hold.positions q (omega (arith, past.1, count))) refl in
    get_or_past influences q (pos 0) past.1 ∙ sym (counted-none end) ∙ ap (counted_from end) (sym none))
    (λ within. each q within.1)
    (leb_tells (length influences) q)
