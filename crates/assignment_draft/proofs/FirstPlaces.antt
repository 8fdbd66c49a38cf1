-- what ways cost that give the first candidate a position
use Rattle.std.proofs.Common.{ℕ, zero, suc, ◌≢◌, List, [], ◌∷◌, set, get_or, sym, arith}
use Rattle.std.specs.Prelude.{ℤ, pos, ◌+ℤ◌, ◌-ℤ◌, ◌≤ℤ◌, All}
use Rattle.std.specs.List.{AllZip}
use Rattle.std.proofs.lemmas.Int.{ints}
use Rattle.std.proofs.lemmas.List.{get_or-set_other}
use Rattle.std.proofs.lemmas.List.Elements.{All-head, All-tail, All-set}
use Rattle.assignment.specs.Ways.{IsWay, cost_of}
use Rattle.assignment.specs.Prices.{price_at, total, AreLowerPrices}
use Rattle.assignment.proofs.WeakDuality.{lower-bounds, total-taken}

module _ {A : Type 0} (May : A → ℕ → Type 0) (cost : A × ℕ → ℤ) (position : ℕ) where
  -- it may stand there, and not on the position
  abbrev MayElse : A → ℕ → Type 0
  MayElse a q = May a q × (q ≢ position)

  ways-else : (candidates : List A) (way : List ℕ) → AllZip May candidates way → All (λ q. q ≢ position) way → AllZip MayElse candidates way
  ways-else [] [] each apart = tt
  ways-else [] (q ∷ way) each apart = absurd each
  ways-else (a ∷ candidates) [] each apart = absurd each
  ways-else (a ∷ candidates) (q ∷ way) each apart =
      ((each.0, All-head (λ q. q ≢ position) q way apart), ways-else candidates way each.1 (All-tail (λ q. q ≢ position) q way apart))

  -- prices bound what candidates cost elsewhere too where the position has no price
  bounds-else : (candidates : List A) (items places : List ℤ) → AllZip (λ a price. (q : ℕ) → May a q → (price +ℤ price_at places q) ≤ℤ cost (a, q)) candidates items
      → AllZip (λ a price. (q : ℕ) → MayElse a q → (price +ℤ price_at (set places position (pos 0)) q) ≤ℤ cost (a, q)) candidates items
  bounds-else [] [] places bound = tt
  bounds-else [] (u ∷ items) places bound = absurd bound
  bounds-else (a ∷ candidates) [] places bound = absurd bound
  bounds-else (a ∷ candidates) (u ∷ items) places bound =
      (λ q may. rw (get_or-set_other places position q (pos 0) (pos 0) may.1) (bound.0 q may.0), bounds-else candidates items places bound.1)

  -- no way costs less that gives the first candidate the position
  pub least-on : (candidates : List A) (items places : List ℤ) (rest : List ℕ) (d : A) → AreLowerPrices May cost candidates items places → IsWay May candidates (position ∷ rest)
      → (((total items +ℤ total places) -ℤ (price_at items 0 +ℤ price_at places position)) +ℤ cost (get_or candidates 0 d, position)) ≤ℤ cost_of cost candidates (position ∷ rest)
  least-on [] items places rest d prices way = absurd way.each
  least-on (a ∷ candidates) [] places rest d prices way = absurd prices.bound
  least-on (a ∷ candidates) (u ∷ items) places rest d prices way =
      let others = lower-bounds MayElse cost candidates items (set places position (pos 0)) rest
      record {
        signs = All-set (λ price. price ≤ℤ pos 0) places position (pos 0) (omega (arith, ints)) prices.signs;
        bound = bounds-else candidates items places prices.bound.1;
      }
      record {
        each = ways-else candidates rest way.each.1 (λ k q within same. way.apart zero (suc k) q (omega arith) (omega (arith, within)) (sym same));
        apart = λ i j q before within. way.apart (suc i) (suc j) q (omega (arith, before)) (omega (arith, within));
      } in
      let split = total-taken places (position ∷ []) (λ i j q before within. absurd (omega (arith, before, within))) in
      omega (arith, ints, others, split)
