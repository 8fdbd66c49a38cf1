-- what spans around the tight reach and within it show of the bound of a prefix
use Rattle.std.proofs.Common.{refl, ◌≡◌, ◌⊎◌, ⊎_elim, ℕ, ◌≤◌, ℤ, ◌≤ℤ◌, List, [], ◌∷◌, ◌++◌, Option, Some, None, sym, subst, arith}
use Rattle.hold_limits.specs.Problem.{Problem}
use Rattle.hold_reach.specs.Reach.{IsViable, Meets, gap_to_ideal}
use Rattle.hold_reach.specs.Choices.{IsWithin, LiesIn}
use Rattle.assignment_prices.specs.TightReach.{AllowsTightly, IsTightReach}
use Rattle.assignment_prices.proofs.LeastWay.{tight-exists}
use Rattle.best_first.specs.Bounds.{HasReachBound}
use Rattle.priced_placer.specs.PriceNear.{HasTightBound}
use Rattle.priced_placer.specs.Waits.{MayWaitTightly}
use Rattle.priced_placer.proofs.TightBounds.{one-bound, bound-narrows, tight-in_order, gap-wider, common-wider, reach-waits}

-- each hold index that the prefix allows tightly is in the span
abbrev pub IsAround : Problem → List ℕ → ℤ × ℤ → Type 0
IsAround t prefix span = (index : ℤ) → AllowsTightly t prefix index → IsWithin span index

module _ (t : Problem) (prefix : List ℕ) where
  lies-around : (span ends : ℤ × ℤ) → IsAround t prefix span → IsTightReach t prefix (Some ends) → LiesIn ends span
  lies-around span ends around is = ((around ends.0 is.least).0, (around ends.1 is.greatest).1)

  -- where a span around misses the window there is no bound
  pub none-around : (span : ℤ × ℤ) → IsAround t prefix span → (Meets t.low t.high (Some span) → ⊥) → (b : ℕ) → HasTightBound t prefix b → ⊥
  none-around span around missed b has = missed (common-wider t.low t.high has.ends span (lies-around span has.ends around has.reach) has.window)

  -- the bound is at least the gap of a span around
  pub gap-around : (span : ℤ × ℤ) → t.ideal_low ≤ℤ t.ideal_high → IsAround t prefix span → (b : ℕ) → HasTightBound t prefix b → gap_to_ideal t span ≤ b
  gap-around span band around b has = subst (λ n. gap_to_ideal t span ≤ n) (sym has.is)
      (gap-wider t has.ends span band (tight-in_order t prefix has.ends has.reach) (lies-around span has.ends around has.reach))

  -- where a span within meets the window and its gap is what the prefix waited with, this is the bound
  pub bound-within : (span : ℤ × ℤ) (waited : ℕ) → t.ideal_low ≤ℤ t.ideal_high → AllowsTightly t prefix span.0 → AllowsTightly t prefix span.1 → span.0 ≤ℤ span.1
      → Meets t.low t.high (Some span) → waited ≡ gap_to_ideal t span → MayWaitTightly t prefix waited → HasTightBound t prefix waited
  bound-within span waited band low high rising meets gap may = let there = tight-exists t prefix in cases there.0 there.1
    where
      cases : (reached : Option (ℤ × ℤ)) → IsTightReach t prefix reached → HasTightBound t prefix waited
      cases None none = absurd (none span.0 low)
      cases (Some ends) is =
          let lies : LiesIn span ends = ((is.between span.0 low).0, (is.between span.1 high).1) in
          let own : HasTightBound t prefix (gap_to_ideal t ends) = record {
            viable = may.viable;
            ends = ends;
            reach = is;
            window = common-wider t.low t.high span ends lies meets;
            is = refl;
          } in
          let less = gap-wider t span ends band rising lies in
          let same : gap_to_ideal t ends ≡ waited = omega (arith, may.below (gap_to_ideal t ends) own, less, gap) in
          subst (HasTightBound t prefix) same own

  -- a prefix may wait with its bound
  pub own-waits : (waited b : ℕ) → MayWaitTightly t prefix waited → HasTightBound t prefix b → MayWaitTightly t prefix b
  own-waits waited b may is = record {
    viable = may.viable;
    below = λ own of_own. omega (arith, one-bound t prefix b own is of_own);
  }

-- A prefix with a number more may wait with the greatest of three numbers: the gap of a span around its tight reach, its reach bound,
-- and the bound of the prefix without the number.
pub waits-longer : (t : Problem) (prefix : List ℕ) (q bound reach result : ℕ) (span : ℤ × ℤ) → t.ideal_low ≤ℤ t.ideal_high → HasTightBound t prefix bound → HasReachBound t (prefix ++ q ∷ []) reach
    → IsAround t (prefix ++ q ∷ []) span → (result ≡ gap_to_ideal t span) ⊎ ((result ≡ reach) ⊎ (result ≡ bound)) → MayWaitTightly t (prefix ++ q ∷ []) result
waits-longer t prefix q bound reach result span band shorter has around either = record {
  viable = has.0;
  below = λ b is. ⊎_elim
      (λ (gap : result ≡ gap_to_ideal t span). subst (λ n. n ≤ b) (sym gap) (gap-around t (prefix ++ q ∷ []) span band around b is))
      (λ (other : (result ≡ reach) ⊎ (result ≡ bound)). ⊎_elim
      (λ (here : result ≡ reach). subst (λ n. n ≤ b) (sym here) ((reach-waits t (prefix ++ q ∷ []) reach band has).below b is))
      (λ (here : result ≡ bound).
      let own = bound-narrows t prefix q b band is in
      omega (arith, here, one-bound t prefix own.0 bound own.1 shorter, own.2))
      other)
      either;
}

-- one whose span misses the window may wait with any number
pub waits-for_ever : (t : Problem) (prefix : List ℕ) (result : ℕ) (span : ℤ × ℤ) → IsViable t prefix → IsAround t prefix span → (Meets t.low t.high (Some span) → ⊥) → MayWaitTightly t prefix result
waits-for_ever t prefix result span viable around missed = record {
  viable = viable;
  below = λ b is. absurd (none-around t prefix span around missed b is);
}
