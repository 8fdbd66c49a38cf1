-- the bounds that the tight reach of prefixes gives find the best path
use Rattle.std.proofs.Common.{refl, ◌≡◌, ℕ, ◌≤◌, ℤ, ◌≤ℤ◌, List, [], ◌∷◌, ◌++◌, length, Option, Some, None, option_map, sym, ap, ap₂, ◌∙◌, subst, arith}
use Rattle.std.proofs.lemmas.Int.{ints}
use Rattle.std.specs.Prelude.{IfNone, IsSomeAnd}
use Rattle.hold_limits.specs.Problem.{Problem}
use Rattle.hold_limits.specs.Placement.{distance, hold_index}
use Rattle.hold_reach.specs.Reach.{IsViable, HaveCommonNumber, Meets, bound, gap_to_ideal, reach}
use Rattle.hold_reach.specs.Choices.{LiesIn, IsNearest}
use Rattle.hold_reach.proofs.ViableLemmas.{gap-nearest, IsAdmissible-from_viable}
use Rattle.assignment_prices.specs.TightReach.{AllowsTightly, IsTightReach}
use Rattle.assignment_prices.proofs.WayLemmas.{allows-shorter, complete-tight, tight-lies}
use Rattle.assignment_prices.proofs.LeastWay.{tight-exists}
use Rattle.best_first.specs.Bounds.{AreBounds, HasReachBound}
use Rattle.best_first.proofs.FrontLemmas.{IsViable-shorter}
use Rattle.priced_placer.specs.PriceNear.{HasTightBound}
use Rattle.priced_placer.specs.Waits.{MayWaitTightly}

-- Tight reaches ---------------------------------------------------------------------------------

-- a prefix has one tight reach
pub one-tight : (t : Problem) (prefix : List ℕ) (a b : ℤ × ℤ) → IsTightReach t prefix (Some a) → IsTightReach t prefix (Some b) → a ≡ b
one-tight t prefix a b first second =
    let low = first.between b.0 second.least in
    let low_too = second.between a.0 first.least in
    let high = first.between b.1 second.greatest in
    let high_too = second.between a.1 first.greatest in
    ap₂ (λ x y. (x, y)) (same a.0 b.0 low.0 low_too.0) (same a.1 b.1 high_too.1 high.1)
  where
    same : (x y : ℤ) → x ≤ℤ y → y ≤ℤ x → x ≡ y
    same x y less more = omega (arith, ints, less, more)

-- what a prefix reaches tightly has its ends in order
pub tight-in_order : (t : Problem) (prefix : List ℕ) (ends : ℤ × ℤ) → IsTightReach t prefix (Some ends) → ends.0 ≤ℤ ends.1
tight-in_order t prefix ends is = (is.between ends.1 is.greatest).0

-- a prefix with a number more has a tight reach only within its own
pub tight-shorter : (t : Problem) (prefix : List ℕ) (q : ℕ) (inner : ℤ × ℤ) → IsViable t (prefix ++ q ∷ []) → IsTightReach t (prefix ++ q ∷ []) (Some inner)
    → (outer : ℤ × ℤ) × IsTightReach t prefix (Some outer) × LiesIn inner outer
tight-shorter t prefix q inner viable is = let there = tight-exists t prefix in cases there.0 there.1
  where
    allowed : (index : ℤ) → AllowsTightly t (prefix ++ q ∷ []) index → AllowsTightly t prefix index
    allowed index given = allows-shorter t prefix q index viable.sound viable.rising given

    cases : (reached : Option (ℤ × ℤ)) → IsTightReach t prefix reached → (outer : ℤ × ℤ) × IsTightReach t prefix (Some outer) × LiesIn inner outer
    cases None none = absurd (none inner.0 (allowed inner.0 is.least))
    cases (Some outer) reach = (outer, reach, ((reach.between inner.0 (allowed inner.0 is.least)).0, (reach.between inner.1 (allowed inner.1 is.greatest)).1))

-- Gaps ------------------------------------------------------------------------------------------

-- a wider span lies no farther from the ideal band
pub gap-wider : (t : Problem) (inner outer : ℤ × ℤ) → t.ideal_low ≤ℤ t.ideal_high → inner.0 ≤ℤ inner.1 → LiesIn inner outer → gap_to_ideal t outer ≤ gap_to_ideal t inner
gap-wider t inner outer band rising lies =
    let near : IsNearest t inner (gap_to_ideal t inner) = gap-nearest t inner band rising in
    let far : IsNearest t outer (gap_to_ideal t outer) = gap-nearest t outer band (omega (arith, ints, rising, lies.0, lies.1)) in
    subst (λ n. gap_to_ideal t outer ≤ n) near.is
    (far.least near.index (omega (arith, ints, lies.0, near.inside.0), omega (arith, ints, lies.1, near.inside.1)))

pub common-wider : (low high : ℤ) (inner outer : ℤ × ℤ) → LiesIn inner outer → HaveCommonNumber inner.0 inner.1 low high → HaveCommonNumber outer.0 outer.1 low high
common-wider low high inner outer lies common = record {
  number = common.number;
  from_a = omega (arith, ints, lies.0, common.from_a);
  to_b = omega (arith, ints, lies.1, common.to_b);
  from_c = common.from_c;
  to_d = common.to_d;
}

at_least_itself : (x : ℤ) → x ≤ℤ x
at_least_itself x = omega (arith, ints)

-- Bounds ----------------------------------------------------------------------------------------

pub one-bound : (t : Problem) (prefix : List ℕ) (a b : ℕ) → HasTightBound t prefix a → HasTightBound t prefix b → a ≡ b
one-bound t prefix a b first second =
    first.is ∙ ap (gap_to_ideal t) (one-tight t prefix first.ends second.ends first.reach second.reach) ∙ sym second.is

pub bound-narrows : (t : Problem) (prefix : List ℕ) (q b : ℕ) → t.ideal_low ≤ℤ t.ideal_high → HasTightBound t (prefix ++ q ∷ []) b → (a : ℕ) × HasTightBound t prefix a × (a ≤ b)
bound-narrows t prefix q b band is =
    let outer = tight-shorter t prefix q is.ends is.viable is.reach in
    let rising = tight-in_order t (prefix ++ q ∷ []) is.ends is.reach in (
      gap_to_ideal t outer.0,
      record {
        viable = IsViable-shorter t prefix q is.viable;
        ends = outer.0;
        reach = outer.1;
        window = common-wider t.low t.high is.ends outer.0 outer.2 is.window;
        is = refl;
      },
      subst (λ n. gap_to_ideal t outer.0 ≤ n) (sym is.is) (gap-wider t is.ends outer.0 band rising outer.2),
    )

bound-complete : (t : Problem) (path : List ℕ) → IsViable t path → length path ≡ length t.items → HasTightBound t path (distance t path)
bound-complete t path viable whole =
    let admissible = IsAdmissible-from_viable t path whole viable in
    record {
      viable = viable;
      ends = (hold_index t path, hold_index t path);
      reach = complete-tight t path whole;
      window = record {
        number = hold_index t path;
        from_a = at_least_itself (hold_index t path);
        to_b = at_least_itself (hold_index t path);
        from_c = admissible.low;
        to_d = admissible.high;
      };
      is = refl;
    }

-- a prefix whose tight reach misses the window has no bound
pub missed-none : (t : Problem) (prefix : List ℕ) (ends : ℤ × ℤ) (o : Option ℕ) → IsTightReach t prefix (Some ends) → IfNone o (Meets t.low t.high (Some ends) → ⊥)
    → IfNone o ((b : ℕ) → HasTightBound t prefix b → ⊥)
missed-none t prefix ends (Some b) reach missed = tt
missed-none t prefix ends None reach missed =
    λ b is. missed (subst (λ span. Meets t.low t.high (Some span)) (one-tight t prefix is.ends ends is.reach reach) is.window)

-- the bound of the reach is at most the tight one
pub bound-at_most : (t : Problem) (prefix : List ℕ) (b : ℕ) → t.ideal_low ≤ℤ t.ideal_high → HasTightBound t prefix b → IsSomeAnd (bound t prefix) (λ a. a ≤ b)
bound-at_most t prefix b band has =
    subst (λ n. IsSomeAnd (bound t prefix) (λ a. a ≤ n)) (sym has.is) (wider (reach t prefix) (tight-lies t prefix has.ends has.reach))
  where
    wider : (reached : Option (ℤ × ℤ)) → IsSomeAnd reached (LiesIn has.ends) → IsSomeAnd (option_map (gap_to_ideal t) reached) (λ a. a ≤ gap_to_ideal t has.ends)
    wider None lies = absurd lies
    wider (Some outer) lies = gap-wider t has.ends outer band (tight-in_order t prefix has.ends has.reach) lies

-- a prefix may wait with the bound of its reach
pub reach-waits : (t : Problem) (prefix : List ℕ) (b : ℕ) → t.ideal_low ≤ℤ t.ideal_high → HasReachBound t prefix b → MayWaitTightly t prefix b
reach-waits t prefix b band has = record {
  viable = has.0;
  below = λ own is. subst (λ o. IsSomeAnd o (λ a. a ≤ own)) has.1 (bound-at_most t prefix own band is);
}

pub tight-bounds : (t : Problem) → t.ideal_low ≤ℤ t.ideal_high → AreBounds t (HasTightBound t) (MayWaitTightly t)
tight-bounds t band = record {
  one = one-bound t;
  viable = λ prefix b is. is.viable;
  narrows = λ prefix q b is. bound-narrows t prefix q b band is;
  complete = bound-complete t;
  waiting = λ prefix waited may. may.viable;
  below = λ prefix waited b may is. may.below b is;
  reach = λ prefix b has. reach-waits t prefix b band has;
}
