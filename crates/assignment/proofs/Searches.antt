-- the gaps of positions by one member more, and the nearest position by one position more
use Rattle.std.proofs.Common.{◌≡◌, ⊎_elim, ℕ, ◌+◌, ◌<◌, true, false, List, length, set, Option, Some, None, refl, sym, ◌∙◌, arith, below_more}
use Rattle.std.specs.Prelude.{ℤ, pos, ◌+ℤ◌, ◌-ℤ◌, ◌*ℤ◌, ◌≤ℤ◌, IfSome, IsSomeAnd}
use Rattle.std.proofs.lemmas.Int.{ints}
use Rattle.std.proofs.lemmas.Bool.{cases_Bool, false≢true}
use Rattle.std.proofs.lemmas.List.{get_or-set_same, get_or-set_other}
use Rattle.position_set.specs.declared.set.PositionSet.{PositionSet}
use Rattle.position_set.specs.Sets.{has}
use Rattle.assignment.specs.declared.costs.CostTable.{CostTable}
use Rattle.assignment.specs.declared.tree.Gap.{Gap}
use Rattle.assignment.specs.declared.tree.Nearest.{Nearest}
use Rattle.assignment.specs.declared.tree.Seeker.{Seeker}
use Rattle.assignment.specs.Prices.{price_at}
use Rattle.assignment.specs.Tables.{number_at, candidate_at, influence_at, MayTake, cost_at}
use Rattle.assignment.specs.Trees.{IsGap, IsAsked, IsSeeker, IsMeasured, IsLessGap, IsNearer, IsNearest, IsNearestBelow, gap_at, gap_of}

-- Gaps -------------------------------------------------------------------------------------------

module _ (costs : CostTable) (items places : List ℤ) (members : List ℕ) (count : ℕ) (moved : ℤ) (position : ℕ) where
  -- the next member does not take the position
  kept-gap : (gap : Option Gap) → (MayTake costs (number_at members count) position → ⊥) → IsAsked costs items places members count moved position gap
      → IsAsked costs items places members (count + 1) moved position gap
  kept-gap None closed asked = below_more (λ (j : ℕ). MayTake costs (number_at members j) position → ⊥) count asked closed
  kept-gap (Some gap) closed asked = record {
    known = omega (arith, asked.known);
    may = asked.may;
    key = asked.key;
    least = below_more (λ (j : ℕ). MayTake costs (number_at members j) position → gap.key ≤ℤ (moved +ℤ gap_of costs items places (number_at members j) position)) count
        asked.least (λ may. absurd (closed may));
  }

  -- the next member may take the position
  new-gap : (old : Option Gap) (new less : Gap) → MayTake costs (number_at members count) position → IsAsked costs items places members count moved position old
      → new.member ≡ count → new.key ≡ moved +ℤ gap_of costs items places (number_at members count) position → IsLessGap old new less
      → IsGap costs items places members (count + 1) moved position less
  new-gap None new less may asked member key is_less = record {
    known = rw (is_new, member) (omega arith);
    may = rw (is_new, member) may;
    key = rw (is_new, member) key;
    least = below_more (λ (j : ℕ). MayTake costs (number_at members j) position → less.key ≤ℤ (moved +ℤ gap_of costs items places (number_at members j) position)) count
        (λ j below takes. absurd (asked j below takes)) (λ takes. rw (← key) is_less.least);
  }
    where
      is_new : less ≡ new
      is_new = ⊎_elim (λ (same : less ≡ new). same) (λ (other : None ≡ Some less). absurd (cc)) is_less.either
  new-gap (Some old) new less may asked member key is_less = record {
    known = ⊎_elim (λ (same : less ≡ new). rw (same, member) (omega arith)) (λ (other : Some old ≡ Some less). rw (← is_old other) (omega (arith, asked.known))) is_less.either;
    may = ⊎_elim (λ (same : less ≡ new). rw (same, member) may) (λ (other : Some old ≡ Some less). rw (← is_old other) asked.may) is_less.either;
    key = ⊎_elim (λ (same : less ≡ new). rw (same, member) key) (λ (other : Some old ≡ Some less). rw (← is_old other) asked.key) is_less.either;
    least = below_more (λ (j : ℕ). MayTake costs (number_at members j) position → less.key ≤ℤ (moved +ℤ gap_of costs items places (number_at members j) position)) count
        (λ j below takes. let other = asked.least j below takes in omega (arith, ints, other, is_less.least_old)) (λ takes. rw (← key) is_less.least);
  }
    where
      is_old : Some old ≡ Some less → old ≡ less
      is_old same = cc

  pub asked-more : (old result : Option Gap) (new : Gap) → IsMeasured (has (candidate_at costs (number_at members count)).open position) new old result
      → new.member ≡ count → new.key ≡ moved +ℤ gap_of costs items places (number_at members count) position
      → IsAsked costs items places members count moved position old → IsAsked costs items places members (count + 1) moved position result
  unfolding MayTake
  asked-more old result new measured member key asked = ⊎_elim
      (λ (may : has (candidate_at costs (number_at members count)).open position ≡ true).
      opened result (measured.opened may) may)
      (λ (closed : has (candidate_at costs (number_at members count)).open position ≡ false).
      rw (measured.closed closed) (kept-gap old (λ may. false≢true (sym closed ∙ may)) asked))
      (cases_Bool (has (candidate_at costs (number_at members count)).open position))
    where
      opened : (some : Option Gap) → IsSomeAnd some (IsLessGap old new) → MayTake costs (number_at members count) position → IsAsked costs items places members (count + 1) moved position some
      opened None measure may = absurd measure
      opened (Some less) measure may = new-gap old new less may asked member key measure

  -- the same from what a seeker measures
  pub asked-seeker : (seeker : Seeker) (influence price : ℤ) (old result : Option Gap) → IsSeeker costs items members count moved seeker
      → IsMeasured (has seeker.«open» position) (record { key = (seeker.offset +ℤ seeker.mass *ℤ influence) -ℤ price; member = seeker.member }) old result
      → influence ≡ influence_at costs position → price ≡ price_at places position
      → IsAsked costs items places members count moved position old → IsAsked costs items places members (count + 1) moved position result
  unfolding cost_at
  asked-seeker seeker influence price old result seeks measured influence_is price_is asked =
      let key : (seeker.offset +ℤ seeker.mass *ℤ influence) -ℤ price ≡ moved +ℤ gap_of costs items places (number_at members count) position =
      rw (seeks.offset, seeks.mass, influence_is, price_is)
      (shuffle moved (price_at items (number_at members count)) (pos (candidate_at costs (number_at members count)).mass *ℤ influence_at costs position) (price_at places position)) in
      asked-more old result _ (rw seeks.may at measured) seeks.member key asked
    where
      shuffle : (m item cost place : ℤ) → ((m -ℤ item) +ℤ cost) -ℤ place ≡ m +ℤ (cost -ℤ (item +ℤ place))
      shuffle m item cost place = omega (arith, ints)

-- The nearest position ---------------------------------------------------------------------------

module _ (gaps : List (Option Gap)) (reached : PositionSet) (position : ℕ) where
  -- a position that was reached does not count
  pub nearest-skip : (nearest : Option Nearest) → has reached position ≡ true → IsNearestBelow gaps reached position nearest → IsNearestBelow gaps reached (position + 1) nearest
  nearest-skip None skipped before = below_more (λ (q : ℕ). has reached q ≡ false → gap_at gaps q ≡ None) position before (λ fresh. absurd (false≢true (sym fresh ∙ skipped)))
  nearest-skip (Some nearest) skipped before = record {
    within = omega (arith, before.within);
    fresh = before.fresh;
    gap = before.gap;
    least = below_more (λ (q : ℕ). has reached q ≡ false → IfSome (gap_at gaps q) (λ gap. nearest.gap.key ≤ℤ gap.key)) position
        before.least (λ fresh. absurd (false≢true (sym fresh ∙ skipped)));
  }

  -- one more position that was not reached
  module _ (known : position < length gaps) (fresh : has reached position ≡ false) (gap : Option Gap) where
    at_other : (q : ℕ) → q < position → gap_at (set gaps position gap) q ≡ gap_at gaps q
    at_other q below = get_or-set_other gaps position q gap None (λ same. let is : q ≡ position = same in omega (arith, is, below))

    at_same : gap_at (set gaps position gap) position ≡ gap
    at_same = get_or-set_same gaps position gap None known

    -- what the nearest so far has, at one more position
    older : (before nearest : Nearest) → nearest ≡ before → IsNearest gaps reached position before
        → IfSome gap (λ here. nearest.gap.key ≤ℤ here.key) → IsNearest (set gaps position gap) reached (position + 1) nearest
    older before nearest same kept least = record {
      within = rw same (omega (arith, kept.within));
      fresh = rw same kept.fresh;
      gap = rw same (at_other before.position kept.within ∙ kept.gap);
      least = below_more (λ (q : ℕ). has reached q ≡ false → IfSome (gap_at (set gaps position gap) q) (λ other. nearest.gap.key ≤ℤ other.key)) position
          (λ q below free. rw (at_other q below, same) (kept.least q below free))
          (λ free. rw at_same least);
    }

    newer : (nearest : Nearest) → nearest.position ≡ position → gap ≡ Some nearest.gap
        → ((q : ℕ) → q < position → has reached q ≡ false → IfSome (gap_at gaps q) (λ other. nearest.gap.key ≤ℤ other.key))
        → IsNearest (set gaps position gap) reached (position + 1) nearest
    newer nearest here is least = record {
      within = omega (arith, here);
      fresh = rw here fresh;
      gap = rw here (at_same ∙ is);
      least = below_more (λ (q : ℕ). has reached q ≡ false → IfSome (gap_at (set gaps position gap) q) (λ other. nearest.gap.key ≤ℤ other.key)) position
          (λ q below free. rw (at_other q below) (least q below free))
          (λ free. rw (at_same, is) (omega (arith, ints)));
    }

weaker : (some : Option Gap) (low high : ℤ) → low ≤ℤ high → IfSome some (λ gap. high ≤ℤ gap.key) → IfSome some (λ gap. low ≤ℤ gap.key)
weaker None low high less each = tt
weaker (Some gap) low high less each = omega (arith, ints, less, each)

pub nearest-more : (gaps : List (Option Gap)) (reached : PositionSet) (position : ℕ) → position < length gaps → has reached position ≡ false
    → (gap : Option Gap) (old result : Option Nearest) → IsNearer old position gap result → IsNearestBelow gaps reached position old
    → IsNearestBelow (set gaps position gap) reached (position + 1) result
nearest-more gaps reached position known fresh None None result nearer before = rw (nearer.none refl)
    (below_more (λ (q : ℕ). has reached q ≡ false → gap_at (set gaps position None) q ≡ None) position
    (λ q below free. at_other gaps reached position known fresh None q below ∙ before q below free)
    (λ free. at_same gaps reached position known fresh None))
nearest-more gaps reached position known fresh None (Some old) result nearer before = rw (nearer.none refl)
    (older gaps reached position known fresh None old old refl before tt)
nearest-more gaps reached position known fresh (Some gap) None None nearer before = absurd nearer.least
nearest-more gaps reached position known fresh (Some gap) (Some old) None nearer before = absurd nearer.least
nearest-more gaps reached position known fresh (Some gap) None (Some result) nearer before = ⊎_elim
    (λ (same : Some result ≡ None). absurd (cc))
    (λ chosen.
    let is : result ≡ chosen.0 = let e = chosen.1 in cc in
    newer gaps reached position known fresh (Some gap) result (rw is chosen.2) (rw is chosen.3)
    (λ q below free. rw (before q below free) tt))
    nearer.either
nearest-more gaps reached position known fresh (Some gap) (Some old) (Some result) nearer before = ⊎_elim
    (λ (same : Some result ≡ Some old). let is : result ≡ old = cc in older gaps reached position known fresh (Some gap) old result is before nearer.least)
    (λ chosen.
    let is : result ≡ chosen.0 = let e = chosen.1 in cc in
    newer gaps reached position known fresh (Some gap) result (rw is chosen.2) (rw is chosen.3)
    (λ q below free. weaker (gap_at gaps q) result.gap.key old.gap.key nearer.least_old (before.least q below free)))
    nearer.either
