-- fronts of prefixes with bounds, and of promising ones
use Rattle.std.proofs.Common.{refl, ◌≡◌, ℕ, ◌≤◌, false, List, [], ◌∷◌, ◌++◌, sym, ap, subst, arith, append_assoc, append-nil, is_gt, Ordering, nat_cmp}
use Rattle.std.proofs.lemmas.Bool.Decides.{nat_tests}
use Rattle.std.proofs.lemmas.Cmp.{nat_cmp_total, tied_itself}
use Rattle.std.specs.Ordering.{ordering_then}
use Rattle.std.specs.Cmp.Lexicographic.{slice_cmp}
use Rattle.hold_limits.specs.Placement.{Key, IsAtMost}
use Rattle.hold_limits.proofs.KeyOrder.{IsAtMost-trans, IsAtMost-antisymm}
use Rattle.path_search.specs.Promising.{IsPromising}
use Rattle.path_search.specs.Worlds.{World, key_in, HasNone, IsSearchable}

-- Keys ------------------------------------------------------------------------------------------

-- a list precedes its extensions
precedes-extension : (front rest : List ℕ) → is_gt (slice_cmp nat_cmp front (front ++ rest)) ≡ false
precedes-extension [] [] = refl
precedes-extension [] (q ∷ rest) = refl
precedes-extension (x ∷ front) rest = rw (tied_itself nat_cmp_total x) (precedes-extension front rest)

-- a bound that is at most another, with a front of the prefix
pub at_most-extension : (m n : ℕ) (front rest : List ℕ) → m ≤ n → IsAtMost (m, front) (n, front ++ rest)
at_most-extension m n front rest less = not_greater m n (slice_cmp nat_cmp front (front ++ rest)) less (precedes-extension front rest)
  where
    not_greater : (m n : ℕ) (o : Ordering) → m ≤ n → is_gt o ≡ false → is_gt (ordering_then (nat_cmp m n) o) ≡ false
    not_greater m n o less not = grind (arith, nat_tests)

-- as many ticks or more with the same numbers
pub at_most-more : (m n : ℕ) (prefix : List ℕ) → m ≤ n → IsAtMost (m, prefix) (n, prefix)
at_most-more m n prefix less = subst (λ p. IsAtMost (m, prefix) (n, p)) (append-nil prefix) (at_most-extension m n prefix [] less)

-- Bounds ----------------------------------------------------------------------------------------

module _ (w : World) (MayWait : List ℕ → ℕ → Type 0) (laws : IsSearchable w MayWait) where
  -- a front has a bound that, with its numbers, is at most that of the prefix
  pub front-at_most : (front rest : List ℕ) (b : ℕ) → w.HasBound (front ++ rest) b → (a : ℕ) × w.HasBound front a × IsAtMost (a, front) (b, front ++ rest)
  front-at_most front [] b is = (b, subst (λ p. w.HasBound p b) (append-nil front) is, at_most-extension b b front [] (omega arith))
  front-at_most front (q ∷ rest) b is =
      let joined = sym (append_assoc front (q ∷ []) rest) in
      let next = front-at_most (front ++ q ∷ []) rest b (subst (λ p. w.HasBound p b) joined is) in
      let here = laws.narrows front q next.0 next.1 in (
        here.0,
        here.1,
        IsAtMost-trans (here.0, front) (next.0, front ++ q ∷ []) (b, front ++ q ∷ rest)
            (at_most-extension here.0 next.0 front (q ∷ []) here.2)
            (subst (λ p. IsAtMost (next.0, front ++ q ∷ []) (b, p)) (sym joined) next.2),
      )

  pub one_best : (a b : List ℕ) → w.IsBest a → w.IsBest b → a ≡ b
  one_best a b first second =
      let one = (laws.best a).0 first in
      let other = (laws.best b).0 second in
      ap (λ (k : Key). k.1) (IsAtMost-antisymm (key_in w a) (key_in w b) (one.least b other.admissible) (other.least a one.admissible))

  -- Promising fronts ----------------------------------------------------------------------------

  -- every front of a promising prefix is promising
  pub IsPromising-begins : (front rest : List ℕ) → IsPromising w (front ++ rest) → IsPromising w front
  IsPromising-begins front rest promising =
      let here = front-at_most front rest promising.bound promising.is in
      record {
        bound = here.0;
        is = here.1;
        below = λ best of_task. IsAtMost-trans (here.0, front) (promising.bound, front ++ rest) (key_in w best) here.2 (promising.below best of_task);
      }

  -- where no path is admissible, a prefix with a bound is promising
  pub promising-none : (prefix : List ℕ) (b : ℕ) → HasNone w → w.HasBound prefix b → IsPromising w prefix
  promising-none prefix b none is = record {
    bound = b;
    is = is;
    below = λ best of_task. absurd (none best ((laws.best best).0 of_task).admissible);
  }

  -- the empty prefix is promising where it has a bound
  pub empty-promising : (b : ℕ) → w.HasBound [] b → IsPromising w []
  empty-promising b is = record {
    bound = b;
    is = is;
    below = λ best of_task.
        let front = front-at_most [] best (w.distance best) (laws.best_bound best of_task) in
        subst (λ n. IsAtMost (n, []) (key_in w best)) (laws.one [] front.0 b front.1 is) front.2;
  }
