-- the smaller neighbours of a path, and the siblings that are listed for them
use Rattle.std.proofs.Common.{◌≡◌, ◌≢◌, ◌⊎◌, ⊎_elim, inl, inr, ℕ, zero, suc, ◌+◌, ◌<◌, Bool, true, false, ◌==◌, ◌||◌, List, [], ◌∷◌, ◌++◌, length, map, take, refl, sym, ap, ◌∙◌, subst, arith}
use Rattle.std.proofs.lemmas.Bool.{cases_Bool, false≢true}
use Rattle.std.proofs.lemmas.Bool.Decides.{eqb_tells, nat_tests}
use Rattle.std.specs.Prelude.{nat_lt, slice_index, IsTrue}
use Rattle.std.specs.List.{AllByRecursion, filter}
use Rattle.hold_parts.specs.Limits.{is_listed}
use Rattle.hold_limits.specs.Problem.{Problem}
use Rattle.price_trees.specs.Prices.{Choice}
use Rattle.price_trees.specs.Narrowing.{Ticks, fixed, is_empty, HasEmpty}
use Rattle.price_trees.specs.Trees.{Refuted, Empty}
use Rattle.tree_checker.specs.TreeReading.{IsOpen, IsClosed}
use Rattle.tree_checker.specs.GoodTrees.{Neighbour, begun, smaller, AreNeeded}
use Rattle.tree_checker.specs.GoodTrees as needed
use Rattle.tree_checker.specs.FirstReason.{DifferAt}
use Rattle.tree_checker.specs.FirstReason as differ
use Rattle.hold_choices.proofs.NarrowedLemmas.{narrowed-refuted}
use Rattle.tree_checker.proofs.Readings.{open-not_closed}

-- What holds of all neighbours holds of each ----------------------------------------------------

all-front : (P : Neighbour → Type 0) (front rest : List Neighbour) → AllByRecursion P (front ++ rest) → AllByRecursion P front
all-front P [] rest all = tt
all-front P (n ∷ front) rest all = (all.0, all-front P front rest all.1)

all-rest : (P : Neighbour → Type 0) (front rest : List Neighbour) → AllByRecursion P (front ++ rest) → AllByRecursion P rest
all-rest P [] rest all = all
all-rest P (n ∷ front) rest all = all-rest P front rest all.1

of-one : (P : Neighbour → Type 0) (rank : ℕ) (set : List ℕ) (q p : ℕ) → p < q → is_listed set p ≡ true
    → AllByRecursion P (map (λ x. (rank, x)) (filter (λ x. nat_lt x q) set)) → P (rank, p)
of-one P rank [] q p less listed all = absurd (false≢true listed)
of-one P rank (x ∷ set) q p less listed all = ⊎_elim
    (λ same. subst (λ y. P (rank, y)) same.1 ((rw (below x (rw same.1 less)) at all).0))
    (λ other. ⊎_elim
    (λ (passes : nat_lt x q ≡ true). of-one P rank set q p less (rw other.0 at listed) ((rw passes at all).1))
    (λ (fails : nat_lt x q ≡ false). of-one P rank set q p less (rw other.0 at listed) (rw fails at all))
    (cases_Bool (nat_lt x q)))
    (eqb_tells x p)
  where
    below : (x : ℕ) → x < q → nat_lt x q ≡ true
    below x less = grind (arith, nat_tests)

none-left : (p : ℕ) (set : List ℕ) → is_listed set p ≡ false → is_empty (filter (λ x. p == x) set) ≡ true
none-left p [] out = refl
none-left p (x ∷ set) out = ⊎_elim
    (λ same. absurd (false≢true (sym out ∙ rw same.0 refl)))
    (λ other. rw (differ p x other.1) (none-left p set (rw other.0 at out)))
    (eqb_tells x p)
  where
    differ : (p x : ℕ) → x ≢ p → (p == x) ≡ false
    differ p x not = grind (arith, nat_tests)

-- each smaller position at a rank is that of a neighbour, or the container may not have it
pub neighbour-or-empty : (P : Neighbour → Type 0) (rank : ℕ) (path : List ℕ) (choice : Choice) (k p : ℕ) → length path ≡ length choice → k < length path → p < slice_index path k
    → AllByRecursion P (smaller rank path choice) → P (rank + k, p) ⊎ HasEmpty (fixed (take k path ++ p ∷ []) choice)
neighbour-or-empty P rank [] choice k p same within less all = absurd (omega arith)
neighbour-or-empty P rank (q ∷ path) [] k p same within less all = absurd (omega arith)
neighbour-or-empty P rank (q ∷ path) (set ∷ choice) zero p same within less all = ⊎_elim
    (λ (has : is_listed set p ≡ true). inl (subst (λ r. P (r, p)) (omega arith) (of-one P rank set q p less has (all-front P _ _ all))))
    (λ (out : is_listed set p ≡ false). inr (rw (none-left p set out) refl))
    (cases_Bool (is_listed set p))
neighbour-or-empty P rank (q ∷ path) (set ∷ choice) (suc k) p same within less all = ⊎_elim
    (λ (has : P (suc rank + k, p)). inl (subst (λ r. P (r, p)) (omega arith) has))
    (λ (empty : HasEmpty (fixed (take k path ++ p ∷ []) choice)). inr (later (is_empty (filter (λ x. q == x) set)) _ empty))
    (neighbour-or-empty P (suc rank) path choice k p (omega arith) (omega arith) less (all-rest P _ _ all))
  where
    later : (a b : Bool) → IsTrue b → IsTrue (a || b)
    later true b is = refl
    later false b is = is

-- what is refuted of the listed ones is refuted of all
pub needed-refuted : (t : Problem) (ticks : Ticks) (path : List ℕ) (all listed : List Neighbour) → AreNeeded t path all listed
    → AllByRecursion (λ n. Refuted t ticks (begun t path n)) listed → AllByRecursion (λ n. Refuted t ticks (begun t path n)) all
needed-refuted t ticks path [] [] needed.End refuted = tt
needed-refuted t ticks path [] (m ∷ listed) none refuted = elim none [ ]
needed-refuted t ticks path (n ∷ all) listed (needed.Idle closed rest) refuted = (
  narrowed-refuted t ticks (begun t path n) closed.left closed.narrowed (Empty closed.empty),
  needed-refuted t ticks path all listed rest refuted,
)
needed-refuted t ticks path (n ∷ all) (m ∷ listed) (needed.Needed opens same rest) refuted =
    (subst (λ x. Refuted t ticks (begun t path x)) same refuted.0, needed-refuted t ticks path all listed rest refuted.1)

-- There is one first difference -----------------------------------------------------------------

never-both : (t : Problem) (choice : Choice) → IsOpen t choice → IsClosed t choice → ⊥
never-both t choice opens closed = open-not_closed t choice opens.0 opens.1 closed

pub needed-not_differ : (t : Problem) (path : List ℕ) (all listed : List Neighbour) (at : ℕ) → AreNeeded t path all listed → DifferAt t path all listed at → ⊥
needed-not_differ t path [] [] at needed.End none = elim none [ ]
needed-not_differ t path [] (m ∷ listed) at none differ = elim none [ ]
needed-not_differ t path (n ∷ all) listed at (needed.Idle closed rest) (differ.Missing opens) = never-both t _ opens closed
needed-not_differ t path (n ∷ all) listed at (needed.Idle closed rest) (differ.Other opens not) = never-both t _ opens closed
needed-not_differ t path (n ∷ all) listed at (needed.Idle closed rest) (differ.Idle also later) = needed-not_differ t path all listed at rest later
needed-not_differ t path (n ∷ all) listed at (needed.Idle closed rest) (differ.Needed opens same later) = never-both t _ opens closed
needed-not_differ t path (n ∷ all) (m ∷ listed) at (needed.Needed opens same rest) (differ.Other also not) = not same
needed-not_differ t path (n ∷ all) (m ∷ listed) at (needed.Needed opens same rest) (differ.Idle closed later) = never-both t _ opens closed
needed-not_differ t path (n ∷ all) (m ∷ listed) at (needed.Needed opens same rest) (differ.Needed also equal later) = needed-not_differ t path all listed _ rest later

pub one-difference : (t : Problem) (path : List ℕ) (all listed : List Neighbour) (a b : ℕ) → DifferAt t path all listed a → DifferAt t path all listed b → a ≡ b
one-difference t path [] [] a b none other = elim none [ ]
one-difference t path [] (n ∷ listed) _ _ differ.TooMany differ.TooMany = refl
one-difference t path (n ∷ all) [] _ _ (differ.Missing opens) (differ.Missing also) = refl
one-difference t path (n ∷ all) [] _ b (differ.Missing opens) (differ.Idle closed later) = absurd (never-both t _ opens closed)
one-difference t path (n ∷ all) [] a _ (differ.Idle closed later) (differ.Missing opens) = absurd (never-both t _ opens closed)
one-difference t path (n ∷ all) [] a b (differ.Idle closed later) (differ.Idle also more) = one-difference t path all [] a b later more
one-difference t path (n ∷ all) (m ∷ listed) _ _ (differ.Other opens not) (differ.Other also other) = refl
one-difference t path (n ∷ all) (m ∷ listed) _ b (differ.Other opens not) (differ.Idle closed later) = absurd (never-both t _ opens closed)
one-difference t path (n ∷ all) (m ∷ listed) _ _ (differ.Other opens not) (differ.Needed also equal later) = absurd (not equal)
one-difference t path (n ∷ all) (m ∷ listed) a _ (differ.Idle closed later) (differ.Other opens not) = absurd (never-both t _ opens closed)
one-difference t path (n ∷ all) (m ∷ listed) a b (differ.Idle closed later) (differ.Idle also more) = one-difference t path all (m ∷ listed) a b later more
one-difference t path (n ∷ all) (m ∷ listed) a _ (differ.Idle closed later) (differ.Needed opens same more) = absurd (never-both t _ opens closed)
one-difference t path (n ∷ all) (m ∷ listed) _ _ (differ.Needed opens same later) (differ.Other also not) = absurd (not same)
one-difference t path (n ∷ all) (m ∷ listed) _ b (differ.Needed opens same later) (differ.Idle closed more) = absurd (never-both t _ opens closed)
one-difference t path (n ∷ all) (m ∷ listed) _ _ (differ.Needed opens same later) (differ.Needed also equal more) = ap (λ k. suc k) (one-difference t path all listed _ _ later more)
