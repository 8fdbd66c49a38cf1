-- the steps of a comparison of siblings with the neighbours that need a tree
use Rattle.std.proofs.Common.{◌≡◌, ⊎_elim, ℕ, suc, ◌+◌, ◌<◌, ◌≤◌, true, false, List, [], ◌∷◌, ◌++◌, length, drop, get_or, Some, refl, sym, ap, ap₂, ◌∙◌, subst, arith}
use Rattle.std.proofs.lemmas.Bool.{cases_lt}
use Rattle.std.proofs.lemmas.Bool.Decides.{nat_tests}
use Rattle.std.proofs.lemmas.List.{drop_more, drop_all}
use Rattle.std.proofs.lemmas.Option.{slice_get-get_or, get_or_from_slice_get, slice_get_within}
use Rattle.std.specs.Prelude.{nat_lt, slice_get, slice_index}
use Rattle.hold_limits.specs.Problem.{Problem}
use Rattle.price_trees.specs.Narrowing.{full}
use Rattle.tree_checker.specs.TreeReading.{IsOpen, IsClosed}
use Rattle.tree_checker.specs.GoodTrees.{Neighbour, begun, smaller_at, smaller, AreNeeded}
use Rattle.tree_checker.specs.GoodTrees as needed
use Rattle.tree_checker.specs.FirstReason.{DifferAt}
use Rattle.tree_checker.specs.FirstReason as differ
use Rattle.tree_checker.specs.Steps.{NeedsTree, IsIdle, neighbours_from, DiffersFrom, LeadsTo}

-- Steps -----------------------------------------------------------------------------------------

pub leads-itself : (t : Problem) (path : List ℕ) (listed more : List Neighbour) (at : ℕ) → LeadsTo t path listed more at more at
leads-itself t path listed more at = record { needed = λ rest. rest; differs = λ place rest. rest }

pub leads-on : (t : Problem) (path : List ℕ) (listed all more rest : List Neighbour) (start next after : ℕ)
    → LeadsTo t path listed all start more next → LeadsTo t path listed more next rest after → LeadsTo t path listed all start rest after
leads-on t path listed all more rest start next after one two = record {
  needed = λ later. one.needed (two.needed later);
  differs = λ at later. one.differs at (two.differs at later);
}

idle-step : (t : Problem) (path : List ℕ) (listed more : List Neighbour) (n : Neighbour) (next : ℕ) → IsClosed t (begun t path n) → LeadsTo t path listed (n ∷ more) next more next
idle-step t path listed more n next closed = record {
  needed = λ rest. needed.Idle closed rest;
  differs = λ at rest. record { behind = rest.behind; place = rest.place; differs = differ.Idle closed rest.differs };
}

next-listed : (listed : List Neighbour) (next : ℕ) (n : Neighbour) → slice_get listed next ≡ Some n → drop next listed ≡ n ∷ drop (next + 1) listed
next-listed listed next n is = drop_more listed next n (slice_get_within listed next n is) ∙ ap (λ x. x ∷ drop (next + 1) listed) (get_or_from_slice_get listed next n n is)

needed-step : (t : Problem) (path : List ℕ) (listed more : List Neighbour) (n : Neighbour) (next : ℕ) → IsOpen t (begun t path n) → slice_get listed next ≡ Some n
    → LeadsTo t path listed (n ∷ more) next more (next + 1)
needed-step t path listed more n next opens is =
    let front = next-listed listed next n is in
    record {
      needed = λ rest. subst (AreNeeded t path (n ∷ more)) (sym front) (needed.Needed opens refl rest);
      differs = λ at rest. record {
        behind = suc rest.behind;
        place = omega (arith, rest.place);
        differs = subst (λ xs. DifferAt t path (n ∷ more) xs (suc rest.behind)) (sym front) (differ.Needed opens refl rest.differs);
      };
    }

differs-here : (t : Problem) (path : List ℕ) (listed more : List Neighbour) (n : Neighbour) (next : ℕ) → IsOpen t (begun t path n) → (slice_get listed next ≡ Some n → ⊥)
    → DiffersFrom t path listed (n ∷ more) next next
differs-here t path listed more n next opens other = ⊎_elim
    (λ within. record {
      behind = 0;
      place = omega arith;
      differs = subst (λ xs. DifferAt t path (n ∷ more) xs 0) (sym (drop_more listed next n within))
          (differ.Other opens (λ same. other (slice_get-get_or listed next n within ∙ ap (λ x. Some x) same)));
    })
    (λ past. record { behind = 0; place = omega arith; differs = subst (λ xs. DifferAt t path (n ∷ more) xs 0) (sym (drop_all next listed past)) (differ.Missing opens) })
    (cases_lt next (length listed))

pub too-many : (t : Problem) (path : List ℕ) (listed : List Neighbour) (next : ℕ) → next < length listed → DiffersFrom t path listed [] next next
too-many t path listed next within = record {
  behind = 0;
  place = omega arith;
  differs = subst (λ xs. DifferAt t path [] xs 0) (sym (drop_more listed next (0, 0) within)) differ.TooMany;
}

pub needed-end : (t : Problem) (path : List ℕ) (listed : List Neighbour) (next : ℕ) → length listed ≤ next → AreNeeded t path [] (drop next listed)
needed-end t path listed next past = subst (AreNeeded t path []) (sym (drop_all next listed past)) needed.End

-- A rank ----------------------------------------------------------------------------------------

is-below : (p q : ℕ) → p < q → nat_lt p q ≡ true
is-below p q less = grind (arith, nat_tests)

not-below : (p q : ℕ) → q ≤ p → nat_lt p q ≡ false
not-below p q least = grind (arith, nat_tests)

-- the neighbours at one rank and those from the next one on
pub neighbours-at : (t : Problem) (path : List ℕ) (rank : ℕ) (set : List ℕ) → rank < length path → rank < length (full t) → get_or (full t) rank set ≡ set
    → neighbours_from t path rank ≡ smaller_at rank (slice_index path rank) set ++ neighbours_from t path (rank + 1)
neighbours-at t path rank set within has is =
    let front = drop_more path rank 0 within in
    let sets = drop_more (full t) rank set has ∙ ap (λ x. x ∷ drop (rank + 1) (full t)) is in
    let next : suc rank ≡ rank + 1 = omega arith in
    ap₂ (λ xs ys. smaller rank xs ys) front sets ∙ ap (λ r. smaller_at rank (slice_index path rank) set ++ smaller r (drop (rank + 1) path) (drop (rank + 1) (full t))) next

pub none-from : (t : Problem) (path : List ℕ) (rank : ℕ) → length path ≤ rank → neighbours_from t path rank ≡ []
none-from t path rank past = rw (drop_all rank path past) refl

front-is : (rank p q : ℕ) (set after : List ℕ) → set ≡ p ∷ after → p < q → smaller_at rank q set ≡ (rank, p) ∷ smaller_at rank q after
front-is rank p q set after is less = ap (smaller_at rank q) is ∙ rw (is-below p q less) refl

front-skipped : (rank p q : ℕ) (set after : List ℕ) → set ≡ p ∷ after → q ≤ p → smaller_at rank q set ≡ smaller_at rank q after
front-skipped rank p q set after is least = ap (smaller_at rank q) is ∙ rw (not-below p q least) refl

skip : (t : Problem) (path : List ℕ) (listed more : List Neighbour) (rank p : ℕ) (set after : List ℕ) (next : ℕ) → set ≡ p ∷ after → slice_index path rank ≤ p
    → LeadsTo t path listed (smaller_at rank (slice_index path rank) set ++ more) next (smaller_at rank (slice_index path rank) after ++ more) next
skip t path listed more rank p set after next is least =
    let q : ℕ = slice_index path rank in
    subst (λ front. LeadsTo t path listed (front ++ more) next (smaller_at rank q after ++ more) next) (sym (front-skipped rank p q set after is least))
    (leads-itself t path listed (smaller_at rank q after ++ more) next)

pass : (t : Problem) (path : List ℕ) (listed more : List Neighbour) (rank p : ℕ) (set after : List ℕ) (next : ℕ) → set ≡ p ∷ after → p < slice_index path rank → IsClosed t (begun t path (rank, p))
    → LeadsTo t path listed (smaller_at rank (slice_index path rank) set ++ more) next (smaller_at rank (slice_index path rank) after ++ more) next
pass t path listed more rank p set after next is less closed =
    let q : ℕ = slice_index path rank in
    subst (λ front. LeadsTo t path listed (front ++ more) next (smaller_at rank q after ++ more) next) (sym (front-is rank p q set after is less))
    (idle-step t path listed (smaller_at rank q after ++ more) (rank, p) next closed)

pub step-idle : (t : Problem) (path : List ℕ) (listed more : List Neighbour) (rank p : ℕ) (set after : List ℕ) (next : ℕ) → set ≡ p ∷ after → IsIdle t path (rank, p)
    → LeadsTo t path listed (smaller_at rank (slice_index path rank) set ++ more) next (smaller_at rank (slice_index path rank) after ++ more) next
step-idle t path listed more rank p set after next is idle = ⊎_elim
    (λ (least : slice_index path rank ≤ p). skip t path listed more rank p set after next is least)
    (λ (closed : IsClosed t (begun t path (rank, p))). ⊎_elim
    (λ (less : p < slice_index path rank). pass t path listed more rank p set after next is less closed)
    (λ (least : slice_index path rank ≤ p). skip t path listed more rank p set after next is least)
    (cases_lt p (slice_index path rank)))
    idle

pub step-needed : (t : Problem) (path : List ℕ) (listed more : List Neighbour) (rank p : ℕ) (set after : List ℕ) (next : ℕ) → set ≡ p ∷ after → NeedsTree t path (rank, p)
    → slice_get listed next ≡ Some (rank, p)
    → LeadsTo t path listed (smaller_at rank (slice_index path rank) set ++ more) next (smaller_at rank (slice_index path rank) after ++ more) (next + 1)
step-needed t path listed more rank p set after next is needs listed_there =
    let q : ℕ = slice_index path rank in
    subst (λ front. LeadsTo t path listed (front ++ more) next (smaller_at rank q after ++ more) (next + 1)) (sym (front-is rank p q set after is needs.0))
    (needed-step t path listed (smaller_at rank q after ++ more) (rank, p) next needs.1 listed_there)

pub step-differs : (t : Problem) (path : List ℕ) (listed more : List Neighbour) (rank p : ℕ) (set after : List ℕ) (next : ℕ) → set ≡ p ∷ after → NeedsTree t path (rank, p)
    → (slice_get listed next ≡ Some (rank, p) → ⊥)
    → DiffersFrom t path listed (smaller_at rank (slice_index path rank) set ++ more) next next
step-differs t path listed more rank p set after next is needs other =
    let q : ℕ = slice_index path rank in
    subst (λ front. DiffersFrom t path listed (front ++ more) next next) (sym (front-is rank p q set after is needs.0))
    (differs-here t path listed (smaller_at rank q after ++ more) (rank, p) next needs.1 other)
