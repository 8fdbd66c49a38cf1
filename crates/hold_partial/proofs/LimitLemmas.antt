-- limits in one list: looked up by position, their loads with one mass more, and the first that breaks
use Rattle.std.proofs.Common.{◌≡◌, ◌≢◌, ⊎_elim, ℕ, zero, suc, ◌+◌, ◌<◌, ◌≤◌, Bool, true, false, ◌==◌, List, [], ◌∷◌, ◌++◌, length, get_or, take, set, cond, Some, None, refl, ap, ◌∙◌, arith, add-one, below_more, get_or-set_other, get_or-set_same}
use Rattle.std.proofs.lemmas.Bool.{cases_Bool}
use Rattle.std.proofs.lemmas.Bool.Decides.{nat_tests}
use Rattle.std.proofs.lemmas.List.Elements.{filter-append}
use Rattle.std.proofs.lemmas.List.FromFn.{length-range_with_len}
use Rattle.std.proofs.lemmas.List.Sums.{sum_by_more_le, length-filter, count_by-le-length}
use Rattle.std.specs.Prelude.{if◌then◌else◌}
use Rattle.std.specs.List.{filter, find, range_with_len}
use Rattle.hold_limits.specs.Problem.{Problem}
use Rattle.hold_limits.specs.BranchOrder.{ordered}
use Rattle.hold_limits.specs.Placement.{placed, load_of, loose_load}
use Rattle.hold_partial.specs.Limits.{added_at}
use Rattle.hold_reach.proofs.SpanLemmas.{range-more}
use Rattle.hold_reach.proofs.RuleLemmas.{zip-nil}

-- Tables ----------------------------------------------------------------------------------------

-- a table that is right below n is right below n + 1 once the entry at n is set
pub table-set : (value : ℕ → ℕ) (xs : List ℕ) (n v : ℕ) → n < length xs → ((j : ℕ) → j < n → get_or xs j 0 ≡ value j) → v ≡ value n → (j : ℕ) → j < n + 1 → get_or (set xs n v) j 0 ≡ value j
table-set value xs n v within right here =
    below_more (λ j. get_or (set xs n v) j 0 ≡ value j) n
    (λ j less. let other : j ≢ n = omega arith in rw get_or-set_other (right j less))
    (rw get_or-set_same here)

-- the numbers below n + 1 that pass
pub filter-more : (p : ℕ → Bool) (n : ℕ) (b : Bool) → p n ≡ b → filter p (range_with_len 0 (n + 1)) ≡ filter p (range_with_len 0 n) ++ cond b (n ∷ []) []
filter-more p n b is =
    ap (filter p) (range-more n) ∙ filter-append p (range_with_len 0 n) (n ∷ []) ∙ ap (λ ns. filter p (range_with_len 0 n) ++ ns) (one b is)
  where
    one : (b : Bool) → p n ≡ b → filter p (n ∷ []) ≡ cond b (n ∷ []) []
    one true is = rw is refl
    one false is = rw is refl

pub filter-few : (p : ℕ → Bool) (n : ℕ) → length (filter p (range_with_len 0 n)) ≤ n
filter-few p n = omega (arith, length-filter p (range_with_len 0 n), count_by-le-length p (range_with_len 0 n), length-range_with_len 0 n)

-- The first that passes -------------------------------------------------------------------------

pub find-here : (p : ℕ → Bool) (xs : List ℕ) (i d : ℕ) → i < length xs → find p (take i xs) ≡ None → p (get_or xs i d) ≡ true → find p xs ≡ Some (get_or xs i d)
find-here p [] i d within none passes = absurd (omega arith)
find-here p (x ∷ xs) zero d within none passes = rw passes refl
find-here p (x ∷ xs) (suc i) d within none passes = ⊎_elim
    (λ (here : p x ≡ true). absurd (cc (rw here at none)))
    (λ (not : p x ≡ false). rw not (find-here p xs i d (omega arith) (rw not at none) passes))
    (cases_Bool (p x))

pub find-next : (p : ℕ → Bool) (xs : List ℕ) (i d : ℕ) → i < length xs → find p (take i xs) ≡ None → p (get_or xs i d) ≡ false → find p (take (i + 1) xs) ≡ None
find-next p xs i d within none fails = rw add-one (next xs i within none fails)
  where
    next : (xs : List ℕ) (i : ℕ) → i < length xs → find p (take i xs) ≡ None → p (get_or xs i d) ≡ false → find p (take (suc i) xs) ≡ None
    next [] i within none fails = absurd (omega arith)
    next (x ∷ xs) zero within none fails = rw fails refl
    next (x ∷ xs) (suc i) within none fails = ⊎_elim
        (λ (here : p x ≡ true). absurd (cc (rw here at none)))
        (λ (not : p x ≡ false). rw not (next xs i (omega arith) (rw not at none) fails))
        (cases_Bool (p x))

-- Masses added ----------------------------------------------------------------------------------

-- what is added before a place of the list, and there, is within what is added in all
pub added-within : (mass : ℕ) (limits : List ℕ) (i : ℕ) → i < length limits → added_at mass (take i limits) (get_or limits i 0) + mass ≤ added_at mass limits (get_or limits i 0)
added-within mass limits i within =
    let k = get_or limits i 0 in
    let same : (k == k) ≡ true = grind (arith, nat_tests) in
    let here : (if k == k then mass else 0) ≡ mass = rw same refl in
    omega (arith, here, sum_by_more_le (λ j. if j == k then mass else 0) limits i 0 within)

-- the load of a set while no container is placed is that of the loose loads
pub load-empty : (is_in : ℕ → Bool) (t : Problem) → load_of is_in t [] ≡ loose_load is_in t.loose
load-empty is_in t = let none : placed t [] ≡ [] = zip-nil (ordered t.items) in rw none (omega arith)
