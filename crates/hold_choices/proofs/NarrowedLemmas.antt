-- pass after pass
use Rattle.std.proofs.Common.{◌≡◌, ⊎_elim, inl, inr, ℕ, zero, suc, ◌+◌, ◌-◌, ◌<◌, ◌≤◌, Bool, true, false, ◌&&◌, ◌||◌, List, [], ◌∷◌, ◌++◌, zip, length, refl, ap, ap₂, sym, subst, ◌∙◌, arith}
use Rattle.std.specs.List.{filter, list_all, list_any}
use Rattle.std.proofs.lemmas.Bool.{cases_Bool, false≢true}
use Rattle.hold_parts.specs.declared.parts.Item.{Item}
use Rattle.hold_limits.specs.BranchOrder.{ordered}
use Rattle.hold_limits.specs.Layout.{Layout}
use Rattle.hold_limits.specs.Problem.{Problem}
use Rattle.position_set.proofs.SetLemmas.{lt-or-le}
use Rattle.price_trees.specs.Prices.{Choice, Candidate, IsAmong}
use Rattle.price_trees.specs.Narrowing.{IsRegular, Ticks, HasEmpty, is_empty, leaves_later, leaves_earlier, left_by, narrowed_once}
use Rattle.price_trees.specs.Trees.{Refuted, Narrow}
use Rattle.price_trees.proofs.TreeLaw.{among-left_by_others}
use Rattle.hold_choices.specs.Narrowed.{narrowed_times, IsNarrowed}
use Rattle.hold_choices.proofs.ChoiceLemmas.{empty-is}

-- Sizes -----------------------------------------------------------------------------------------

-- the containers and their positions, counted together
abbrev pub size : Choice → ℕ
size [] = 0
size (set ∷ choice) = suc (length set) + size choice

filter-length : (test : ℕ → Bool) (qs : List ℕ) → length (filter test qs) ≤ length qs
filter-length test [] = omega arith
filter-length test (q ∷ qs) = ⊎_elim
    (λ (one : test q ≡ true). rw one (let rest = filter-length test qs in omega (arith, rest)))
    (λ (other : test q ≡ false). rw other (let rest = filter-length test qs in omega (arith, rest)))
    (cases_Bool (test q))

filter-same : (test : ℕ → Bool) (qs : List ℕ) → length qs ≤ length (filter test qs) → filter test qs ≡ qs
filter-same test [] all = refl
filter-same test (q ∷ qs) all = ⊎_elim
    (λ (one : test q ≡ true).
    let more : suc (length qs) ≤ suc (length (filter test qs)) = rw one at all in
    rw one (ap (λ xs. q ∷ xs) (filter-same test qs (omega (arith, more)))))
    (λ (other : test q ≡ false).
    let more : suc (length qs) ≤ length (filter test qs) = rw other at all in
    absurd (omega (arith, more, filter-length test qs)))
    (cases_Bool (test q))

left-size : (hold : Layout) (before : List Candidate) (items : List Item) (choice : Choice) → size (left_by hold before (zip items choice)) ≤ size choice
left-size hold before [] choice = omega arith
left-size hold before (item ∷ items) [] = omega arith
left-size hold before (item ∷ items) (set ∷ choice) =
    let test : ℕ → Bool = λ p. list_all (leaves_later hold item p) before && list_all (leaves_earlier hold item p) (zip items choice) in
    let rest = left-size hold (before ++ (item, set) ∷ []) items choice in
    omega (arith, filter-length test set, rest)

left-same : (hold : Layout) (before : List Candidate) (items : List Item) (choice : Choice) → size choice ≤ size (left_by hold before (zip items choice)) → left_by hold before (zip items choice) ≡ choice
left-same hold before [] [] all = refl
left-same hold before [] (set ∷ choice) all = absurd (omega (arith, all))
left-same hold before (item ∷ items) [] all = refl
left-same hold before (item ∷ items) (set ∷ choice) all =
    let test : ℕ → Bool = λ p. list_all (leaves_later hold item p) before && list_all (leaves_earlier hold item p) (zip items choice) in
    let less = left-size hold (before ++ (item, set) ∷ []) items choice in
    let few = filter-length test set in
    ap₂ (λ x xs. x ∷ xs) (filter-same test set (omega (arith, all, less))) (left-same hold (before ++ (item, set) ∷ []) items choice (omega (arith, all, few)))

-- a pass that takes something leaves less
pub size-less : (t : Problem) (choice : Choice) → (narrowed_once t choice ≡ choice → ⊥) → size (narrowed_once t choice) < size choice
size-less t choice changed = ⊎_elim
    (λ (less : size (narrowed_once t choice) < size choice). less)
    (λ (all : size choice ≤ size (narrowed_once t choice)). absurd (changed (left-same t.hold [] (ordered t.items) choice all)))
    (lt-or-le (size (narrowed_once t choice)) (size choice))

-- Numbers of passes -------------------------------------------------------------------------------

pub times-last : (n : ℕ) (t : Problem) (choice : Choice) → narrowed_times n t (narrowed_once t choice) ≡ narrowed_once t (narrowed_times n t choice)
times-last zero t choice = refl
times-last (suc n) t choice = times-last n t (narrowed_once t choice)

times-more : (a b : ℕ) (t : Problem) (choice : Choice) → narrowed_times b t (narrowed_times a t choice) ≡ narrowed_times (a + b) t choice
times-more zero b t choice = ap (λ n. narrowed_times n t choice) (let same : b ≡ 0 + b = omega arith in same)
times-more (suc a) b t choice = times-more a b t (narrowed_once t choice) ∙ ap (λ n. narrowed_times n t choice) (let same : suc (a + b) ≡ suc a + b = omega arith in same)

times-same : (n : ℕ) (t : Problem) (choice : Choice) → narrowed_once t choice ≡ choice → narrowed_times n t choice ≡ choice
times-same zero t choice same = refl
times-same (suc n) t choice same = ap (narrowed_times n t) same ∙ times-same n t choice same

empty-left : (hold : Layout) (before : List Candidate) (items : List Item) (choice : Choice) → length choice ≤ length items → HasEmpty choice → HasEmpty (left_by hold before (zip items choice))
empty-left hold before items [] few empty = absurd (false≢true empty)
empty-left hold before [] (set ∷ choice) few empty = absurd (omega (arith, few))
empty-left hold before (item ∷ items) (set ∷ choice) few empty =
    let test : ℕ → Bool = λ p. list_all (leaves_later hold item p) before && list_all (leaves_earlier hold item p) (zip items choice) in
    ⊎_elim
    (λ (here : is_empty set ≡ true). let none : filter test set ≡ [] = ap (filter test) (empty-is set here) in rw none refl)
    (λ (not_here : is_empty set ≡ false).
    let later : HasEmpty (left_by hold (before ++ (item, set) ∷ []) (zip items choice)) = empty-left hold (before ++ (item, set) ∷ []) items choice (omega (arith, few)) (rw not_here at empty) in
    rw later (or-true (is_empty (filter test set))))
    (cases_Bool (is_empty set))
  where
    or-true : (b : Bool) → (b || true) ≡ true
    or-true true = refl
    or-true false = refl

length-left : (hold : Layout) (before : List Candidate) (items : List Item) (choice : Choice) → length (left_by hold before (zip items choice)) ≤ length items
length-left hold before [] choice = omega arith
length-left hold before (item ∷ items) [] = omega arith
length-left hold before (item ∷ items) (set ∷ choice) = let rest = length-left hold (before ++ (item, set) ∷ []) items choice in omega (arith, rest)

-- a container that has no position left after a pass has none left after any more passes
empty-times : (n : ℕ) (t : Problem) (choice : Choice) → HasEmpty (narrowed_once t choice) → HasEmpty (narrowed_times n t (narrowed_once t choice))
empty-times zero t choice empty = empty
empty-times (suc n) t choice empty =
    empty-times n t (narrowed_once t choice) (empty-left t.hold [] (ordered t.items) (narrowed_once t choice) (length-left t.hold [] (ordered t.items) choice) empty)

-- Laws ------------------------------------------------------------------------------------------

-- the result of more passes is what passes make of the result of fewer
later-is : (t : Problem) (choice one other : Choice) (first : IsNarrowed t choice one) (second : IsNarrowed t choice other) → first.again ≤ second.again
    → other ≡ narrowed_times (second.again - first.again) t one
later-is t choice one other first second before =
    second.left
    ∙ ap (λ n. narrowed_times n t choice) (let count : suc second.again ≡ suc first.again + (second.again - first.again) = omega (arith, before) in count)
    ∙ sym (times-more (suc first.again) (second.again - first.again) t choice)
    ∙ ap (narrowed_times (second.again - first.again) t) (sym first.left)

still-empty : (n : ℕ) (t : Problem) (choice one : Choice) → IsNarrowed t choice one → HasEmpty one → HasEmpty (narrowed_times n t one)
still-empty n t choice one narrowed empty =
    let last : one ≡ narrowed_once t (narrowed_times narrowed.again t choice) = narrowed.left ∙ times-last narrowed.again t choice in
    subst (λ c. HasEmpty (narrowed_times n t c)) (sym last) (empty-times n t (narrowed_times narrowed.again t choice) (subst HasEmpty last empty))

pub narrowed-empty : (t : Problem) (choice one other : Choice) → IsNarrowed t choice one → IsNarrowed t choice other → HasEmpty one → HasEmpty other
narrowed-empty t choice one other first second empty = ⊎_elim
    (λ (less : second.again < first.again). ⊎_elim
    (λ (already : HasEmpty other). already)
    (λ (same : narrowed_once t other ≡ other). subst HasEmpty (later-is t choice other one second first (omega (arith, less)) ∙ times-same (first.again - second.again) t other same) empty)
    second.ended)
    (λ (before : first.again ≤ second.again). subst HasEmpty (sym (later-is t choice one other first second before)) (still-empty (second.again - first.again) t choice one first empty))
    (lt-or-le second.again first.again)

pub narrowed-full : (t : Problem) (choice one other : Choice) → IsNarrowed t choice one → IsNarrowed t choice other → (HasEmpty one → ⊥) → one ≡ other
narrowed-full t choice one other first second none = ⊎_elim
    (λ (less : second.again < first.again).
    let is = later-is t choice other one second first (omega (arith, less)) in
    ⊎_elim
    (λ (empty : HasEmpty other). absurd (none (subst HasEmpty (sym is) (still-empty (first.again - second.again) t choice other second empty))))
    (λ (same : narrowed_once t other ≡ other). is ∙ times-same (first.again - second.again) t other same)
    second.ended)
    (λ (before : first.again ≤ second.again). ⊎_elim
    (λ (empty : HasEmpty one). absurd (none empty))
    (λ (same : narrowed_once t one ≡ one). sym (later-is t choice one other first second before ∙ times-same (second.again - first.again) t one same))
    first.ended)
    (lt-or-le second.again first.again)

-- a pass more, unless one is the last
one-more : (t : Problem) (choice : Choice) → (size (narrowed_once t (narrowed_once t choice)) < size (narrowed_once t choice) → (result : Choice) × IsNarrowed t (narrowed_once t choice) result)
    → (result : Choice) × IsNarrowed t choice result
one-more t choice later = ⊎_elim
    (λ (empty : list_any is_empty (narrowed_once t choice) ≡ true). (narrowed_once t choice, record { again = 0; left = refl; ended = inl empty }))
    (λ (full : list_any is_empty (narrowed_once t choice) ≡ false). ⊎_elim
    (λ (less : size (narrowed_once t (narrowed_once t choice)) < size (narrowed_once t choice)).
    let found = later less in
    (found.0, record { again = suc found.1.again; left = found.1.left; ended = found.1.ended }))
    (λ (all : size (narrowed_once t choice) ≤ size (narrowed_once t (narrowed_once t choice))).
    (narrowed_once t choice, record { again = 0; left = refl; ended = inr (left-same t.hold [] (ordered t.items) (narrowed_once t choice) all) }))
    (lt-or-le (size (narrowed_once t (narrowed_once t choice))) (size (narrowed_once t choice))))
    (cases_Bool (list_any is_empty (narrowed_once t choice)))

narrowed-within : (n : ℕ) (t : Problem) (choice : Choice) → size (narrowed_once t choice) ≤ n → (result : Choice) × IsNarrowed t choice result
narrowed-within zero t choice few = one-more t choice (λ less. absurd (omega (arith, less, few)))
narrowed-within (suc n) t choice few = one-more t choice (λ less. narrowed-within n t (narrowed_once t choice) (omega (arith, less, few)))

pub narrowed-some : (t : Problem) (choice : Choice) → (result : Choice) × IsNarrowed t choice result
narrowed-some t choice = narrowed-within (size (narrowed_once t choice)) t choice (omega arith)

among-times : (n : ℕ) (t : Problem) (choice : Choice) (path : List ℕ) → IsRegular t path → IsAmong path choice → IsAmong path (narrowed_times n t choice)
among-times zero t choice path regular among = among
among-times (suc n) t choice path regular among = among-times n t (narrowed_once t choice) path regular (among-left_by_others t choice path regular among)

pub narrowed-among : (t : Problem) (choice result : Choice) (path : List ℕ) → IsNarrowed t choice result → IsRegular t path → IsAmong path choice → IsAmong path result
narrowed-among t choice result path narrowed regular among = subst (IsAmong path) (sym narrowed.left) (among-times (suc narrowed.again) t choice path regular among)

refuted-times : (n : ℕ) (t : Problem) (ticks : Ticks) (choice : Choice) → Refuted t ticks (narrowed_times n t choice) → Refuted t ticks choice
refuted-times zero t ticks choice refuted = refuted
refuted-times (suc n) t ticks choice refuted = Narrow (refuted-times n t ticks (narrowed_once t choice) refuted)

pub narrowed-refuted : (t : Problem) (ticks : Ticks) (choice result : Choice) → IsNarrowed t choice result → Refuted t ticks result → Refuted t ticks choice
narrowed-refuted t ticks choice result narrowed refuted = refuted-times (suc narrowed.again) t ticks choice (subst (Refuted t ticks) narrowed.left refuted)
