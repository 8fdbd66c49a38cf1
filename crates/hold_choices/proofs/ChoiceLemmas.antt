-- choices in words
use Rattle.std.proofs.Common.{◌≡◌, ⊎_elim, ℕ, zero, suc, ◌+◌, ◌<◌, ◌≤◌, Bool, true, false, ◌==◌, List, [], ◌∷◌, ◌++◌, map, length, drop, get_or, set, refl, ap, ap₂, sym, ◌∙◌, arith, append_assoc}
use Rattle.std.specs.Prelude.{slice_get}
use Rattle.std.specs.List.{filter, list_any}
use Rattle.std.specs.Option.{option_map_or}
use Rattle.std.proofs.lemmas.Bool.{cases_Bool, false≢true}
use Rattle.std.proofs.lemmas.List.{drop_all, drop_more, map-append}
use Rattle.std.proofs.lemmas.Option.{slice_get_cases}
use Rattle.position_set.specs.declared.set.PositionSet.{PositionSet}
use Rattle.position_set.specs.Sets.{members}
use Rattle.price_trees.specs.Prices.{Choice}
use Rattle.price_trees.specs.Narrowing.{is_empty, fixed, cut}
use Rattle.hold_choices.proofs.ListLemmas.{drop-at}

pub any-map : {X Y : Type 0} (test : Y → Bool) (f : X → Y) (xs : List X) → list_any test (map f xs) ≡ list_any (λ x. test (f x)) xs
any-map test f [] = refl
any-map test f (x ∷ xs) = ⊎_elim (λ (one : test (f x) ≡ true). rw one refl) (λ (other : test (f x) ≡ false). rw other (any-map test f xs)) (cases_Bool (test (f x)))

pub empty-is : (qs : List ℕ) → is_empty qs ≡ true → qs ≡ []
empty-is [] is = refl
empty-is (q ∷ qs) is = absurd (false≢true is)

-- one set of a choice changed
pub cut-set : (test : ℕ → Bool) (sets : List PositionSet) (i : ℕ) (new old : PositionSet) → i < length sets → old ≡ get_or sets i old → members new ≡ filter test (members old)
    → map members (set sets i new) ≡ cut test i (map members sets)
cut-set test [] i new old within there is = absurd (omega (arith, within))
cut-set test (s ∷ sets) zero new old within there is = ap (λ x. x ∷ map members sets) (is ∙ ap (λ x. filter test (members x)) there)
cut-set test (s ∷ sets) (suc i) new old within there is = ap (λ xs. members s ∷ xs) (cut-set test sets i new old (omega (arith, within)) there is)

pub cut-past : (test : ℕ → Bool) (sets : List PositionSet) (i : ℕ) → length sets ≤ i → cut test i (map members sets) ≡ map members sets
cut-past test [] i past = refl
cut-past test (s ∷ sets) zero past = absurd (omega (arith, past))
cut-past test (s ∷ sets) (suc i) past = ap (λ xs. members s ∷ xs) (cut-past test sets i (omega (arith, past)))

fixed-step : (prefix : List ℕ) (k : ℕ) (set : List ℕ) (rest : Choice) → fixed (drop k prefix) (set ∷ rest) ≡ option_map_or (λ q. filter (λ p. q == p) set) (slice_get prefix k) set ∷ fixed (drop (k + 1) prefix) rest
fixed-step prefix k set rest = ⊎_elim
    (λ found.
    let first : drop k prefix ≡ found.0 ∷ drop (k + 1) prefix = drop-at prefix k found.0 found.2 in
    ap (λ front. fixed front (set ∷ rest)) first ∙ sym (ap (λ number. option_map_or (λ q. filter (λ p. q == p) set) number set ∷ fixed (drop (k + 1) prefix) rest) found.2))
    (λ past.
    let none : drop k prefix ≡ [] = drop_all k prefix past.0 in
    let none_more : drop (k + 1) prefix ≡ [] = drop_all (k + 1) prefix (omega (arith, past.0)) in
    ap (λ front. fixed front (set ∷ rest)) none ∙ sym (ap₂ (λ number front. option_map_or (λ q. filter (λ p. q == p) set) number set ∷ fixed front rest) past.1 none_more))
    (slice_get_cases prefix k).1

-- one container more of the choice of a prefix
pub fixed-more : (prefix : List ℕ) (own : List PositionSet) (k : ℕ) (d new : PositionSet) (sets : List PositionSet) → k < length own
    → members new ≡ option_map_or (λ q. filter (λ p. q == p) (members (get_or own k d))) (slice_get prefix k) (members (get_or own k d))
    → map members sets ++ fixed (drop k prefix) (map members (drop k own)) ≡ fixed prefix (map members own)
    → map members (sets ++ new ∷ []) ++ fixed (drop (k + 1) prefix) (map members (drop (k + 1) own)) ≡ fixed prefix (map members own)
fixed-more prefix own k d new sets within is so_far =
    let rest = map members (drop (k + 1) own) in
    let split : fixed (drop k prefix) (map members (drop k own)) ≡ members new ∷ fixed (drop (k + 1) prefix) rest =
    ap (λ (xs : List PositionSet). fixed (drop k prefix) (map members xs)) (drop_more own k d within) ∙ fixed-step prefix k (members (get_or own k d)) rest ∙ ap (λ x. x ∷ fixed (drop (k + 1) prefix) rest) (sym is) in
    ap (λ xs. xs ++ fixed (drop (k + 1) prefix) rest) (map-append members sets (new ∷ []))
    ∙ append_assoc (map members sets) (members new ∷ []) (fixed (drop (k + 1) prefix) rest)
    ∙ ap (λ xs. map members sets ++ xs) (sym split)
    ∙ so_far
