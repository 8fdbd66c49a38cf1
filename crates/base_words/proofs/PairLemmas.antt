-- what holds of each element of a list, and of each element and each later one: taken apart, and one element more at a time
use Rattle.std.proofs.Common.{ℕ, suc, ◌+◌, ◌<◌, ◌≤◌, List, [], ◌∷◌, length, get_or, take, sym, subst, arith, length-take}
use Rattle.std.proofs.lemmas.List.{take_more, take_all, get_or-take, get_or_default}
use Rattle.std.proofs.lemmas.List.Elements.{recursion_from_All}
use Rattle.std.proofs.lemmas.List.Quantifiers.{all_pairs_push}
use Rattle.std.specs.Prelude.{All, AllPairs}
use Rattle.std.specs.List.{AllByRecursion}
use Rattle.base_words.proofs.Arrangements.{Ranked}

-- what follows of each element for itself follows for all
pub each-weaker : {X : Type 0} (P Q : X → Type 0) (weaker : (x : X) → P x → Q x) (xs : List X) → AllByRecursion P xs → AllByRecursion Q xs
each-weaker P Q weaker [] each = each
each-weaker P Q weaker (x ∷ xs) each = (weaker x each.0, each-weaker P Q weaker xs each.1)

pub AllPairs-head : {X : Type 0} (R : X → X → Type 0) (x : X) (xs : List X) → AllPairs R (x ∷ xs) → All (R x) xs
AllPairs-head R x xs pairs k d within = pairs 0 (suc k) d (omega arith) (omega arith)

pub AllPairs-tail : {X : Type 0} (R : X → X → Type 0) (x : X) (xs : List X) → AllPairs R (x ∷ xs) → AllPairs R xs
AllPairs-tail R x xs pairs i j d before within = pairs (suc i) (suc j) d (omega arith) (omega arith)

pub Ranked-from_AllPairs : {X : Type 0} (R : X → X → Type 0) (xs : List X) → AllPairs R xs → Ranked R xs
Ranked-from_AllPairs R [] pairs = tt
Ranked-from_AllPairs R (x ∷ xs) pairs = (recursion_from_All (R x) xs (AllPairs-head R x xs pairs), Ranked-from_AllPairs R xs (AllPairs-tail R x xs pairs))

pub pairs-more : {X : Type 0} (R : X → X → Type 0) (xs : List X) (i : ℕ) (d : X) → i < length xs → AllPairs R (take i xs) → All (λ x. R x (get_or xs i d)) (take i xs) → AllPairs R (take (i + 1) xs)
pairs-more R xs i d within pairs all =
    let P : List _ → Type 0 = λ ys. AllPairs R ys in
    subst P (sym (take_more xs i d within)) (all_pairs_push R (take i xs) (get_or xs i d) pairs all)

pub pairs-all : {X : Type 0} (R : X → X → Type 0) (xs : List X) (i : ℕ) (e : X) → i < length xs → AllPairs R xs → All (λ x. R x (get_or xs i e)) (take i xs)
pairs-all {X} R xs i e within pairs k d less =
    let below : k < i = omega (arith, length-take i xs) in
    let P : X → Type 0 = λ x. R x (get_or xs i e) in
    let Q : X → Type 0 = λ x. R (get_or xs k d) x in
    subst P (sym (get_or-take i xs k d below)) (subst Q (get_or_default xs i d e within) (pairs k i d below within))

pub pairs-whole : {X : Type 0} (R : X → X → Type 0) (xs : List X) (i : ℕ) → length xs ≤ i → AllPairs R (take i xs) → AllPairs R xs
pairs-whole {X} R xs i past pairs =
    let P : List X → Type 0 = λ ys. AllPairs R ys in
    subst P (take_all i xs past) pairs
