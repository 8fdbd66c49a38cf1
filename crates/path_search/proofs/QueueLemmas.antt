-- what the order of a heap says of the keys in it
use Rattle.std.proofs.Common.{◌≡◌, ⊎_elim, ℕ, zero, suc, ◌+◌, ◌<◌, length, get_or, false, List, [], ◌∷◌, map, ap, arith, Ordering, Less, Equal, Greater, is_gt, refl}
use Rattle.std.proofs.lemmas.List.{length-map}
use Rattle.std.proofs.lemmas.Bool.{true≢false}
use Rattle.std.proofs.lemmas.List.Elements.{All-nil, All-cons}
use Rattle.std.specs.Ordering.{is_lt, ordering_reverse}
use Rattle.std.proofs.lemmas.List.Sorted.{Contains-permutation, length_permutation}
use Rattle.std.specs.Prelude.{All, Contains, IsPermutation, IsSorted}
use Rattle.std.specs.BinaryHeap.{IsUpperBound}
use Rattle.std.specs.declared.cmp.Reverse.{Reverse}
use Rattle.hold_limits.specs.Placement.{Key, key_cmp, IsAtMost}
use Rattle.hold_limits.proofs.KeyOrder.{key_cmp_total}
use Rattle.path_search.specs.declared.queue.Waiting.{Waiting}
use Rattle.path_search.specs.Keys.{key_of_entry}
use Rattle.path_search.proofs.CountLemmas.{Contains-cons, Contains-cons_cases, Contains-nil}

turned : (o p : Ordering) → o ≡ ordering_reverse p → is_lt p ≡ false → is_gt o ≡ false
turned o Less is not = absurd (true≢false not)
turned o Equal is not = ap is_gt is
turned o Greater is not = ap is_gt is

-- what is not less than a key is at least it
IsAtMost-from_not_less : (a b : Key) → is_lt (key_cmp b a) ≡ false → IsAtMost a b
IsAtMost-from_not_less a b not = turned (key_cmp a b) (key_cmp b a) (key_cmp_total.antisymm a b) not

-- the order of entries: the greatest comes first, which has the least key
abbrev pub entry_cmp : Reverse Waiting → Reverse Waiting → Ordering
entry_cmp x y = key_cmp (key_of_entry y) (key_of_entry x)

-- an upper bound of entries has the least key
pub least-key : (x : Reverse Waiting) (entries : List (Reverse Waiting)) → IsUpperBound entry_cmp x entries → All (λ k. IsAtMost (key_of_entry x) k) (map key_of_entry entries)
least-key x [] above = All-nil (λ k. IsAtMost (key_of_entry x) k)
least-key x (y ∷ entries) above =
    All-cons (λ k. IsAtMost (key_of_entry x) k) (key_of_entry y) (map key_of_entry entries)
    (IsAtMost-from_not_less (key_of_entry x) (key_of_entry y) above.0)
    (least-key x entries above.1)

-- what is added to an empty queue is alone
pub one-alone : (k : Key) (queue : List Key) → IsPermutation (k ∷ []) queue → queue ≡ k ∷ []
one-alone k [] added = absurd (omega (arith, length_permutation (k ∷ []) [] added))
one-alone k (e ∷ []) added = ⊎_elim
    (λ (same : e ≡ k). ap (λ f. f ∷ []) same)
    (λ (none : Contains [] k). absurd (Contains-nil k none))
    (Contains-cons_cases e [] k (Contains-permutation (k ∷ []) (e ∷ []) k added (Contains-cons k [])))
one-alone k (e ∷ (f ∷ rest)) added = absurd (omega (arith, length_permutation (k ∷ []) (e ∷ f ∷ rest) added))

-- Paths -----------------------------------------------------------------------------------------

get_or-map : {X Y : Type 0} (f : X → Y) (xs : List X) (k : ℕ) (d : Y) (e : X) → k < length xs → get_or (map f xs) k d ≡ f (get_or xs k e)
get_or-map f [] k d e within = absurd (omega arith)
get_or-map f (x ∷ xs) zero d e within = refl
get_or-map f (x ∷ xs) (suc k) d e within = get_or-map f xs k d e (omega arith)

-- a list that is sorted by what its elements are mapped to
pub IsSorted-map : {X Y : Type 0} (f : X → Y) (cmp : Y → Y → Ordering) (xs : List X) → IsSorted (λ a b. cmp (f a) (f b)) xs → IsSorted cmp (map f xs)
IsSorted-map f cmp [] sorted = λ k d low high. absurd (omega arith)
IsSorted-map f cmp (x ∷ xs) sorted = λ k d low high.
    let within : k + 1 < length (x ∷ xs) = omega (arith, length-map (x ∷ xs) f) in
    let here = get_or-map f (x ∷ xs) k d x (omega arith) in
    let next = get_or-map f (x ∷ xs) (k + 1) d x within in
    rw (here, next) (sorted k x low within)
