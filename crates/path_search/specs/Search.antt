-- what a best-first search does at each step
use Rattle.std.specs.Prelude.{◌≡◌, ◌≢◌, ℕ, ◌<◌, ◌≤◌, List, [], ◌∷◌, ◌++◌, length, All, AllPairs, Contains, IsPermutation}
use Rattle.hold_limits.specs.Placement.{Key, IsAtMost}
use Rattle.path_search.specs.Keys.{prefixes}
use Rattle.path_search.specs.Promising.{HasNoBound}
use Rattle.path_search.specs.Worlds.{World, IsIncompleteIn}

-- the prefix may wait with these ticks
abbrev pub IsWaiting : (List ℕ → ℕ → Type 0) → Key → Type 0
IsWaiting MayWait k = MayWait k.1 k.0

-- Children --------------------------------------------------------------------------------------

-- the prefix is the front with one more number, which is below this one
abbrev pub IsNext : List ℕ → ℕ → List ℕ → Type 0
IsNext front number prefix = (q : ℕ) × (q < number) × (prefix ≡ front ++ q ∷ [])

-- the viable prefixes that are the front with one more number below this one, each once, with at least so many ticks
pub record AreChildren (w : World) (MayWait : List ℕ → ℕ → Type 0) (front : List ℕ) (bound number : ℕ) (children : List Key) : Type 0 where
  pub waiting : All (IsWaiting MayWait) children
  pub later : All (λ (k : Key). bound ≤ k.0) children
  pub next : All (IsNext front number) (prefixes children)
  pub different : AllPairs (λ p q. p ≢ q) (prefixes children)
  pub every : (q : ℕ) → q < number → w.IsViable (front ++ q ∷ []) → Contains (prefixes children) (front ++ q ∷ [])

-- the new queue has those beside what the old one had
pub record AddsChildren (w : World) (MayWait : List ℕ → ℕ → Type 0) (front : List ℕ) (bound number : ℕ) (old new : List Key) : Type 0 where
  pub children : List Key
  pub are : AreChildren w MayWait front bound number children
  pub added : IsPermutation (children ++ old) new

-- The whole search ------------------------------------------------------------------------------

-- what a search knows: what it has taken from its queue, what waits there, and where it turned back
abbrev pub known : List (List ℕ) → List Key → List (List ℕ) → List (List ℕ)
known taken queue turned = (taken ++ prefixes queue) ++ turned

-- a search has taken some prefixes from its queue, others wait there, and at some it turned back
pub record IsSearched (w : World) (MayWait : List ℕ → ℕ → Type 0) (taken : List (List ℕ)) (queue : List Key) (turned : List (List ℕ)) : Type 0 where
  -- the first have bounds, the last have none, and no prefix comes twice
  pub bounded : All (λ p. (b : ℕ) × w.HasBound p b) taken
  pub waiting : All (IsWaiting MayWait) queue
  pub none : All (HasNoBound w) turned
  pub different : AllPairs (λ p q. p ≢ q) (known taken queue turned)
  -- those that were taken leave containers, and come before those that wait
  pub incomplete : All (IsIncompleteIn w) taken
  pub least : (prefix : List ℕ) (b : ℕ) → Contains taken prefix → w.HasBound prefix b → All (λ k. IsAtMost (b, prefix) k) queue
  -- the empty prefix is known where it is viable, and so is each viable prefix that is one that was taken with a number more
  pub begun : w.IsViable [] → Contains (known taken queue turned) []
  pub children : (prefix : List ℕ) (q : ℕ) → Contains taken prefix → w.IsViable (prefix ++ q ∷ []) → Contains (known taken queue turned) (prefix ++ q ∷ [])
  -- no others are known
  pub parents : (prefix : List ℕ) (q : ℕ) → Contains (known taken queue turned) (prefix ++ q ∷ []) → Contains taken prefix

-- what was taken before is so still, with another queue, and with other prefixes at which the search turned back
abbrev pub StaysSearched : World → (List ℕ → ℕ → Type 0) → List Key → List Key → List (List ℕ) → List (List ℕ) → Type 0
StaysSearched w MayWait old new before after = (taken : List (List ℕ)) → IsSearched w MayWait taken old before → IsSearched w MayWait taken new after

-- a prefix waited with its own bound, the least of a queue with which what was taken before is so still: it was taken out, and the new
-- queue is left
pub record IsFirst (w : World) (MayWait : List ℕ → ℕ → Type 0) (first : Key) (old new : List Key) (before after : List (List ℕ)) : Type 0 where
  pub queue : List Key
  pub stays : StaysSearched w MayWait old queue before after
  pub bound : w.HasBound first.1 first.0
  pub moved : IsPermutation queue (first ∷ new)
  pub least : All (λ k. IsAtMost first k) new

-- a search has taken this many prefixes from its queue, others wait there, and at some it turned back
abbrev pub HasTaken : World → (List ℕ → ℕ → Type 0) → ℕ → List Key → List (List ℕ) → Type 0
HasTaken w MayWait number queue turned = (taken : List (List ℕ)) × IsSearched w MayWait taken queue turned × (length taken ≡ number)
