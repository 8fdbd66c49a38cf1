-- ways to give each candidate a position of its own, and what they cost
use Rattle.std.specs.Prelude.{◌≢◌, ℕ, ℤ, List, zip, AllPairs}
use Rattle.std.specs.List.{AllZip}
use Rattle.base_words.specs.Lists.{int_sum_by}

-- a position for each candidate on which it may stand, no two of them the same
pub record IsWay {A : Type 0} (May : A → ℕ → Type 0) (candidates : List A) (way : List ℕ) : Type 0 where
  pub each : AllZip May candidates way
  pub apart : AllPairs (λ p q. p ≢ q) way

-- what all candidates cost on these positions
abbrev pub cost_of : {A : Type 0} → (A × ℕ → ℤ) → List A → List ℕ → ℤ
cost_of cost candidates way = int_sum_by cost (zip candidates way)
