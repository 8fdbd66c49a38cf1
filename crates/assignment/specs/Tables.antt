-- what candidates cost on positions, by their numbers, and numbers in lists
use Rattle.std.specs.Prelude.{◌≡◌, ◌≢◌, ℕ, ◌<◌, ℤ, pos, ◌+ℤ◌, ◌*ℤ◌, ◌≤ℤ◌, List, length, slice_index_or}
use Rattle.assignment.specs.declared.candidate.Candidate.{Candidate}
use Rattle.assignment.specs.declared.costs.CostTable.{CostTable}
use Rattle.assignment.specs.Costs.{MayStand}

-- the number at this place
abbrev pub number_at : List ℕ → ℕ → ℕ
number_at numbers place = slice_index_or numbers place 0

-- the number does not stand in the list
abbrev pub Lacks : List ℕ → ℕ → Type 0
Lacks numbers number = (place : ℕ) → place < length numbers → number_at numbers place ≢ number

-- no number stands twice in the list
abbrev pub AreApart : List ℕ → Type 0
AreApart numbers = (one other : ℕ) → one < length numbers → other < length numbers → number_at numbers one ≡ number_at numbers other → one ≡ other

-- the number is at most so much, either way
pub record IsWithin (most : ℕ) (number : ℤ) : Type 0 where
  pub above : pos 0 ≤ℤ (number +ℤ pos most)
  pub below : number ≤ℤ pos most

-- a candidate for which no position is open
abbrev pub nobody : Candidate
nobody = record { mass = 0; «open» = record { 0 = 0 } }

-- the candidate of this number
abbrev pub candidate_at : CostTable → ℕ → Candidate
candidate_at costs number = slice_index_or costs.candidates.now number nobody

-- what a kilogram adds on the position of this number
abbrev pub influence_at : CostTable → ℕ → ℤ
influence_at costs position = slice_index_or costs.influences.now position (pos 0)

-- the position is open for the candidate
unfoldable pub MayTake : CostTable → ℕ → ℕ → Type 0
MayTake costs number position = MayStand (candidate_at costs number) position

-- what the candidate costs on the position
unfoldable pub cost_at : CostTable → ℕ → ℕ → ℤ
cost_at costs number position = pos (candidate_at costs number).mass *ℤ influence_at costs position
