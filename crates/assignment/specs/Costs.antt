-- what containers cost on positions: mass times influence
use Rattle.std.specs.Prelude.{◌≡◌, ℕ, ◌<◌, ◌≤◌, ℤ, pos, ◌*ℤ◌, unsigned_abs, true, List, length, All, slice_index_or}
use Rattle.position_set.specs.Sets.{has}
use Rattle.assignment.specs.declared.candidate.Candidate.{Candidate}

-- the candidate may stand on the position
abbrev pub MayStand : Candidate → ℕ → Type 0
MayStand candidate q = has candidate.open q ≡ true

-- what the candidate costs on the position, in ticks
abbrev pub cost_in : List ℤ → Candidate × ℕ → ℤ
cost_in influences placed = pos placed.0.mass *ℤ slice_index_or influences placed.1 (pos 0)

-- a task of giving candidates positions of their own that one call can take: at most 60 candidates of at most
-- 20,000 kg, and at most 64 positions with at most 100,000 ticks for each kilogram either way; only these positions
-- are open
pub record IsOrdinary (candidates : List Candidate) (influences : List ℤ) : Type 0 where
  pub few_candidates : length candidates ≤ 60
  pub few_positions : length influences ≤ 64
  pub light : All (λ (c : Candidate). c.mass ≤ 20000) candidates
  pub near : All (λ influence. unsigned_abs influence ≤ 100000) influences
  pub known : All (λ (c : Candidate). (q : ℕ) → MayStand c q → q < length influences) candidates
