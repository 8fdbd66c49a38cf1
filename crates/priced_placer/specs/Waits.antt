-- with how many ticks a prefix may wait in a search by the tight reach, and what such a search keeps
use Rattle.std.specs.Prelude.{◌≡◌, ℕ, ◌≤◌, List, [], ◌∷◌, ◌++◌, All}
use Rattle.hold_limits.specs.Problem.{Problem}
use Rattle.hold_partial.specs.Placing.{Placing, placing_of}
use Rattle.hold_reach.specs.Reach.{IsViable}
use Rattle.priced_placer.specs.PriceNear.{HasTightBound}

-- a viable prefix may wait with no more ticks than its bound, if it has one
pub record MayWaitTightly (t : Problem) (prefix : List ℕ) (waited : ℕ) : Type 0 where
  pub viable : IsViable t prefix
  pub below : (b : ℕ) → HasTightBound t prefix b → waited ≤ b

-- the placements are of this task
abbrev pub AreOf : List Placing → Problem → Type 0
AreOf seen t = All (λ (p : Placing). p.task ≡ t) seen

-- the last of them is of this prefix
abbrev pub EndAt : List Placing → Problem → List ℕ → Type 0
EndAt seen t prefix = (front : List Placing) × (seen ≡ front ++ placing_of t prefix ∷ [])
