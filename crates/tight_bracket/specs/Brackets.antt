-- drafts for both ends of the tight reach of a prefix
use Rattle.std.specs.Prelude.{◌≡◌, ℕ, ◌≤◌, ℤ, List, unsigned_abs}
use Rattle.hold_limits.specs.Faults.{IsLawful}
use Rattle.hold_limits.specs.Placement.{IsSound, hold_index}
use Rattle.hold_limits.specs.Problem.{Problem}
use Rattle.assignment_draft.specs.Drafts.{Work}
use Rattle.assignment_prices.specs.declared.end.End.{End}
use Rattle.assignment_prices.specs.declared.end.End.TheVariants.{Low, High}
use Rattle.tight_reach.specs.Candidates.{AreCandidates, AreInfluences}

-- a draft for the end of what the prefix leaves
pub record IsDraftFor (t : Problem) (prefix : List ℕ) (end : End) (draft : Work) : Type 0 where
  pub candidates : AreCandidates t prefix draft.candidates
  pub influences : AreInfluences t.hold end draft.influences

-- drafts for both ends, and the hold index so far
pub record AreDrafts (t : Problem) (prefix : List ℕ) (index : ℤ) (low high : Work) : Type 0 where
  pub lawful : IsLawful t
  pub sound : IsSound t prefix
  pub so_far : index ≡ hold_index t prefix
  pub small : unsigned_abs index ≤ 248000000000
  pub low_end : IsDraftFor t prefix Low low
  pub high_end : IsDraftFor t prefix High high
