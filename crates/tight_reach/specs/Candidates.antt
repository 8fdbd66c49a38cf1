-- the containers that a prefix leaves, as an assignment takes them
use Rattle.std.specs.Prelude.{◌≡◌, ℕ, ℤ, List, length, pos, slice_index_or}
use Rattle.std.specs.List.{AllZip}
use Rattle.position_set.specs.Sets.{Stands}
use Rattle.hold_parts.specs.declared.parts.Item.{Item}
use Rattle.hold_limits.specs.Layout.{Layout}
use Rattle.hold_limits.specs.Placement.{influence_at}
use Rattle.hold_limits.specs.Problem.{Problem}
use Rattle.hold_reach.specs.Reach.{remaining, is_open}
use Rattle.assignment.specs.declared.candidate.Candidate.{Candidate}
use Rattle.assignment_prices.specs.declared.end.End.{End}
use Rattle.assignment_prices.specs.Steps.{counted_from}

-- the container with the positions that are open for it
pub record IsCandidate (t : Problem) (prefix : List ℕ) (item : Item) (candidate : Candidate) : Type 0 where
  pub mass : candidate.mass ≡ item.mass.0
  pub positions : Stands candidate.open (is_open t prefix item)

-- the containers that the prefix leaves, in their order
abbrev pub AreCandidates : Problem → List ℕ → List Candidate → Type 0
AreCandidates t prefix candidates = AllZip (IsCandidate t prefix) (remaining t prefix) candidates

-- the influences of the positions, counted from that end
pub record AreInfluences (hold : Layout) (end : End) (influences : List ℤ) : Type 0 where
  pub count : length influences ≡ length hold.positions
  pub each : (q : ℕ) → slice_index_or influences q (pos 0) ≡ counted_from end (influence_at hold q)
