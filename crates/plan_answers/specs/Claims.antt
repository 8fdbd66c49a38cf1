-- What the claim of a good certificate comes to.
use Rattle.std.specs.Prelude.{ℕ, List, Option, MatchOption}
use Rattle.hold_limits.specs.Problem.{Problem}
use Rattle.hold_limits.specs.Placement.{IsBest}
use Rattle.cert_checker.specs.Claims.{HasNoPlacement}

-- what is claimed is true of the task: the claimed path is the best; where none is claimed, no path is admissible
abbrev pub IsTrueOf : Problem → Option (List ℕ) → Type 0
IsTrueOf t claim = MatchOption claim (HasNoPlacement t) (IsBest t)
