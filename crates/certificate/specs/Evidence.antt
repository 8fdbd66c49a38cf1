-- a certificate as definitions see it: paths are lists of position numbers
use Rattle.std.specs.Prelude.{ℕ, List, map, Option, Some, None}
use Rattle.arrayvec.specs.ArrayVec.{ArrayVec}
use Rattle.certificate.specs.declared.parts.Claim.{Claim}
use Rattle.certificate.specs.declared.parts.Claim.TheVariants.{Best, NoneFits}

-- the path that is claimed to be the best, if one is
abbrev pub claimed : Claim → Option (List ℕ)
claimed (Best path) = Some path.items
claimed NoneFits = None

-- the numbers of each path
abbrev pub paths_of : List (ArrayVec ℕ) → List (List ℕ)
paths_of paths = map (λ (path : ArrayVec ℕ). path.items) paths
