-- what the prefixes of a task are compared with in a check: the claimed path, and the cuts, of whatever kind they are
use Rattle.std.specs.Prelude.{◌≡◌, ℕ, List, map, Option, Some, None, IfSome, IsSomeAnd}
use Rattle.hold_limits.specs.Problem.{Problem}
use Rattle.hold_limits.specs.Placement.{Key, IsAtMost, distance}
use Rattle.cert_checker.specs.declared.standard.Standard.{Standard}
use Rattle.cert_checker.specs.declared.standard.Evidence.{Evidence}

-- The claimed path ------------------------------------------------------------------------------

-- the numbers of the claimed path, if there is one
abbrev pub path_of : Option Standard → Option (List ℕ)
path_of None = None
path_of (Some standard) = Some standard.path.now.items

-- the claimed path's key, by the distance kept with it
abbrev pub standard_key : Standard → Key
standard_key standard = (standard.distance, standard.path.now.items)

-- the distance that is kept with the claimed path is its own
abbrev pub IsMeasured : Problem → Option Standard → Type 0
IsMeasured t standard = IfSome standard (λ s. s.distance ≡ distance t s.path.now.items)

-- there is a claimed path, and its key is at most this one
abbrev pub IsAtLeast : Option Standard → Key → Type 0
IsAtLeast standard k = IsSomeAnd standard (λ s. IsAtMost (standard_key s) k)

-- The cuts --------------------------------------------------------------------------------------

-- the claimed path, if one is
abbrev pub claim_in : {C : Type 0} → Evidence C → Option (List ℕ)
claim_in evidence = path_of evidence.standard

-- the prefixes of the cuts
abbrev pub cuts_in : {C : Type 0} → (C → List ℕ) → Evidence C → List (List ℕ)
cuts_in prefix_of evidence = map prefix_of evidence.cuts.now
