-- what a check knows between its steps
use Rattle.std.specs.Prelude.{◌≡◌, ℕ, ◌<◌, ◌≤◌, ◌⊎◌, List, length, get_or, Option}
use Rattle.arrayvec.specs.ArrayVec.{ArrayVec}
use Rattle.hold_limits.specs.Problem.{Problem}
use Rattle.hold_reach.specs.Reach.{IsViable}
use Rattle.certificate.specs.Evidence.{paths_of}
use Rattle.certificate.specs.Good.{IsBefore, IsUncut, IsIncomplete, IsNoBetter}
use Rattle.cert_checker.specs.FirstReason.{IsComplete, Pass, AllPass, CutsHold, CutFails, PrefixFails}
use Rattle.cert_checker.specs.Evidence.{claim_in}
use Rattle.cert_checker.specs.declared.reject.Reject.{Reject}
use Rattle.cert_checker.specs.declared.standard.Evidence.{Evidence}

-- The walk --------------------------------------------------------------------------------------

-- the first n cuts are those of the kind
abbrev pub AreFirst : List (List ℕ) → ℕ → (List ℕ → Type 0) → Type 0
AreFirst cuts n Kind = (at : ℕ) (d : List ℕ) → at < length cuts → (at < n → Kind (get_or cuts at d)) × (n ≤ at → Kind (get_or cuts at d) → ⊥)

-- the prefix fails where n incomplete ones are before it: it is one too many, or a better path
abbrev pub Fails : Problem → Option (List ℕ) → ℕ → List ℕ → ℕ → Type 0
Fails t claim allowed prefix n = (IsIncomplete t prefix × (n ≡ allowed)) ⊎ (IsComplete t prefix × (IsNoBetter t claim prefix → ⊥))

-- the prefix is the first of its kind that fails
pub record Stops (t : Problem) (claim : Option (List ℕ)) (cuts : List (List ℕ)) (Kind : List ℕ → Type 0) (allowed : ℕ) (prefix : List ℕ) : Type 0 where
  pub of_kind : Kind prefix
  pub viable : IsViable t prefix
  pub uncut : IsUncut cuts prefix
  pub number : ℕ
  pub before : Pass t claim cuts (λ p. Kind p × IsBefore p prefix) number
  pub few : number ≤ allowed
  pub fails : Fails t claim allowed prefix number

-- The whole -------------------------------------------------------------------------------------

-- the cuts, where each is a prefix
abbrev pub paths_in : Evidence (ArrayVec ℕ) → List (List ℕ)
paths_in evidence = paths_of evidence.cuts.now

-- the cuts hold, and the prefixes that they leave pass
abbrev pub EvidenceHolds : Problem → Evidence (ArrayVec ℕ) → ℕ → Type 0
EvidenceHolds t evidence allowed = CutsHold t (claim_in evidence) (paths_in evidence) × AllPass t (claim_in evidence) (paths_in evidence) allowed

-- a cut is the first that fails, or the cuts hold and a prefix is
abbrev pub EvidenceFails : Problem → Evidence (ArrayVec ℕ) → ℕ → Reject → Type 0
EvidenceFails t evidence allowed reason =
    CutFails t (claim_in evidence) (paths_in evidence) reason
    ⊎ (CutsHold t (claim_in evidence) (paths_in evidence) × PrefixFails t (claim_in evidence) (paths_in evidence) allowed reason)
