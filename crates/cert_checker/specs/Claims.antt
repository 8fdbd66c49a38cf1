-- what a certificate claims of its task, and what a good one proves
use Rattle.std.specs.Prelude.{List, ℕ, IsSome, IsNone}
use Rattle.hold_limits.specs.Problem.{Problem}
use Rattle.hold_limits.specs.Placement.{IsAdmissible}
use Rattle.certificate.specs.declared.parts.Certificate.{Certificate}
use Rattle.certificate.specs.Evidence.{claimed}
use Rattle.certificate.specs.Good.{IsGood}

-- no path is admissible
abbrev pub HasNoPlacement : Problem → Type 0
HasNoPlacement t = (path : List ℕ) → IsAdmissible t path → ⊥

-- the certificate is good for the task
abbrev pub IsGoodFor : Problem → Certificate → Type 0
IsGoodFor t c = IsGood t (claimed c.claim) c.cuts c.expanded

-- the certificate claims that a path is the best
abbrev pub ClaimsPath : Certificate → Type 0
ClaimsPath c = IsSome (claimed c.claim)

-- the certificate claims that no path is admissible
abbrev pub ClaimsNone : Certificate → Type 0
ClaimsNone c = IsNone (claimed c.claim)
