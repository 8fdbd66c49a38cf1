-- what a check of a certificate with prices knows between its steps
use Rattle.std.specs.Prelude.{ℕ, ◌⊎◌}
use Rattle.hold_limits.specs.Problem.{Problem}
use Rattle.cert_checker.specs.Evidence.{claim_in}
use Rattle.cert_checker.specs.FirstReason.{AllPass}
use Rattle.cert_checker.specs.declared.standard.Evidence.{Evidence}
use Rattle.priced_certificate.specs.declared.parts.PricedCut.{PricedCut}
use Rattle.priced_checker.specs.Good.{prefixes_of}
use Rattle.priced_checker.specs.FirstReason.{PricedCutsHold, PricedCutFails, PricedPrefixFails}
use Rattle.priced_checker.specs.declared.reject.PricedReject.{PricedReject}

-- the cuts hold, and the prefixes that they leave pass
abbrev pub EvidenceHolds : Problem → Evidence PricedCut → ℕ → Type 0
EvidenceHolds t evidence allowed =
    PricedCutsHold t (claim_in evidence) evidence.cuts.now × AllPass t (claim_in evidence) (prefixes_of evidence.cuts.now) allowed

-- a cut is the first that fails, or the cuts hold and a prefix is
abbrev pub EvidenceFails : Problem → Evidence PricedCut → ℕ → PricedReject → Type 0
EvidenceFails t evidence allowed reason =
    PricedCutFails t (claim_in evidence) evidence.cuts.now reason
    ⊎ (PricedCutsHold t (claim_in evidence) evidence.cuts.now × PricedPrefixFails t (claim_in evidence) evidence.cuts.now allowed reason)
