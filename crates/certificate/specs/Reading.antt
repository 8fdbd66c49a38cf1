-- what the steps of the reader return
use Rattle.std.specs.Prelude.{ℕ, List}
use Rattle.hold_parts.specs.declared.parts.Position.{Position}
use Rattle.text_lines.specs.Sections.{IsOfKind}
use Rattle.certificate.specs.CertificateText.{claim_line, IsSpelledClaim}

-- the line says what is claimed
abbrev pub IsClaimLine : List Position → List ℕ → Type 0
IsClaimLine positions = IsOfKind (claim_line positions) (IsSpelledClaim positions)
