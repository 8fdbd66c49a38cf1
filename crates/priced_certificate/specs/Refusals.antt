-- why a text is refused
use Rattle.std.specs.Prelude.{ℕ, List}
use Rattle.hold_parts.specs.declared.parts.Position.{Position}
use Rattle.text_lines.specs.Stated.{AreLinesOf}
use Rattle.certificate.specs.Refusals.{IsRefusedAfter}
use Rattle.certificate.specs.declared.fault.CertFault.{CertFault}
use Rattle.priced_certificate.specs.PricedText.{start_line, priced_lines, IsSpelled}

-- these are all lines of some certificate after its first
abbrev pub ArePricedLines : List Position → List (List ℕ) → Type 0
ArePricedLines positions = AreLinesOf (IsSpelled positions) (priced_lines positions)

-- the text is refused for this fault
abbrev pub IsRefused : List Position → List ℕ → CertFault → Type 0
IsRefused positions = IsRefusedAfter start_line (ArePricedLines positions)
