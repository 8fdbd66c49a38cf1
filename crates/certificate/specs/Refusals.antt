-- why a text is refused
use Rattle.std.specs.Prelude.{ℕ, ◌+◌, List, length}
use Rattle.hold_parts.specs.declared.parts.Position.{Position}
use Rattle.text_lines.specs.Grammar.{Fails}
use Rattle.text_lines.specs.Stated.{AreLinesOf}
use Rattle.text_lines.specs.declared.fault.LineFault.{LineFault}
use Rattle.text_lines.specs.declared.fault.LineFault.TheVariants as line
use Rattle.certificate.specs.Starts.{StartsAfter, HasNoStart}
use Rattle.certificate.specs.CertificateText.{start_line, evidence_lines, IsSpelled}
use Rattle.certificate.specs.declared.fault.CertFault.{CertFault}
use Rattle.certificate.specs.declared.fault.CertFault.TheVariants.{NoStart, Line, NoEnd, NoMemory}

-- a fault of the lines after the first one of a certificate, as a fault of the text
abbrev pub cert_fault : LineFault → CertFault
cert_fault (line.Line n) = Line n
cert_fault line.NoEnd = NoEnd
cert_fault line.NoMemory = NoMemory

-- a text whose certificate has this start, and behind it lines of this kind, is refused for the fault
pub data IsRefusedAfter (start : List ℕ) (IsKind : List (List ℕ) → Type 0) (text : List ℕ) : CertFault → Type 0 where
  no_start : HasNoStart start text → IsRefusedAfter start IsKind text NoStart
  -- what follows the start is not made of the other lines of a certificate; lines count from the first one of the text
  wrong_lines : (before : List (List ℕ)) (rest : List ℕ) (fault : LineFault) → StartsAfter start before text rest
      → Fails IsKind rest (length before + 2) fault → IsRefusedAfter start IsKind text (cert_fault fault)

-- these are all lines of some certificate after its first
abbrev pub AreEvidence : List Position → List (List ℕ) → Type 0
AreEvidence positions = AreLinesOf (IsSpelled positions) (evidence_lines positions)

-- the text is refused for this fault
abbrev pub IsRefused : List Position → List ℕ → CertFault → Type 0
IsRefused positions = IsRefusedAfter start_line (AreEvidence positions)
