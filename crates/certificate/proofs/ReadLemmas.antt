-- a text has one answer at most
use Rattle.std.proofs.Common.{◌≡◌, ℕ, List, refl}
use Rattle.hold_parts.specs.declared.parts.Position.{Position}
use Rattle.text_lines.specs.Cuts.{Avoids}
use Rattle.text_lines.proofs.WordLemmas.{plain_word}
use Rattle.certificate.specs.CertificateText.{start_line, Spells}
use Rattle.certificate.specs.Refusals.{IsRefused}
use Rattle.certificate.specs.declared.parts.Certificate.{Certificate}
use Rattle.certificate.specs.declared.fault.CertFault.{CertFault}
use Rattle.certificate.specs.declared.fault.CertFault.TheVariants.{NoMemory}
use Rattle.certificate.proofs.PathLemmas.{AreNames}
use Rattle.certificate.proofs.AfterStart.{states_once, stated_has_no_fault}
use Rattle.certificate.proofs.EvidenceParts.{evidence, is_read_once}

pub start_plain : Avoids 10 start_line
start_plain = plain_word 10 start_line refl

pub spelled_once : (ps : List Position) → AreNames ps → (text : List ℕ) (a b : Certificate) → Spells ps text a → Spells ps text b → a ≡ b
spelled_once ps names = states_once start_line start_plain (evidence ps) (is_read_once ps names)

pub spelled_has_no_fault : (ps : List Position) → AreNames ps → (text : List ℕ) (c : Certificate) (fault : CertFault) → Spells ps text c → IsRefused ps text fault → fault ≡ NoMemory
spelled_has_no_fault ps names = stated_has_no_fault start_line start_plain (evidence ps) (is_read_once ps names)
