-- The text of a spelled message is a telex.
use Rattle.std.proofs.Common.{◌≤◌, List, ℕ, length, subst, sym, arith}
use Rattle.std.specs.Prelude.{All}
use Rattle.telex.specs.Text.{IsTelex, longest_line}
use Rattle.telex.proofs.WrittenLaws.{IsTelex-written}
use Rattle.ldm_cpm.specs.Messages.{LoadMessage, HoldMessage, ldm_lines, cpm_lines, ldm_text, cpm_text, IsSpelledLdm, IsSpelledCpm}
use Rattle.ldm_cpm.proofs.LineFaults.{text_of-ended}
use Rattle.ldm_cpm.proofs.PlainLines.{each-ldm, each-place, each-cpm, printable-ldm, printable-cpm}
use Rattle.ldm_cpm.proofs.ShortLines.{short-crew, short-heading, short-board, short-place}

abbrev IsShort : List ℕ → Type 0
IsShort line = length line ≤ longest_line

pub telex-ldm : (m : LoadMessage) → IsSpelledLdm m → IsTelex (ldm_text m)
telex-ldm m s =
    let short : All IsShort (ldm_lines m) = each-ldm IsShort m (omega arith) (short-crew m.heading m.cockpit m.cabin s.heading s.cockpit s.cabin) (short-board m.board s.board) in
    subst IsTelex (sym (text_of-ended (ldm_lines m))) (IsTelex-written (ldm_lines m) (omega arith) (printable-ldm m s) short)

pub telex-cpm : (m : HoldMessage) → IsSpelledCpm m → IsTelex (cpm_text m)
telex-cpm m s =
    let short : All IsShort (cpm_lines m) = each-cpm IsShort m (omega arith) (short-heading m.heading s.heading) (each-place IsShort m.places short-place s.places.spelled) in
    subst IsTelex (sym (text_of-ended (cpm_lines m))) (IsTelex-written (cpm_lines m) (omega arith) (printable-cpm m s) short)
