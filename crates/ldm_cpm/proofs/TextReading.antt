-- Reading a whole text.
use Rattle.std.proofs.Common.{◌≡◌, ℕ, List, Result, Ok, Err, sym, ap, subst, ◌∙◌}
use Rattle.std.specs.Prelude.{IfOk, IfErr}
use Rattle.telex.specs.Lines.{PlacedLine, lines_of, AreLinesOf}
use Rattle.telex.specs.Text.{IsTelex}
use Rattle.text_lines.specs.Lines.{text_of}
use Rattle.ldm_cpm.specs.Messages.{LoadMessage, HoldMessage, ldm_lines, cpm_lines, IsSpelledLdm, IsSpelledCpm, IsLdm, IsCpm}
use Rattle.ldm_cpm.specs.Reading.{ldm_said, cpm_said, texts, AreLdmLines, AreCpmLines, IsFaultOf, IsRefused}
use Rattle.ldm_cpm.specs.declared.messages.Cpm.{Cpm}
use Rattle.ldm_cpm.specs.declared.messages.Ldm.{Ldm}
use Rattle.ldm_cpm.specs.declared.fault.MsgFault.{MsgFault}
use Rattle.ldm_cpm.specs.declared.fault.MsgFault.TheVariants.{Telex, Line, NoMemory}
use Rattle.ldm_cpm.proofs.LineFaults.{text-of_lines, texts-written}
use Rattle.ldm_cpm.proofs.PlainLines.{whole-ldm, whole-cpm}
use Rattle.ldm_cpm.proofs.Telexes.{telex-ldm, telex-cpm}

-- a telex is refused for what is wrong in its lines
pub refused-text : (IsKind : List (List ℕ) → Type 0) (text : List ℕ) (fault : MsgFault) → IsTelex text → IsFaultOf IsKind (texts (lines_of text)) fault
    → IsRefused IsKind text fault
refused-text IsKind text (Telex fault) telex h = absurd h
refused-text IsKind text (Line n) telex h = (telex, h)
refused-text IsKind text NoMemory telex h = tt

pub is-ldm : (text : List ℕ) (lines : List PlacedLine) (m : LoadMessage) → AreLinesOf text lines → IsSpelledLdm m → texts lines ≡ ldm_lines m → IsLdm text m
is-ldm text lines m are spelled said = record { spelled = spelled; is = text-of_lines text lines are ∙ ap text_of said }

pub is-cpm : (text : List ℕ) (lines : List PlacedLine) (m : HoldMessage) → AreLinesOf text lines → IsSpelledCpm m → texts lines ≡ cpm_lines m → IsCpm text m
is-cpm text lines m are spelled said = record { spelled = spelled; is = text-of_lines text lines are ∙ ap text_of said }

pub lines-of_ldm : (text : List ℕ) (m : LoadMessage) → IsLdm text m → texts (lines_of text) ≡ ldm_lines m
lines-of_ldm text m is = ap (λ t. texts (lines_of t)) is.is ∙ texts-written (ldm_lines m) (whole-ldm m is.spelled)

pub lines-of_cpm : (text : List ℕ) (m : HoldMessage) → IsCpm text m → texts (lines_of text) ≡ cpm_lines m
lines-of_cpm text m is = ap (λ t. texts (lines_of t)) is.is ∙ texts-written (cpm_lines m) (whole-cpm m is.spelled)

pub ldm-is_telex : (text : List ℕ) (m : LoadMessage) → IsLdm text m → IsTelex text
ldm-is_telex text m is = subst IsTelex (sym is.is) (telex-ldm m is.spelled)

pub cpm-is_telex : (text : List ℕ) (m : HoldMessage) → IsCpm text m → IsTelex text
cpm-is_telex text m is = subst IsTelex (sym is.is) (telex-cpm m is.spelled)

pub ldm-read : (result : Result Ldm MsgFault) (text : List ℕ) (lines : List PlacedLine) → AreLinesOf text lines → IfOk result (λ m. IsSpelledLdm (ldm_said m))
    → IfOk result (λ m. texts lines ≡ ldm_lines (ldm_said m)) → IfOk result (λ m. IsLdm text (ldm_said m))
ldm-read (Ok m) text lines are spelled said = is-ldm text lines (ldm_said m) are spelled said
ldm-read (Err e) text lines are spelled said = tt

pub ldm-refused : (result : Result Ldm MsgFault) (text : List ℕ) (lines : List PlacedLine) → IsTelex text → lines ≡ lines_of text
    → IfErr result (IsFaultOf AreLdmLines (texts lines)) → IfErr result (IsRefused AreLdmLines text)
ldm-refused (Ok m) text lines telex same bad = tt
ldm-refused (Err e) text lines telex same bad =
    refused-text AreLdmLines text e telex (subst (λ ls. IsFaultOf AreLdmLines (texts ls) e) same bad)

pub cpm-read : (result : Result Cpm MsgFault) (text : List ℕ) (lines : List PlacedLine) → AreLinesOf text lines → IfOk result (λ m. IsSpelledCpm (cpm_said m))
    → IfOk result (λ m. texts lines ≡ cpm_lines (cpm_said m)) → IfOk result (λ m. IsCpm text (cpm_said m))
cpm-read (Ok m) text lines are spelled said = is-cpm text lines (cpm_said m) are spelled said
cpm-read (Err e) text lines are spelled said = tt

pub cpm-refused : (result : Result Cpm MsgFault) (text : List ℕ) (lines : List PlacedLine) → IsTelex text → lines ≡ lines_of text
    → IfErr result (IsFaultOf AreCpmLines (texts lines)) → IfErr result (IsRefused AreCpmLines text)
cpm-refused (Ok m) text lines telex same bad = tt
cpm-refused (Err e) text lines telex same bad =
    refused-text AreCpmLines text e telex (subst (λ ls. IsFaultOf AreCpmLines (texts ls) e) same bad)
