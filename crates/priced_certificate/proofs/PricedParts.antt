-- the lines of a certificate after its first, part by part
use Rattle.std.proofs.Common.{◌≡◌, ℕ, ◌+◌, ◌≤◌, ◌++◌, ◌∷◌, List, [], refl, sym, ◌∙◌, ap, arith, codes, lit≤}
use Rattle.std.proofs.lemmas.List.{append_assoc}
use Rattle.std.proofs.lemmas.List.Elements.{All-nil, All-cons, All-append}
use Rattle.hold_parts.specs.declared.parts.Position.{Position}
use Rattle.text_lines.specs.Cuts.{Avoids}
use Rattle.text_lines.specs.Lines.{text_of, IsStopped}
use Rattle.text_lines.specs.Grammar.{Fails}
use Rattle.text_lines.specs.declared.fault.LineFault.{LineFault}
use Rattle.text_lines.proofs.GrammarLemmas.{IsStep, fails_earlier}
use Rattle.text_lines.proofs.OneReading.{IsReadOnce}
use Rattle.text_lines.proofs.Rests.{Rest}
use Rattle.text_lines.proofs.SectionLemmas.{text_of-append}
use Rattle.text_lines.proofs.TextCuts.{AreLines}
use Rattle.text_lines.proofs.WordLemmas.{plain_word}
use Rattle.certificate.specs.CertificateText.{claim_line, expanded_line, IsSpelledClaim}
use Rattle.certificate.specs.Reading.{IsClaimLine}
use Rattle.certificate.specs.declared.fault.CertFault.{CertFault}
use Rattle.certificate.specs.declared.fault.CertFault.TheVariants.{NoMemory}
use Rattle.certificate.specs.declared.parts.Claim.{Claim}
use Rattle.certificate.specs.declared.parts.Claim.TheVariants.{NoneFits}
use Rattle.certificate.proofs.AfterStart.{states_once, stated_has_no_fault}
use Rattle.certificate.proofs.LineLemmas.{claims, expanded}
use Rattle.certificate.proofs.PathLemmas.{AreNames}
use Rattle.priced_certificate.specs.declared.parts.PricedCut.{PricedCut}
use Rattle.priced_certificate.specs.declared.parts.PricedCertificate.{PricedCertificate}
use Rattle.priced_certificate.specs.PricedText.{start_line, lines_of_cuts, last_lines, priced_lines, IsSpelledCut, IsSpelled, Spells}
use Rattle.priced_certificate.specs.Refusals.{ArePricedLines, IsRefused}
use Rattle.priced_certificate.specs.Reading.{AreFromCut, AreCutsBetween}
use Rattle.priced_certificate.proofs.CutLines.{Lines, cuts_once, cuts_clear}
use Rattle.priced_certificate.proofs.FailSteps.{stopped_behind}

abbrev pub certificate_of : Claim → List PricedCut → ℕ → PricedCertificate
certificate_of claim cuts n = record { claim = claim; cuts = cuts; expanded = n }

pub empty : PricedCertificate
empty = certificate_of NoneFits [] 0

pub empty_is : (ps : List Position) → IsSpelled ps empty
unfolding empty
empty_is ps = record { claim = tt; cuts = All-nil (IsSpelledCut ps); few = lit≤ tt; expanded = lit≤ tt }

-- One thing stated, or one fault ----------------------------------------------------------------

abbrev pub priced : List Position → Rest PricedCertificate
priced ps = record { Is = IsSpelled ps; lines = priced_lines ps }

pub start_plain : Avoids 10 start_line
start_plain = plain_word 10 start_line refl

module _ (ps : List Position) (names : AreNames ps) where
  once : (v w : PricedCertificate) (more : Lines) → IsSpelled ps v → IsSpelled ps w → priced_lines ps v ++ more ≡ priced_lines ps w → (v ≡ w) × (more ≡ [])
  once v w more p q e =
      let head : claim_line ps v.claim ≡ claim_line ps w.claim = cc in
      let tails : (lines_of_cuts ps v.cuts ++ last_lines v.expanded) ++ more ≡ lines_of_cuts ps w.cuts ++ last_lines w.expanded = cc in
      let claim = (claims ps names).once v.claim w.claim p.claim q.claim head in
      let cuts = cuts_once ps names v.cuts w.cuts v.expanded w.expanded (codes "END" ∷ more) p.cuts q.cuts (sym (append_assoc (lines_of_cuts ps v.cuts) (last_lines v.expanded) more) ∙ tails) in
      let last = cuts.1 in
      let line : expanded_line v.expanded ≡ expanded_line w.expanded = cc in
      let none : more ≡ [] = cc in
      let number = expanded.once v.expanded w.expanded (omega arith, p.expanded) (omega arith, q.expanded) line in
      (λ i. certificate_of (claim i) (cuts.0 i) (number i), none)

  clear : (v : PricedCertificate) → IsSpelled ps v → AreLines (priced_lines ps v)
  clear v s =
      let last : AreLines (last_lines v.expanded) =
      All-cons (Avoids 10) (expanded_line v.expanded) (codes "END" ∷ []) (expanded.avoids v.expanded (omega arith, s.expanded))
      (All-cons (Avoids 10) (codes "END") [] (plain_word 10 (codes "END") refl) (All-nil (Avoids 10))) in
      All-cons (Avoids 10) (claim_line ps v.claim) (lines_of_cuts ps v.cuts ++ last_lines v.expanded) ((claims ps names).avoids v.claim s.claim)
      (All-append (Avoids 10) (lines_of_cuts ps v.cuts) (last_lines v.expanded) (cuts_clear ps names v.cuts s.cuts) last)

  pub is_read_once : IsReadOnce (priced ps)
  is_read_once = record { once = once; clear = clear }

  pub spelled_once : (text : List ℕ) (a b : PricedCertificate) → Spells ps text a → Spells ps text b → a ≡ b
  spelled_once = states_once start_line start_plain (priced ps) is_read_once

  pub spelled_has_no_fault : (text : List ℕ) (c : PricedCertificate) (fault : CertFault) → Spells ps text c → IsRefused ps text fault → fault ≡ NoMemory
  spelled_has_no_fault = stated_has_no_fault start_line start_plain (priced ps) is_read_once

-- The claim -------------------------------------------------------------------------------------

pub fails_at_claim : (ps : List Position) (text : List ℕ) (number : ℕ) (fault : LineFault) → IsStopped text number (IsClaimLine ps) fault → Fails (ArePricedLines ps) text number fault
fails_at_claim ps text number fault stopped =
    stopped_behind [] text text number number fault (record { more = priced_lines ps empty; kind = record { said = empty; spelled = empty_is ps; are = refl } })
    (λ a. let are = a.are in absurd (cc))
    (λ line after is clear b.
    let are = b.kind.are in
    let same : line ≡ claim_line ps b.kind.said.claim = cc in
    (b.kind.said.claim, b.kind.spelled.claim, same))
    refl (omega arith) stopped

claim_step : (ps : List Position) (claim : Claim) (rest : List ℕ) → IsSpelledClaim ps claim → IsStep (ArePricedLines ps) (AreFromCut ps 32000) (claim_line ps claim ∷ []) rest
claim_step ps claim rest right = record {
  forth = λ more a. record {
    said = certificate_of claim a.cuts a.expanded;
    spelled = record { claim = right; cuts = a.right; few = a.few; expanded = a.number };
    are = ap (λ (lines : Lines). claim_line ps claim ∷ lines) a.are;
  };
  back = λ more first s.
      let are = s.are in
      let tails : more ≡ lines_of_cuts ps s.said.cuts ++ last_lines s.said.expanded = cc in
      record { cuts = s.said.cuts; expanded = s.said.expanded; few = s.spelled.few; right = s.spelled.cuts; number = s.spelled.expanded; are = tails };
}

pub fails_behind_claim : (ps : List Position) (claim : Claim) (text rest : List ℕ) (number next : ℕ) (fault : LineFault) → IsSpelledClaim ps claim × (text ≡ claim_line ps claim ++ 10 ∷ rest) → next ≡ number + 1
    → Fails (AreFromCut ps 32000) rest next fault → Fails (ArePricedLines ps) text number fault
fails_behind_claim ps claim text rest number next fault read counted fails =
    fails_earlier (ArePricedLines ps) (AreFromCut ps 32000) (claim_line ps claim ∷ []) text rest number next fault (claim_step ps claim rest read.0)
    (read.1 ∙ sym (append_assoc (claim_line ps claim) (10 ∷ []) rest)) (omega (arith, counted)) fails

-- What was read ---------------------------------------------------------------------------------

pub all_read : (ps : List Position) (claim : Claim) (cuts : List PricedCut) (n : ℕ) (text one two three : List ℕ) (number next : ℕ) → IsSpelledClaim ps claim × (text ≡ claim_line ps claim ++ 10 ∷ one) → AreCutsBetween ps one two number next cuts
    → n ≤ 50000 → two ≡ expanded_line n ++ 10 ∷ three → three ≡ codes "END" ++ 10 ∷ []
    → IsSpelled ps (certificate_of claim cuts n) × (text ≡ text_of (priced_lines ps (certificate_of claim cuts n)))
all_read ps claim cuts n text one two three number next read are small e e' = (
  record { claim = read.0; cuts = are.right; few = are.few; expanded = small },
  read.1 ∙ ap (λ t. claim_line ps claim ++ 10 ∷ t)
      (are.read ∙ ap (λ t. text_of (lines_of_cuts ps cuts) ++ t) (e ∙ ap (λ t. expanded_line n ++ 10 ∷ t) e') ∙ sym (text_of-append (lines_of_cuts ps cuts) (last_lines n))),
)
