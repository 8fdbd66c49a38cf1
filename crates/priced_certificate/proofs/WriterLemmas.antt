-- texts that grow by the lines of cuts
use Rattle.std.proofs.Common.{◌≡◌, ℕ, ◌+◌, ◌<◌, List, [], ◌∷◌, ◌++◌, length, take, get_or, refl, ap, sym, ◌∙◌, subst, codes, All}
use Rattle.std.proofs.lemmas.List.{append-nil, append_assoc, take_more}
use Rattle.std.proofs.lemmas.List.Elements.{All-push}
use Rattle.hold_parts.specs.declared.parts.Position.{Position}
use Rattle.text_lines.specs.Lines.{text_of}
use Rattle.text_lines.proofs.SectionLemmas.{text_of-append}
use Rattle.certificate.specs.Starts.{IsEarlier}
use Rattle.certificate.specs.CertificateText.{claim_line, expanded_line}
use Rattle.priced_certificate.specs.declared.parts.PricedCut.{PricedCut}
use Rattle.priced_certificate.specs.declared.parts.PricedCertificate.{PricedCertificate}
use Rattle.priced_certificate.specs.PricedText.{start_line, lines_of_cut, lines_of_cuts, priced_certificate_text, IsShortCut, IsSpelled, Spells}
use Rattle.priced_certificate.proofs.CutLines.{Lines, lines_of_cuts-append}

-- the text has the lines of the first cuts, each of which is short
pub record AreWritten (ps : List Position) (start now : List ℕ) (cuts : List PricedCut) : Type 0 where
  pub written : now ≡ start ++ text_of (lines_of_cuts ps cuts)
  pub short : All IsShortCut cuts

lines_push : (ps : List Position) (xs : List PricedCut) (x : PricedCut) → text_of (lines_of_cuts ps (xs ++ x ∷ [])) ≡ text_of (lines_of_cuts ps xs) ++ text_of (lines_of_cut ps x)
lines_push ps xs x =
    ap text_of (lines_of_cuts-append ps xs (x ∷ []) ∙ ap (λ (lines : Lines). lines_of_cuts ps xs ++ lines) (append-nil (lines_of_cut ps x)))
    ∙ text_of-append (lines_of_cuts ps xs) (lines_of_cut ps x)

pub one_more_cut : (ps : List Position) (cuts : List PricedCut) (i : ℕ) (cut : PricedCut) (start old new : List ℕ) → i < length cuts → cut ≡ get_or cuts i cut → AreWritten ps start old (take i cuts) → new ≡ old ++ text_of (lines_of_cut ps cut) → IsShortCut cut
    → AreWritten ps start new (take (i + 1) cuts)
one_more_cut ps cuts i cut start old new within is was grew short =
    let done = take i cuts in
    let more : AreWritten ps start new (done ++ cut ∷ []) = record {
      written =
          grew ∙ ap (λ t. t ++ text_of (lines_of_cut ps cut)) was.written ∙ append_assoc start (text_of (lines_of_cuts ps done)) (text_of (lines_of_cut ps cut))
          ∙ ap (λ t. start ++ t) (sym (lines_push ps done cut));
      short = All-push IsShortCut done cut was.short short;
    } in
    subst (AreWritten ps start new) (ap (λ x. done ++ x ∷ []) is ∙ sym (take_more cuts i cut within)) more

-- The whole text --------------------------------------------------------------------------------

pub text_built : (ps : List Position) (c : PricedCertificate) (start n1 n2 n3 n4 n5 : List ℕ) → n1 ≡ start ++ text_of (start_line ∷ []) → n2 ≡ n1 ++ text_of (claim_line ps c.claim ∷ []) → n3 ≡ n2 ++ text_of (lines_of_cuts ps c.cuts)
    → n4 ≡ n3 ++ text_of (expanded_line c.expanded ∷ []) → n5 ≡ n4 ++ text_of (codes "END" ∷ []) → n5 ≡ start ++ priced_certificate_text ps c
text_built ps c start n1 n2 n3 n4 n5 e1 e2 e3 e4 e5 = rw (e5, e4, e3, e2, e1) (simp (append_assoc, text_of-append))

pub written_spells : (ps : List Position) (c : PricedCertificate) → IsSpelled ps c → (before : Lines) → All (IsEarlier start_line) before → Spells ps (text_of before ++ priced_certificate_text ps c) c
written_spells ps c s before earlier = record { before = before; starts = record { earlier = earlier; is = refl }; spelled = s }
