-- texts that grow by one entry after another
use Rattle.std.proofs.Common.{◌≡◌, ◌≢◌, ℕ, ◌<◌, ◌≤◌, List, [], ◌∷◌, ◌++◌, length, map, IfSome, refl, ap, sym, ◌∙◌}
use Rattle.std.proofs.lemmas.List.{append_assoc}
use Rattle.std.proofs.lemmas.List.Elements.{All-weaker, All-head, All-tail, All-nil, All-cons}
use Rattle.std.specs.Prelude.{All, AllPairs, codes}
use Rattle.arrayvec.specs.ArrayVec.{ArrayVec}
use Rattle.hold_parts.specs.declared.parts.Position.{Position}
use Rattle.text_lines.specs.Lines.{text_of}
use Rattle.text_lines.specs.Names.{IsNamed}
use Rattle.text_lines.proofs.SectionLemmas.{text_of-append}
pub use Rattle.text_lines.proofs.NameRuns.{first_named}
use Rattle.certificate.specs.Evidence.{claimed, paths_of}
use Rattle.certificate.specs.Starts.{IsEarlier}
use Rattle.certificate.specs.CertificateText.{start_line, claim_line, cut_line, expanded_line, certificate_text, IsSpelledPath, IsSpelledClaim, IsSpelledNumber, AreFewCuts, Spells}
use Rattle.certificate.specs.declared.parts.Claim.{Claim}
use Rattle.certificate.specs.declared.parts.Claim.TheVariants.{Best, NoneFits}
use Rattle.certificate.specs.declared.parts.Certificate.{Certificate}

-- texts that grew piece by piece
pub regroup : (old a b : List ℕ) (n m : List ℕ) → n ≡ old ++ a → m ≡ n ++ b → m ≡ old ++ (a ++ b)
regroup old a b n m first second = second ∙ ap (λ t. t ++ b) first ∙ append_assoc old a b

-- ---- the lines of cuts

pub lines_of_paths : (line : List ℕ → List ℕ) (paths : List (ArrayVec ℕ)) → map (λ (path : ArrayVec ℕ). line path.items) paths ≡ map line (paths_of paths)
lines_of_paths line [] = refl
lines_of_paths line (path ∷ paths) = ap (λ xs. line path.items ∷ xs) (lines_of_paths line paths)

-- ---- the whole text

-- a text with some lines more
with_lines : (start : List ℕ) (a b : List (List ℕ)) (old new : List ℕ) → old ≡ start ++ text_of a → new ≡ old ++ text_of b → new ≡ start ++ text_of (a ++ b)
with_lines start a b old new had is =
    is ∙ ap (λ t. t ++ text_of b) had ∙ append_assoc start (text_of a) (text_of b) ∙ ap (λ t. start ++ t) (sym (text_of-append a b))

pub text_built : (ps : List Position) (c : Certificate) (start n1 n2 n3 n4 n5 : List ℕ) → n1 ≡ start ++ text_of (start_line ∷ []) → n2 ≡ n1 ++ (claim_line ps c.claim ++ 10 ∷ []) → n3 ≡ n2 ++ text_of (map (cut_line ps) c.cuts) → n4 ≡ n3 ++ (expanded_line c.expanded ++ 10 ∷ []) → n5 ≡ n4 ++ text_of (codes "END" ∷ []) → n5 ≡ start ++ certificate_text ps c
text_built ps c start n1 n2 n3 n4 n5 e1 e2 e3 e4 e5 =
    let first = start_line ∷ claim_line ps c.claim ∷ [] in
    let cuts = map (cut_line ps) c.cuts in
    let last = expanded_line c.expanded ∷ [] in
    let end = codes "END" ∷ [] in
    let t2 = with_lines start (start_line ∷ []) (claim_line ps c.claim ∷ []) n1 n2 e1 e2 in
    let t3 = with_lines start first cuts n2 n3 t2 e3 in
    let t4 = with_lines start (first ++ cuts) last n3 n4 t3 e4 in
    let t5 = with_lines start ((first ++ cuts) ++ last) end n4 n5 t4 e5 in
    t5 ∙ ap (λ lines. start ++ text_of lines) (append_assoc (first ++ cuts) last end ∙ append_assoc first cuts (last ++ end))

-- ---- a written certificate is spelled

abbrev AreKnown : List Position → List ℕ → Type 0
AreKnown ps path = All (λ q. q < length ps) path

path_spelled : (ps : List Position) → AllPairs (λ (a b : Position). a.name ≢ b.name) ps → (path : List ℕ) → AreKnown ps path → length path ≤ 60 → IsSpelledPath ps path
path_spelled ps differ path known few = record { few = few; named = All-weaker (λ q. q < length ps) (IsNamed ps) (first_named ps differ) path known }

claim_spelled : (ps : List Position) → AllPairs (λ (a b : Position). a.name ≢ b.name) ps → (claim : Claim) → IfSome (claimed claim) (AreKnown ps) → IfSome (claimed claim) (λ path. length path ≤ 60) → IsSpelledClaim ps claim
claim_spelled ps differ (Best path) known few = path_spelled ps differ path.items known few
claim_spelled ps differ NoneFits known few = tt

cuts_spelled : (ps : List Position) → AllPairs (λ (a b : Position). a.name ≢ b.name) ps → (cuts : List (List ℕ)) → All (AreKnown ps) cuts → All (λ cut. length cut ≤ 60) cuts → All (IsSpelledPath ps) cuts
cuts_spelled ps differ [] known few = All-nil (IsSpelledPath ps)
cuts_spelled ps differ (cut ∷ cuts) known few =
    All-cons (IsSpelledPath ps) cut cuts (path_spelled ps differ cut (All-head (AreKnown ps) cut cuts known) (All-head (λ cut. length cut ≤ 60) cut cuts few))
    (cuts_spelled ps differ cuts (All-tail (AreKnown ps) cut cuts known) (All-tail (λ cut. length cut ≤ 60) cut cuts few))

pub written_spells : (ps : List Position) → AllPairs (λ (a b : Position). a.name ≢ b.name) ps → (c : Certificate) → IfSome (claimed c.claim) (AreKnown ps) → All (AreKnown ps) c.cuts → IfSome (claimed c.claim) (λ path. length path ≤ 60) → All (λ cut. length cut ≤ 60) c.cuts → IsSpelledNumber c.expanded → AreFewCuts c.cuts → (text : List ℕ) → text ≡ certificate_text ps c → (before : List (List ℕ)) → All (IsEarlier start_line) before → Spells ps (text_of before ++ text) c
written_spells ps differ c claim cuts short shorts number few text e before earlier = record {
  before = before;
  starts = record { earlier = earlier; is = ap (λ t. text_of before ++ t) e };
  spelled = record { claim = claim_spelled ps differ c.claim claim short; cuts = cuts_spelled ps differ c.cuts cuts shorts; few = few; expanded = number };
}
