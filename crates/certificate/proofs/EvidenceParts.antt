-- the lines of a certificate after its first, part by part
use Rattle.std.proofs.Common.{◌≡◌, ℕ, ◌+◌, ◌++◌, ◌∷◌, List, [], map, refl, sym, ◌∙◌, arith, codes, lit≤}
use Rattle.std.proofs.lemmas.List.Elements.{All-nil}
use Rattle.hold_parts.specs.declared.parts.Position.{Position}
use Rattle.text_lines.specs.declared.lines.Lines.{Lines as Point}
use Rattle.text_lines.proofs.WordLemmas.{plain_word}
use Rattle.text_lines.proofs.PartSteps.{front_few, PartBetween}
use Rattle.text_lines.proofs.Rests.{Rest, behind, Leads, then, StartsWithOne, past_said}
use Rattle.text_lines.proofs.RunsOfLines.{StartsWithRun, past_run, IsLast}
use Rattle.text_lines.proofs.OneReading.{IsReadOnce, one_then, run_then, last_then}
use Rattle.certificate.specs.CertificateText.{claim_line, cut_line, expanded_line, evidence_lines, IsSpelledPath, IsSpelledClaim, IsSpelledNumber, AreFewCuts, IsSpelled}
use Rattle.certificate.specs.declared.parts.Claim.{Claim}
use Rattle.certificate.specs.declared.parts.Claim.TheVariants.{NoneFits}
use Rattle.certificate.specs.declared.parts.Certificate.{Certificate}
use Rattle.certificate.proofs.PathLemmas.{AreNames}
use Rattle.certificate.proofs.LineLemmas as kind
use Rattle.certificate.proofs.LineLemmas.{IsExpanded, cuts_end}

-- What is still to come ---------------------------------------------------------------------------

abbrev last_lines : Certificate → List (List ℕ)
last_lines c = expanded_line c.expanded ∷ codes "END" ∷ []

abbrev pub evidence : List Position → Rest Certificate
evidence ps = record { Is = IsSpelled ps; lines = evidence_lines ps }

abbrev pub from_cuts : List Position → Claim → Rest Certificate
from_cuts ps claim = behind (evidence ps) (λ c. c.claim) claim (λ c. map (cut_line ps) c.cuts ++ last_lines c)

abbrev pub from_expanded : List Position → Claim → List (List ℕ) → Rest Certificate
from_expanded ps claim cuts = behind (from_cuts ps claim) (λ c. c.cuts) cuts last_lines

abbrev pub from_end : List Position → Claim → List (List ℕ) → ℕ → Rest Certificate
from_end ps claim cuts n = behind (from_expanded ps claim cuts) (λ c. c.expanded) n (λ c. codes "END" ∷ [])

-- The parts ---------------------------------------------------------------------------------------

module _ (ps : List Position) (names : AreNames ps) where
  pub starts_with_claim : StartsWithOne (evidence ps) (claim_line ps) (IsSpelledClaim ps) (λ c. c.claim) (λ c. map (cut_line ps) c.cuts ++ last_lines c)
  starts_with_claim = record { kind = kind.claims ps names; right = λ c s. s.claim; are = λ c s. refl }

  pub starts_with_cuts : (claim : Claim) → StartsWithRun (from_cuts ps claim) (cut_line ps) (IsSpelledPath ps) AreFewCuts (λ c. c.cuts) last_lines
  starts_with_cuts claim = record {
    kind = kind.cuts ps names;
    front = front_few 3200000;
    right = λ c s. s.0.cuts;
    allowed = λ c s. s.0.few;
    are = λ c s. refl;
    other = λ c s. cuts_end ps c.expanded (codes "END" ∷ []);
  }

  pub starts_with_expanded : (claim : Claim) (cuts : List (List ℕ)) → StartsWithOne (from_expanded ps claim cuts) expanded_line IsExpanded (λ c. c.expanded) (λ c. codes "END" ∷ [])
  starts_with_expanded claim cuts = record { kind = kind.expanded; right = λ c s. (omega arith, s.0.0.expanded); are = λ c s. refl }

  pub ends : (claim : Claim) (cuts : List (List ℕ)) (n : ℕ) → IsLast (from_end ps claim cuts n) (codes "END")
  ends claim cuts n = record {
    plain = plain_word 10 (codes "END") refl;
    known = λ c d s t i. record { claim = (s.0.0.1 ∙ sym t.0.0.1) i; cuts = (s.0.1 ∙ sym t.0.1) i; expanded = (s.1 ∙ sym t.1) i };
    are = λ c s. refl;
  }

  pub is_read_once : IsReadOnce (evidence ps)
  is_read_once = one_then starts_with_claim (λ claim. run_then (starts_with_cuts claim) (λ cuts. one_then (starts_with_expanded claim cuts) (λ n. last_then (ends claim cuts n))))

  -- Past the lines ----------------------------------------------------------------------------------

  pub to_expanded : (l0 l1 l2 : Point) (claim : Claim) {cuts : List (List ℕ)} → IsSpelledClaim ps claim × (l0.rest.now ≡ claim_line ps claim ++ 10 ∷ l1.rest.now) → l1.number ≡ l0.number + 1
      → PartBetween (cut_line ps) (IsSpelledPath ps) AreFewCuts l1 l2 cuts → Leads (evidence ps) l0 (from_expanded ps claim cuts) l2
  to_expanded l0 l1 l2 claim read counted are = then (past_said starts_with_claim l0 l1 claim read counted) (past_run (starts_with_cuts claim) l1 l2 are)

-- What was read -----------------------------------------------------------------------------------

abbrev pub certificate_of : Claim → List (List ℕ) → ℕ → Certificate
certificate_of claim cuts n = record { claim = claim; cuts = cuts; expanded = n }

pub is_spelled : (ps : List Position) (l1 l2 : Point) {claim : Claim} {cuts : List (List ℕ)} (n : ℕ) → IsSpelledClaim ps claim
    → PartBetween (cut_line ps) (IsSpelledPath ps) AreFewCuts l1 l2 cuts → IsSpelledNumber n → IsSpelled ps (certificate_of claim cuts n)
is_spelled ps l1 l2 n claim cuts right = record { claim = claim; cuts = cuts.right; few = cuts.allowed; expanded = right }

pub empty : Certificate
empty = certificate_of NoneFits [] 0

pub empty_is : (ps : List Position) → IsSpelled ps empty
unfolding empty
empty_is ps = record { claim = tt; cuts = All-nil (IsSpelledPath ps); few = lit≤ tt; expanded = lit≤ tt }
