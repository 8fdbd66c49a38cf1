-- the kinds of lines of a certificate: each is read in one way only, and they differ from one another
use Rattle.std.proofs.Common.{◌≡◌, ◌≢◌, ℕ, ◌≤◌, eqb, false, ◌++◌, ◌∷◌, List, get_or, refl, sym, ◌∙◌, ap, arith, codes}
use Rattle.std.specs.List.{list_any}
use Rattle.hold_parts.specs.declared.parts.Position.{Position}
use Rattle.text_lines.specs.Cuts.{Avoids}
use Rattle.text_lines.specs.WordRuns.{run_text, name_text}
use Rattle.text_lines.proofs.FieldLemmas.{numbers, last_field, name_run, behind_word, of_spelled, written_as}
use Rattle.text_lines.proofs.Rests.{IsLineKind, HasOther, other_first}
use Rattle.text_lines.proofs.WordLemmas.{plain_word}
use Rattle.certificate.specs.CertificateText.{path_line, claim_line, cut_line, expanded_line, IsSpelledPath, IsSpelledClaim}
use Rattle.certificate.specs.declared.parts.Claim.{Claim}
use Rattle.certificate.specs.declared.parts.Claim.TheVariants.{Best, NoneFits}
use Rattle.certificate.proofs.PathLemmas.{AreNames, path_line-is}

-- a line of a word and names
pub paths : (word : List ℕ) (ps : List Position) → AreNames ps → list_any (λ b. eqb b 10) word ≡ false → IsLineKind (path_line word ps) (IsSpelledPath ps)
paths word ps names plain = of_spelled (written_as (behind_word word plain (name_run ps names)) (path_line-is word ps)) (λ path s. s.named)

-- a line of names and another line differ in their first byte
pub first_differs : (word line : List ℕ) (ps : List Position) (path : List ℕ) → get_or (word ++ run_text (name_text ps) path) 0 0 ≢ get_or line 0 0 → path_line word ps path ≢ line
first_differs word line ps path other e = other (ap (λ t. get_or t 0 0) (sym (path_line-is word ps path) ∙ e))

pub best_is_path : (ps : List Position) (path : List ℕ) → path_line (codes "best") ps path ≢ codes "none"
best_is_path ps path = first_differs (codes "best") (codes "none") ps path (λ e. absurd (omega (arith, e)))

pub claims : (ps : List Position) → AreNames ps → IsLineKind (claim_line ps) (IsSpelledClaim ps)
claims ps names = record { once = once; avoids = avoids }
  where
    best : IsLineKind (path_line (codes "best") ps) (IsSpelledPath ps)
    best = paths (codes "best") ps names refl

    once : (a b : Claim) → IsSpelledClaim ps a → IsSpelledClaim ps b → claim_line ps a ≡ claim_line ps b → a ≡ b
    once (Best a) (Best b) s t e = let same = best.once a.items b.items s t e in λ i. Best (record { items = same i })
    once (Best a) NoneFits s t e = absurd (best_is_path ps a.items e)
    once NoneFits (Best b) s t e = absurd (best_is_path ps b.items (sym e))
    once NoneFits NoneFits s t e = refl

    avoids : (claim : Claim) → IsSpelledClaim ps claim → Avoids 10 (claim_line ps claim)
    avoids (Best path) s = best.avoids path.items s
    avoids NoneFits s = plain_word 10 (codes "none") refl

pub cuts : (ps : List Position) → AreNames ps → IsLineKind (cut_line ps) (IsSpelledPath ps)
cuts ps names = paths (codes "cut") ps names refl

-- the number of prefixes that are looked at, as its reader has it
abbrev pub IsExpanded : ℕ → Type 0
IsExpanded n = (0 ≤ n) × (n ≤ 50000)

pub expanded : IsLineKind expanded_line IsExpanded
expanded = of_spelled (behind_word (codes "expanded ") refl (last_field numbers)) (λ n s. tt)

-- no cut is on such a line
pub cuts_end : (ps : List Position) (n : ℕ) (lines : List (List ℕ)) → HasOther (cut_line ps) (IsSpelledPath ps) (expanded_line n ∷ lines)
cuts_end ps n lines = other_first (expanded_line n) lines (λ cut s e. first_differs (codes "cut") (expanded_line n) ps cut (λ f. absurd (omega (arith, f))) (sym e))
