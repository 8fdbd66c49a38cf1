-- Lines of a message and texts; the first line that fails.
use Rattle.std.proofs.Common.{◌≡◌, ℕ, ◌+◌, List, [], ◌∷◌, ◌++◌, length, false, refl, sym, ap, subst, ◌∙◌, append_assoc}
use Rattle.std.specs.List.{flat_map}
use Rattle.std.specs.Prelude.{All}
use Rattle.std.proofs.lemmas.List.{append-nil}
use Rattle.telex.specs.Lines.{PlacedLine, placed_from, lines_of, AreLinesOf}
use Rattle.telex.specs.Text.{is_line_feed, line_feed}
use Rattle.telex.proofs.WrittenLaws.{ended, lines_of-written}
use Rattle.text_lines.specs.Grammar.{Begins}
use Rattle.text_lines.specs.Lines.{text_of}
use Rattle.ldm_cpm.specs.Reading.{FailsAt, texts}
use Rattle.ldm_cpm.specs.Reading.FailsAt.{wrong_line, missing_line}

-- no byte ends a line
abbrev pub IsWhole : List ℕ → Type 0
IsWhole line = All (λ b. is_line_feed b ≡ false) line

pub text_of-ended : (lines : List (List ℕ)) → text_of lines ≡ flat_map ended lines
text_of-ended [] = refl
text_of-ended (line ∷ lines) = ap (λ t. line ++ 10 ∷ t) (text_of-ended lines) ∙ sym (append_assoc line (10 ∷ []) (flat_map ended lines))

texts-placed : (at : ℕ) (lines : List (List ℕ)) → texts (placed_from at lines) ≡ lines
texts-placed at [] = refl
texts-placed at (line ∷ lines) = ap (λ ls. line ∷ ls) (texts-placed (at + length line + 1) lines)

-- the lines of a written text are those that were written
pub texts-written : (lines : List (List ℕ)) → All IsWhole lines → texts (lines_of (text_of lines)) ≡ lines
texts-written lines whole =
    ap (λ t. texts (lines_of t)) (text_of-ended lines) ∙ ap texts (lines_of-written lines whole) ∙ texts-placed 0 lines

ended-texts : (lines : List PlacedLine) → flat_map ended (texts lines) ≡ flat_map (λ (line : PlacedLine). line.text ++ line_feed ∷ []) lines
ended-texts [] = refl
ended-texts (line ∷ lines) = ap (λ t. (line.text ++ line_feed ∷ []) ++ t) (ended-texts lines)

-- a text is that of its lines
pub text-of_lines : (text : List ℕ) (lines : List PlacedLine) → AreLinesOf text lines → text ≡ text_of (texts lines)
text-of_lines text lines are = sym (text_of-ended (texts lines) ∙ ended-texts lines ∙ are.joined)

-- after these lines, which may begin a message and are none, the next one fails, or there is none
pub fails-next : (IsKind : List (List ℕ) → Type 0) (done all : List (List ℕ)) (rest : List PlacedLine) → all ≡ done ++ texts rest
    → Begins IsKind done → (IsKind done → ⊥) → ((line : PlacedLine) (more : List PlacedLine) → rest ≡ line ∷ more → Begins IsKind (done ++ line.text ∷ []) → ⊥)
    → FailsAt IsKind all (length done + 1)
fails-next IsKind done all [] is begins none wrong =
    let same : all ≡ done = is ∙ append-nil done in
    subst (λ ls. FailsAt IsKind ls (length done + 1)) (sym same) (missing_line begins none)
fails-next IsKind done all (line ∷ more) is begins none wrong = wrong_line done line.text (texts more) is begins (wrong line more refl)
