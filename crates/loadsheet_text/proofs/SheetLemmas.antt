-- Lines of a loadsheet, written piece by piece and one after another.
use Rattle.std.proofs.Common.{◌≡◌, ℕ, ℤ, FitsSigned, w16, w64, to_z, of_z, List, ◌++◌, ◌∙◌, ap, arith}
use Rattle.std.specs.Int.{w128}
use Rattle.std.proofs.lemmas.Int.{to_z-of_z, fits_signed_from_abs}
use Rattle.std.proofs.lemmas.List.{append_assoc}
use Rattle.mass_units.specs.Spelling.{signed_text}
use Rattle.mass_units.proofs.SpellingLemmas.{unsigned_abs-fits}
use Rattle.loadsheet_text.specs.SheetText.{percent_text}
use Rattle.text_lines.specs.Lines.{text_of}
use Rattle.text_lines.proofs.SectionLemmas.{text_of-append}

-- Numbers ------------------------------------------------------------------------------------------

-- a number of 16 bits, written as one of 64 bits
pub signed_added : (z m : ℤ) (old new : List ℕ) → FitsSigned w16 z → m ≡ to_z w16 (of_z w16 z) → new ≡ old ++ signed_text (to_z w64 (of_z w64 m)) → new ≡ old ++ signed_text z
signed_added z m old new fits is added =
    let small = unsigned_abs-fits w16 z fits in
    let same = ap (λ (y : ℤ). to_z w64 (of_z w64 y)) (is ∙ to_z-of_z w16 z fits) ∙ to_z-of_z w64 z (fits_signed_from_abs w64 z (omega (arith, small))) in
    added ∙ ap (λ y. old ++ signed_text y) same

pub percent_added : (z : ℤ) (old new : List ℕ) → FitsSigned w128 z → new ≡ old ++ percent_text (to_z w128 (of_z w128 z)) → new ≡ old ++ percent_text z
percent_added z old new fits added = added ∙ ap (λ y. old ++ percent_text y) (to_z-of_z w128 z fits)

-- Pieces of a line, and its end ---------------------------------------------------------------------

-- a text with a part of a line, and then with a piece more
piece_added : (old done piece before after : List ℕ) → before ≡ old ++ done → after ≡ before ++ piece → after ≡ old ++ (done ++ piece)
piece_added old done piece before after had is = is ∙ ap (λ t. t ++ piece) had ∙ append_assoc old done piece

-- pieces are the same line whichever are put together first
together_4 : (a b c d : List ℕ) → ((a ++ b) ++ c) ++ d ≡ a ++ (b ++ (c ++ d))
together_4 a b c d = append_assoc (a ++ b) c d ∙ append_assoc a b (c ++ d)

together_6 : (a b c d e f : List ℕ) → ((((a ++ b) ++ c) ++ d) ++ e) ++ f ≡ a ++ (b ++ (c ++ (d ++ (e ++ f))))
together_6 a b c d e f = append_assoc (((a ++ b) ++ c) ++ d) e f ∙ append_assoc ((a ++ b) ++ c) d (e ++ f) ∙ together_4 a b c (d ++ (e ++ f))

pub together_8 : (a b c d e f g h : List ℕ) → ((((((a ++ b) ++ c) ++ d) ++ e) ++ f) ++ g) ++ h ≡ a ++ (b ++ (c ++ (d ++ (e ++ (f ++ (g ++ h))))))
together_8 a b c d e f g h =
    append_assoc (((((a ++ b) ++ c) ++ d) ++ e) ++ f) g h ∙ append_assoc ((((a ++ b) ++ c) ++ d) ++ e) f (g ++ h) ∙ together_6 a b c d e (f ++ (g ++ h))

pub line_of_6 : (old a b c d e f end n1 n2 n3 n4 n5 n6 n7 : List ℕ) → n1 ≡ old ++ a → n2 ≡ n1 ++ b → n3 ≡ n2 ++ c → n4 ≡ n3 ++ d → n5 ≡ n4 ++ e → n6 ≡ n5 ++ f → n7 ≡ n6 ++ end
    → n7 ≡ old ++ ((a ++ (b ++ (c ++ (d ++ (e ++ f))))) ++ end)
line_of_6 old a b c d e f end n1 n2 n3 n4 n5 n6 n7 e1 e2 e3 e4 e5 e6 e7 =
    let d2 = piece_added old a b n1 n2 e1 e2 in
    let d3 = piece_added old (a ++ b) c n2 n3 d2 e3 in
    let d4 = piece_added old ((a ++ b) ++ c) d n3 n4 d3 e4 in
    let d5 = piece_added old (((a ++ b) ++ c) ++ d) e n4 n5 d4 e5 in
    let d6 = piece_added old ((((a ++ b) ++ c) ++ d) ++ e) f n5 n6 d5 e6 in
    piece_added old (a ++ (b ++ (c ++ (d ++ (e ++ f))))) end n6 n7 (d6 ∙ ap (λ t. old ++ t) (together_6 a b c d e f)) e7

pub line_of_8 : (old a b c d e f g h end n1 n2 n3 n4 n5 n6 n7 n8 n9 : List ℕ) → n1 ≡ old ++ a → n2 ≡ n1 ++ b → n3 ≡ n2 ++ c → n4 ≡ n3 ++ d → n5 ≡ n4 ++ e → n6 ≡ n5 ++ f → n7 ≡ n6 ++ g → n8 ≡ n7 ++ h → n9 ≡ n8 ++ end
    → n9 ≡ old ++ ((a ++ (b ++ (c ++ (d ++ (e ++ (f ++ (g ++ h))))))) ++ end)
line_of_8 old a b c d e f g h end n1 n2 n3 n4 n5 n6 n7 n8 n9 e1 e2 e3 e4 e5 e6 e7 e8 e9 =
    let d2 = piece_added old a b n1 n2 e1 e2 in
    let d3 = piece_added old (a ++ b) c n2 n3 d2 e3 in
    let d4 = piece_added old ((a ++ b) ++ c) d n3 n4 d3 e4 in
    let d5 = piece_added old (((a ++ b) ++ c) ++ d) e n4 n5 d4 e5 in
    let d6 = piece_added old ((((a ++ b) ++ c) ++ d) ++ e) f n5 n6 d5 e6 in
    let d7 = piece_added old (((((a ++ b) ++ c) ++ d) ++ e) ++ f) g n6 n7 d6 e7 in
    let d8 = piece_added old ((((((a ++ b) ++ c) ++ d) ++ e) ++ f) ++ g) h n7 n8 d7 e8 in
    piece_added old (a ++ (b ++ (c ++ (d ++ (e ++ (f ++ (g ++ h))))))) end n8 n9 (d8 ∙ ap (λ t. old ++ t) (together_8 a b c d e f g h)) e9

-- Lines after lines --------------------------------------------------------------------------------

pub lines_of_3 : (old : List ℕ) (a b c : List (List ℕ)) (n1 n2 n3 : List ℕ) → n1 ≡ old ++ text_of a → n2 ≡ n1 ++ text_of b → n3 ≡ n2 ++ text_of c → n3 ≡ old ++ text_of (a ++ (b ++ c))
lines_of_3 old a b c n1 n2 n3 e1 e2 e3 = e3 ∙ rw (e2, e1) (simp (text_of-append, append_assoc))

pub lines_of_4 : (old : List ℕ) (a b c d : List (List ℕ)) (n1 n2 n3 n4 : List ℕ) → n1 ≡ old ++ text_of a → n2 ≡ n1 ++ text_of b → n3 ≡ n2 ++ text_of c → n4 ≡ n3 ++ text_of d
    → n4 ≡ old ++ text_of (a ++ (b ++ (c ++ d)))
lines_of_4 old a b c d n1 n2 n3 n4 e1 e2 e3 e4 = e4 ∙ rw (e3, e2, e1) (simp (text_of-append, append_assoc))

pub lines_of_6 : (old : List ℕ) (a b c d e f : List (List ℕ)) (n1 n2 n3 n4 n5 n6 : List ℕ) → n1 ≡ old ++ text_of a → n2 ≡ n1 ++ text_of b → n3 ≡ n2 ++ text_of c → n4 ≡ n3 ++ text_of d → n5 ≡ n4 ++ text_of e → n6 ≡ n5 ++ text_of f
    → n6 ≡ old ++ text_of (a ++ (b ++ (c ++ (d ++ (e ++ f)))))
lines_of_6 old a b c d e f n1 n2 n3 n4 n5 n6 e1 e2 e3 e4 e5 e6 = e6 ∙ rw (e5, e4, e3, e2, e1) (simp (text_of-append, append_assoc))
