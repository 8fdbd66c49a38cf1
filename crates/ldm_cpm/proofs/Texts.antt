-- The lines of a sheet's messages, piece by piece.
use Rattle.std.proofs.Common.{◌≡◌, ℕ, ◌+◌, List, [], ◌∷◌, ◌++◌, refl, sym, ap, ◌∙◌, append_assoc}
use Rattle.std.specs.List.{flat_map}
use Rattle.std.specs.Prelude.{codes, map}
use Rattle.std.proofs.lemmas.List.{append-nil}
use Rattle.std.proofs.lemmas.List.Concat.{flat_map-append}
use Rattle.mass_units.specs.Spelling.{number_text}
use Rattle.telex.specs.Elements.{Element, slashed, line_text}
use Rattle.last_minute.specs.declared.sheet.Place.{Place}
use Rattle.text_lines.specs.Lines.{text_of}
use Rattle.ldm_cpm.specs.Messages.{Heading, OnBoard, heading_elements, crew_elements, load_elements, seat_elements, board_elements, place_elements, place_lines, total}
use Rattle.ldm_cpm.specs.Sheets.{marked, placing_of}

-- the persons on board, and their destination
abbrev pub persons_text : List ℕ → ℕ → ℕ → ℕ → List ℕ
persons_text destination adults children infants =
    codes "-" ++ destination ++ codes "." ++ number_text adults ++ codes "/" ++ number_text children ++ codes "/" ++ number_text infants

pub board-text : (b : OnBoard)
    → line_text (board_elements b) ≡ persons_text b.destination b.adults b.children b.infants ++ (codes ".T" ++ (number_text (total b.loads) ++ (marked (flat_map load_elements b.loads) ++ (codes ".PAX/" ++ number_text (b.adults + b.children)))))
board-text b =
    rw (flat_map-append (λ (e : Element). e.0 ∷ e.1) (flat_map load_elements b.loads) (seat_elements (number_text (b.adults + b.children)))) (simp (append_assoc, append-nil))

-- the line of a position of a sheet
abbrev pub place_line : List ℕ → Place → List ℕ
place_line destination p = line_text (place_elements (placing_of destination p))

pub places-text : (destination : List ℕ) (places : List Place) → map (place_line destination) places ≡ place_lines (map (placing_of destination) places)
places-text destination [] = refl
places-text destination (p ∷ places) = ap (λ ls. place_line destination p ∷ ls) (places-text destination places)

-- the texts of both messages, as they are put together
pub ldm-built : (crew board : List ℕ) → (codes "LDM\n" ++ (crew ++ 10 ∷ [])) ++ (board ++ 10 ∷ []) ≡ text_of (codes "LDM" ∷ crew ∷ board ∷ [])
ldm-built crew board = simp append_assoc

pub cpm-built : (heading places : List ℕ) → ((codes "CPM\n" ++ heading) ++ 10 ∷ []) ++ places ≡ codes "CPM" ++ 10 ∷ (heading ++ 10 ∷ places)
cpm-built heading places = simp append_assoc

joined-4 : (a b c d x : List ℕ) → (a ++ (47 ∷ (b ++ (46 ∷ (c ++ (46 ∷ (d ++ []))))))) ++ x ≡ a ++ (47 ∷ (b ++ (46 ∷ (c ++ (46 ∷ (d ++ x))))))
joined-4 a b c d x = simp (append_assoc, append-nil)

pub crew-text : (h : Heading) (cockpit cabin : ℕ)
    → line_text (crew_elements h cockpit cabin) ≡ line_text (heading_elements h) ++ (codes "." ++ (number_text cockpit ++ (codes "/" ++ number_text cabin)))
crew-text h cockpit cabin =
    ap (λ t. h.flight ++ (47 ∷ (h.day ++ (46 ∷ (h.registration ++ (46 ∷ (h.version ++ (46 ∷ (number_text cockpit ++ (47 ∷ t)))))))))) (append-nil (number_text cabin))
    ∙ sym (joined-4 h.flight h.day h.registration h.version (46 ∷ (number_text cockpit ++ (47 ∷ number_text cabin))))

-- pieces that were appended one after another
pub pieces-3 : (old a b c last n1 n2 n3 : List ℕ) → n1 ≡ old ++ a → n2 ≡ n1 ++ b → n3 ≡ n2 ++ c
    → n3 ++ last ≡ old ++ (a ++ (b ++ (c ++ last)))
pieces-3 old a b c last n1 n2 n3 e1 e2 e3 = rw (e3, e2, e1) (simp append_assoc)

-- the persons on board, piece by piece
pub persons-pieces : (old destination n1 n2 n3 n4 n5 n6 n7 : List ℕ) (adults children infants : ℕ) → n1 ≡ old ++ codes "-" → n2 ≡ n1 ++ destination → n3 ≡ n2 ++ codes "."
    → n4 ≡ n3 ++ number_text adults → n5 ≡ n4 ++ codes "/" → n6 ≡ n5 ++ number_text children → n7 ≡ n6 ++ codes "/"
    → n7 ++ number_text infants ≡ old ++ persons_text destination adults children infants
persons-pieces old destination n1 n2 n3 n4 n5 n6 n7 adults children infants e1 e2 e3 e4 e5 e6 e7 = rw (e7, e6, e5, e4, e3, e2, e1) (simp append_assoc)

-- the pieces of a line, and its end
pub line-5 : (old a b c d e last n1 n2 n3 n4 n5 : List ℕ) → n1 ≡ old ++ a → n2 ≡ n1 ++ b → n3 ≡ n2 ++ c → n4 ≡ n3 ++ d → n5 ≡ n4 ++ e
    → n5 ++ last ≡ old ++ ((a ++ (b ++ (c ++ (d ++ e)))) ++ last)
line-5 old a b c d e last n1 n2 n3 n4 n5 e1 e2 e3 e4 e5 = rw (e5, e4, e3, e2, e1) (simp append_assoc)

pub line-6 : (old a b c d e f last n1 n2 n3 n4 n5 n6 : List ℕ) → n1 ≡ old ++ a → n2 ≡ n1 ++ b → n3 ≡ n2 ++ c → n4 ≡ n3 ++ d → n5 ≡ n4 ++ e → n6 ≡ n5 ++ f
    → n6 ++ last ≡ old ++ ((a ++ (b ++ (c ++ (d ++ (e ++ f))))) ++ last)
line-6 old a b c d e f last n1 n2 n3 n4 n5 n6 e1 e2 e3 e4 e5 e6 = rw (e6, e5, e4, e3, e2, e1) (simp append_assoc)

pub load-text : (to mass : List ℕ) → marked (slashed to ∷ slashed mass ∷ []) ≡ codes "/" ++ (to ++ (codes "/" ++ mass))
load-text to mass = ap (λ t. 47 ∷ (to ++ (47 ∷ t))) (append-nil mass)
