-- Lines of what is spelled: they have the elements that they are made of, and no byte in them ends a line.
use Rattle.std.proofs.Common.{◌≡◌, ℕ, ◌+◌, ◌≤◌, true, false, List, [], ◌∷◌, ◌++◌, Some, None, Option, refl, arith}
use Rattle.std.specs.List.{flat_map}
use Rattle.std.specs.Prelude.{All, codes}
use Rattle.std.proofs.lemmas.Bool.Decides.{nat_tests}
use Rattle.std.proofs.lemmas.List.Elements.{All-nil, All-cons, All-append, All-weaker, All-head, All-tail}
use Rattle.mass_units.specs.Spelling.{number_text}
use Rattle.mass_units.specs.declared.Kg.{Kg}
use Rattle.telex.specs.Parts.{is_separator}
use Rattle.telex.specs.Lines.{IsPrintable}
use Rattle.telex.specs.Text.{is_line_feed}
use Rattle.telex.specs.Elements.{Element, dotted, slashed, line_text, IsMarked, AreElements}
use Rattle.ldm_cpm.specs.Messages.{Heading, IsSpelledHeading, OnBoard, LoadMessage, Placing, HoldMessage, heading_elements, crew_elements, load_elements, seat_elements, board_elements, total, content_elements, place_elements, place_lines, ldm_lines, cpm_lines, IsSpelledBoard, IsSpelledLdm, IsSpelledContent, IsSpelledPlacing, IsSpelledCpm}
use Rattle.ldm_cpm.proofs.LineFaults.{IsWhole}
use Rattle.ldm_cpm.proofs.Plain.{IsPlain, plain-undivided, plain-flight, plain-day, plain-station, plain-registration, plain-version, plain-name, plain-id, plain-number}

-- the element follows a separator and is plain
record IsPlainMarked (e : Element) : Type 0 where
  pub mark : is_separator e.0 ≡ true
  pub text : All IsPlain e.1

abbrev ArePlain : List Element → Type 0
ArePlain [] = ⊥
ArePlain (one ∷ others) = (one.0 ≡ 0) × All IsPlain one.1 × All IsPlainMarked others

-- ---- what follows from it

elements-plain : (elements : List Element) → ArePlain elements → AreElements elements
elements-plain [] plain = plain
elements-plain (one ∷ others) plain = (
  plain.0,
  plain-undivided one.1 plain.1,
  All-weaker IsPlainMarked IsMarked (λ e h. (h.mark, plain-undivided e.1 h.text)) others plain.2,
)

-- what holds of plain bytes and of separators holds of each byte of a plain line
others-all : (P : ℕ → Type 0) → ((b : ℕ) → IsPlain b → P b) → ((b : ℕ) → is_separator b ≡ true → P b) → (others : List Element) → All IsPlainMarked others
    → All P (flat_map (λ (e : Element). e.0 ∷ e.1) others)
others-all P of_plain of_mark [] plain = All-nil P
others-all P of_plain of_mark (e ∷ others) plain =
    let one = All-head IsPlainMarked e others plain in
    let more = flat_map (λ (e : Element). e.0 ∷ e.1) others in
    All-cons P e.0 (e.1 ++ more) (of_mark e.0 one.mark)
    (All-append P e.1 more (All-weaker IsPlain P of_plain e.1 one.text) (others-all P of_plain of_mark others (All-tail IsPlainMarked e others plain)))

line-all : (P : ℕ → Type 0) → ((b : ℕ) → IsPlain b → P b) → ((b : ℕ) → is_separator b ≡ true → P b) → (elements : List Element) → ArePlain elements → All P (line_text elements)
line-all P of_plain of_mark [] plain = absurd plain
line-all P of_plain of_mark (one ∷ others) plain =
    All-append P one.1 (flat_map (λ (e : Element). e.0 ∷ e.1) others) (All-weaker IsPlain P of_plain one.1 plain.1) (others-all P of_plain of_mark others plain.2)

plain-in_line : (b : ℕ) → IsPlain b → is_line_feed b ≡ false
plain-in_line b h = let least = h.least in grind (arith, nat_tests)

mark-in_line : (b : ℕ) → is_separator b ≡ true → is_line_feed b ≡ false
mark-in_line b h = grind (arith, nat_tests, h)

plain-printable : (b : ℕ) → IsPlain b → IsPrintable b
plain-printable b h = (omega (arith, h.least), omega (arith, h.most))

mark-printable : (b : ℕ) → is_separator b ≡ true → IsPrintable b
mark-printable b h = grind (arith, nat_tests, h)

whole-plain : (text : List ℕ) → All IsPlain text → IsWhole text
whole-plain text plain = All-weaker IsPlain (λ b. is_line_feed b ≡ false) plain-in_line text plain

whole-line : (elements : List Element) → ArePlain elements → IsWhole (line_text elements)
whole-line elements plain = line-all (λ b. is_line_feed b ≡ false) plain-in_line mark-in_line elements plain

printable-line : (elements : List Element) → ArePlain elements → All IsPrintable (line_text elements)
printable-line elements plain = line-all IsPrintable plain-printable mark-printable elements plain

-- ---- which lines are plain

none : All IsPlainMarked []
none = All-nil IsPlainMarked

after : (mark : ℕ) (text : List ℕ) (more : List Element) → is_separator mark ≡ true → All IsPlain text → All IsPlainMarked more → All IsPlainMarked ((mark, text) ∷ more)
after mark text more separates plain others = All-cons IsPlainMarked (mark, text) more (record { mark = separates; text = plain }) others

plain-byte : (b : ℕ) (text : List ℕ) → IsPlain b → All IsPlain text → All IsPlain (b ∷ text)
plain-byte b text one others = All-cons IsPlain b text one others

plain-hyphen : IsPlain 45
plain-hyphen = record { least = omega arith; most = omega arith; no_dot = λ e. omega (arith, e); no_slash = λ e. omega (arith, e) }

plain-T : IsPlain 84
plain-T = record { least = omega arith; most = omega arith; no_dot = λ e. omega (arith, e); no_slash = λ e. omega (arith, e) }

plain-capital : (b : ℕ) → 65 ≤ b → b ≤ 90 → IsPlain b
plain-capital b low high = record { least = omega (arith, low); most = high; no_dot = λ e. omega (arith, e, low); no_slash = λ e. omega (arith, e, low) }

plain-PAX : All IsPlain (codes "PAX")
plain-PAX = plain-byte 80 (65 ∷ 88 ∷ []) (plain-capital 80 (omega arith) (omega arith)) (plain-byte 65 (88 ∷ []) (plain-capital 65 (omega arith) (omega arith)) (plain-byte 88 [] (plain-capital 88 (omega arith) (omega arith)) (All-nil IsPlain)))

plain-N : All IsPlain (codes "N")
plain-N = plain-byte 78 [] (plain-capital 78 (omega arith) (omega arith)) (All-nil IsPlain)

heading-others : (h : Heading) (more : List Element) → IsSpelledHeading h → All IsPlainMarked more
    → All IsPlainMarked (slashed h.day ∷ dotted h.registration ∷ dotted h.version ∷ more)
heading-others h more s others =
    after 47 h.day (dotted h.registration ∷ dotted h.version ∷ more) refl (plain-day h.day s.day)
    (after 46 h.registration (dotted h.version ∷ more) refl (plain-registration h.registration s.registration)
    (after 46 h.version more refl (plain-version h.version s.version) others))

plain-heading : (h : Heading) → IsSpelledHeading h → ArePlain (heading_elements h)
plain-heading h s = (refl, plain-flight h.flight s.flight, heading-others h [] s none)

plain-crew : (h : Heading) (cockpit cabin : ℕ) → IsSpelledHeading h → ArePlain (crew_elements h cockpit cabin)
plain-crew h cockpit cabin s =
    let last = slashed (number_text cabin) ∷ [] in
    let crew : All IsPlainMarked (dotted (number_text cockpit) ∷ last) = after 46 (number_text cockpit) last refl (plain-number cockpit) (after 47 (number_text cabin) [] refl (plain-number cabin) none) in
    (refl, plain-flight h.flight s.flight, heading-others h (dotted (number_text cockpit) ∷ last) s crew)

plain-loads : (loads : List (ℕ × Kg)) (more : List Element) → All IsPlainMarked more → All IsPlainMarked (flat_map load_elements loads ++ more)
plain-loads [] more others = others
plain-loads (load ∷ loads) more others =
    let behind = flat_map load_elements loads ++ more in
    after 46 (number_text load.0) (slashed (number_text load.1.0) ∷ behind) refl (plain-number load.0)
    (after 47 (number_text load.1.0) behind refl (plain-number load.1.0) (plain-loads loads more others))

plain-seats : (seats : ℕ) → All IsPlainMarked (seat_elements (number_text seats))
plain-seats seats = after 46 (codes "PAX") (slashed (number_text seats) ∷ []) refl plain-PAX (after 47 (number_text seats) [] refl (plain-number seats) none)

plain-persons : (m : OnBoard) → All IsPlainMarked (dotted (number_text m.adults) ∷ slashed (number_text m.children) ∷ slashed (number_text m.infants)
    ∷ dotted (84 ∷ number_text (total m.loads)) ∷ (flat_map load_elements m.loads ++ seat_elements (number_text (m.adults + m.children))))
plain-persons m =
    let seats = seat_elements (number_text (m.adults + m.children)) in
    let loads = flat_map load_elements m.loads ++ seats in
    let mass = dotted (84 ∷ number_text (total m.loads)) ∷ loads in
    let infants = slashed (number_text m.infants) ∷ mass in
    let children = slashed (number_text m.children) ∷ infants in
    after 46 (number_text m.adults) children refl (plain-number m.adults)
    (after 47 (number_text m.children) infants refl (plain-number m.children)
    (after 47 (number_text m.infants) mass refl (plain-number m.infants)
    (after 46 (84 ∷ number_text (total m.loads)) loads refl (plain-byte 84 (number_text (total m.loads)) plain-T (plain-number (total m.loads)))
    (plain-loads m.loads seats (plain-seats (m.adults + m.children))))))

plain-board : (m : OnBoard) → IsSpelledBoard m → ArePlain (board_elements m)
plain-board m s = (refl, plain-byte 45 m.destination plain-hyphen (plain-station m.destination s.destination), plain-persons m)

plain-content : (id destination : Option (List ℕ)) (mass : ℕ) → IsSpelledContent id destination mass → All IsPlainMarked (content_elements id destination mass)
plain-content (Some id) (Some destination) mass s =
    after 47 id (slashed destination ∷ slashed (number_text mass) ∷ []) refl (plain-id id s.0)
    (after 47 destination (slashed (number_text mass) ∷ []) refl (plain-station destination s.1) (after 47 (number_text mass) [] refl (plain-number mass) none))
plain-content None (Some destination) mass s =
    after 47 destination (slashed (number_text mass) ∷ []) refl (plain-station destination s.0) (after 47 (number_text mass) [] refl (plain-number mass) none)
plain-content None None mass s = after 47 (codes "N") [] refl plain-N none
plain-content (Some id) None mass s = absurd s

plain-place : (p : Placing) → IsSpelledPlacing p → ArePlain (place_elements p)
plain-place p s = (refl, plain-byte 45 p.name plain-hyphen (plain-name p.name s.name), plain-content p.id p.destination p.mass.0 s.content)

-- ---- the lines of messages

pub elements-heading : (h : Heading) → IsSpelledHeading h → AreElements (heading_elements h)
elements-heading h s = elements-plain (heading_elements h) (plain-heading h s)

pub elements-crew : (h : Heading) (cockpit cabin : ℕ) → IsSpelledHeading h → AreElements (crew_elements h cockpit cabin)
elements-crew h cockpit cabin s = elements-plain (crew_elements h cockpit cabin) (plain-crew h cockpit cabin s)

pub elements-board : (m : OnBoard) → IsSpelledBoard m → AreElements (board_elements m)
elements-board m s = elements-plain (board_elements m) (plain-board m s)

pub elements-place : (p : Placing) → IsSpelledPlacing p → AreElements (place_elements p)
elements-place p s = elements-plain (place_elements p) (plain-place p s)

plain-LDM : All IsPlain (codes "LDM")
plain-LDM = plain-byte 76 (68 ∷ 77 ∷ []) (plain-capital 76 (omega arith) (omega arith)) (plain-byte 68 (77 ∷ []) (plain-capital 68 (omega arith) (omega arith)) (plain-byte 77 [] (plain-capital 77 (omega arith) (omega arith)) (All-nil IsPlain)))

plain-CPM : All IsPlain (codes "CPM")
plain-CPM = plain-byte 67 (80 ∷ 77 ∷ []) (plain-capital 67 (omega arith) (omega arith)) (plain-byte 80 (77 ∷ []) (plain-capital 80 (omega arith) (omega arith)) (plain-byte 77 [] (plain-capital 77 (omega arith) (omega arith)) (All-nil IsPlain)))

-- ---- what holds of each line of a message

pub each-ldm : (P : List ℕ → Type 0) (m : LoadMessage) → P (codes "LDM") → P (line_text (crew_elements m.heading m.cockpit m.cabin)) → P (line_text (board_elements m.board))
    → All P (ldm_lines m)
each-ldm P m title crew board =
    let last = line_text (board_elements m.board) in
    let second = line_text (crew_elements m.heading m.cockpit m.cabin) in
    All-cons P (codes "LDM") (second ∷ last ∷ []) title (All-cons P second (last ∷ []) crew (All-cons P last [] board (All-nil P)))

pub each-place : (P : List ℕ → Type 0) (places : List Placing) → ((p : Placing) → IsSpelledPlacing p → P (line_text (place_elements p))) → All IsSpelledPlacing places
    → All P (place_lines places)
each-place P [] one s = All-nil P
each-place P (p ∷ places) one s =
    All-cons P (line_text (place_elements p)) (place_lines places) (one p (All-head IsSpelledPlacing p places s)) (each-place P places one (All-tail IsSpelledPlacing p places s))

pub each-cpm : (P : List ℕ → Type 0) (m : HoldMessage) → P (codes "CPM") → P (line_text (heading_elements m.heading)) → All P (place_lines m.places) → All P (cpm_lines m)
each-cpm P m title heading places =
    let second = line_text (heading_elements m.heading) in
    All-cons P (codes "CPM") (second ∷ place_lines m.places) title (All-cons P second (place_lines m.places) heading places)

pub whole-ldm : (m : LoadMessage) → IsSpelledLdm m → All IsWhole (ldm_lines m)
whole-ldm m s =
    each-ldm IsWhole m (whole-plain (codes "LDM") plain-LDM)
    (whole-line (crew_elements m.heading m.cockpit m.cabin) (plain-crew m.heading m.cockpit m.cabin s.heading))
    (whole-line (board_elements m.board) (plain-board m.board s.board))

pub whole-cpm : (m : HoldMessage) → IsSpelledCpm m → All IsWhole (cpm_lines m)
whole-cpm m s =
    each-cpm IsWhole m (whole-plain (codes "CPM") plain-CPM) (whole-line (heading_elements m.heading) (plain-heading m.heading s.heading))
    (each-place IsWhole m.places (λ p spelled. whole-line (place_elements p) (plain-place p spelled)) s.places.spelled)

pub printable-ldm : (m : LoadMessage) → IsSpelledLdm m → All (All IsPrintable) (ldm_lines m)
printable-ldm m s =
    each-ldm (All IsPrintable) m (All-weaker IsPlain IsPrintable plain-printable (codes "LDM") plain-LDM)
    (printable-line (crew_elements m.heading m.cockpit m.cabin) (plain-crew m.heading m.cockpit m.cabin s.heading))
    (printable-line (board_elements m.board) (plain-board m.board s.board))

pub printable-cpm : (m : HoldMessage) → IsSpelledCpm m → All (All IsPrintable) (cpm_lines m)
printable-cpm m s =
    each-cpm (All IsPrintable) m (All-weaker IsPlain IsPrintable plain-printable (codes "CPM") plain-CPM)
    (printable-line (heading_elements m.heading) (plain-heading m.heading s.heading))
    (each-place (All IsPrintable) m.places (λ p spelled. printable-line (place_elements p) (plain-place p spelled)) s.places.spelled)
