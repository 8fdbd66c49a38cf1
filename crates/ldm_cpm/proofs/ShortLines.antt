-- No line of what is spelled is longer than a line may be.
use Rattle.std.proofs.Common.{◌≡◌, ℕ, suc, ◌+◌, ◌-◌, ◌*◌, ◌<◌, ◌≤◌, ◌^◌, true, List, [], ◌∷◌, ◌++◌, length, Some, None, Option, inl, inr, refl, sym, subst, arith, length-append, length-take, length-drop, take, drop, ◌==◌, ◌&&◌, nat_le}
use Rattle.std.specs.List.{flat_map}
use Rattle.std.specs.Option.{option_map_or}
use Rattle.std.specs.Prelude.{slice_get, false}
use Rattle.std.specs.List.{list_all}
use Rattle.std.specs.Str.Parse.{digits_value}
use Rattle.std.proofs.lemmas.Bool.{cases_Bool, and_parts, eqb-true, leb-true}
use Rattle.std.proofs.lemmas.Fmt.{length-decimal-le}
use Rattle.mass_units.specs.Spelling.{number_text, IsNumber}
use Rattle.mass_units.specs.declared.Kg.{Kg}
use Rattle.mass_units.proofs.SpellingLemmas.{number_text-decimal}
use Rattle.aircraft_file.specs.Spellings as craft
use Rattle.base_words.specs.Letters.{is_capital, is_digit, is_capital_or_digit, is_long}
use Rattle.flight_state.specs.Spellings.{without_suffix, is_flight_number, is_flight_name, is_day, is_station}
use Rattle.telex.specs.Elements.{Element, dotted, slashed, line_text}
use Rattle.telex.specs.Text.{longest_line}
use Rattle.ldm_cpm.specs.Messages.{Heading, IsSpelledHeading, OnBoard, Placing, heading_elements, crew_elements, load_elements, seat_elements, board_elements, total, content_elements, place_elements, AreLoads, IsSpelledBoard, IsSpelledContent, IsSpelledPlacing}

pub length-number : (k n : ℕ) → 0 < k → k ≤ 9 → n < 10 ^ k → n < 10 ^ 9 → length (number_text n) ≤ k
length-number k n some few fits small = subst (λ t. length t ≤ k) (sym (number_text-decimal n (omega (arith, small)))) (length-decimal-le k n some fits (omega (arith, small)))

-- the length of elements that follow others
abbrev width : List Element → ℕ
width [] = 0
width (e ∷ elements) = (1 + length e.1) + width elements

length-others : (others : List Element) → length (flat_map (λ (e : Element). e.0 ∷ e.1) others) ≡ width others
length-others [] = refl
length-others (e ∷ others) = omega (arith, length-append e.1 (flat_map (λ (e : Element). e.0 ∷ e.1) others), length-others others)

length-day : (text : List ℕ) → is_day text ≡ true → length text ≡ 2
length-day text passed = eqb-true (length text) 2 (and_parts (length text == 2) (list_all is_digit text && (nat_le 1 (digits_value 10 text) && nat_le (digits_value 10 text) 31)) passed).0

length-station : (text : List ℕ) → is_station text ≡ true → length text ≡ 3
length-station text passed = eqb-true (length text) 3 (and_parts (length text == 3) (list_all is_capital text) passed).0

length-registration : (text : List ℕ) → craft.is_registration text ≡ true → length text ≤ 10
length-registration text passed = leb-true _ _ (and_parts _ _ (and_parts _ _ passed).0).1

length-version : (text : List ℕ) → craft.is_version text ≡ true → length text ≤ 12
length-version text passed = leb-true _ _ (and_parts _ _ (and_parts _ _ passed).0).1

length-suffix : (text : List ℕ) → length text ≤ length (without_suffix text) + 1
length-suffix text = elim (cases_Bool (option_map_or is_capital (slice_get text (length text - 1)) false)) [
  | inl capital ↦ rw capital (omega (arith, length-take (length text - 1) text))
  | inr other ↦ rw other (omega arith)
]

length-flight : (text : List ℕ) → is_flight_name text ≡ true → length text ≤ 7
length-flight text passed =
    let rest = without_suffix (drop 2 text) in
    let number : is_flight_number (drop 2 text) ≡ true = (and_parts (list_all is_capital_or_digit (take 2 text)) (is_flight_number (drop 2 text)) (and_parts (nat_le 2 (length text)) _ passed).1).1 in
    let long : is_long 1 4 rest ≡ true = (and_parts (is_long 1 4 rest) (list_all is_digit rest) number).0 in
    let most = leb-true (length rest) 4 (and_parts (nat_le 1 (length rest)) (nat_le (length rest) 4) long).1 in
    omega (arith, most, length-suffix (drop 2 text), length-drop 2 text)

-- ---- lines

pub short-crew : (h : Heading) (cockpit cabin : ℕ) → IsSpelledHeading h → cockpit ≤ 99 → cabin ≤ 99 → length (line_text (crew_elements h cockpit cabin)) ≤ longest_line
short-crew h cockpit cabin s few seldom =
    let others = slashed h.day ∷ dotted h.registration ∷ dotted h.version ∷ dotted (number_text cockpit) ∷ slashed (number_text cabin) ∷ [] in
    let all : length (flat_map (λ (e : Element). e.0 ∷ e.1) others) ≡ (1 + length h.day) + ((1 + length h.registration) + ((1 + length h.version) + ((1 + length (number_text cockpit)) + ((1 + length (number_text cabin)) + 0)))) = length-others others in
    omega (arith, all, length-append h.flight (flat_map (λ (e : Element). e.0 ∷ e.1) others), length-flight h.flight s.flight, length-day h.day s.day, length-registration h.registration s.registration, length-version h.version s.version, length-number 2 cockpit (omega arith) (omega arith) (omega (arith, few)) (omega (arith, few)), length-number 2 cabin (omega arith) (omega arith) (omega (arith, seldom)) (omega (arith, seldom)))

pub short-heading : (h : Heading) → IsSpelledHeading h → length (line_text (heading_elements h)) ≤ longest_line
short-heading h s =
    let others = slashed h.day ∷ dotted h.registration ∷ dotted h.version ∷ [] in
    let all : length (flat_map (λ (e : Element). e.0 ∷ e.1) others) ≡ (1 + length h.day) + ((1 + length h.registration) + ((1 + length h.version) + 0)) = length-others others in
    omega (arith, all, length-append h.flight (flat_map (λ (e : Element). e.0 ∷ e.1) others), length-flight h.flight s.flight, length-day h.day s.day, length-registration h.registration s.registration, length-version h.version s.version)

-- ten compartments at most, each with at most twelve bytes
loads-width : (least : ℕ) (loads : List (ℕ × Kg)) (more : List Element) → AreLoads least loads
    → width (flat_map load_elements loads ++ more) ≤ 12 * (10 - least) + width more
loads-width least [] more are = omega arith
loads-width least (load ∷ loads) more are =
    let digit = length-number 1 load.0 (omega arith) (omega arith) (omega (arith, are.1)) (omega (arith, are.1)) in
    let mass = length-number 9 load.1.0 (omega arith) (omega arith) are.3 are.3 in
    omega (arith, digit, mass, are.0, are.1, loads-width (load.0 + 1) loads more are.4)

pub short-board : (m : OnBoard) → IsSpelledBoard m → length (line_text (board_elements m)) ≤ longest_line
short-board m s =
    let seats = seat_elements (number_text (m.adults + m.children)) in
    let back = flat_map load_elements m.loads ++ seats in
    let others = dotted (number_text m.adults) ∷ slashed (number_text m.children) ∷ slashed (number_text m.infants) ∷ dotted (84 ∷ number_text (total m.loads)) ∷ back in
    let all : length (flat_map (λ (e : Element). e.0 ∷ e.1) others) ≡ (1 + length (number_text m.adults)) + ((1 + length (number_text m.children)) + ((1 + length (number_text m.infants)) + ((1 + suc (length (number_text (total m.loads)))) + width back))) = length-others others in
    let last : width seats ≡ (1 + 3) + ((1 + length (number_text (m.adults + m.children))) + 0) = refl in
    let nine : (n : ℕ) → IsNumber n → length (number_text n) ≤ 9 = λ n small. length-number 9 n (omega arith) (omega arith) small small in
    omega (
      arith,
      all,
      last,
      length-append (45 ∷ m.destination) (flat_map (λ (e : Element). e.0 ∷ e.1) others),
      length-station m.destination s.destination,
      loads-width 0 m.loads seats s.loads,
      nine m.adults s.adults,
      nine m.children s.children,
      nine m.infants s.infants,
      nine (total m.loads) s.total,
      nine (m.adults + m.children) s.seats,
    )

content-width : (id destination : Option (List ℕ)) (mass : ℕ) → IsSpelledContent id destination mass → width (content_elements id destination mass) ≤ 40
content-width (Some id) (Some destination) mass s = omega (arith, s.0.long, length-station destination s.1, length-number 9 mass (omega arith) (omega arith) s.2 s.2)
content-width None (Some destination) mass s = omega (arith, length-station destination s.0, length-number 9 mass (omega arith) (omega arith) s.2 s.2)
content-width None None mass s = omega arith
content-width (Some id) None mass s = absurd s

pub short-place : (p : Placing) → IsSpelledPlacing p → length (line_text (place_elements p)) ≤ longest_line
short-place p s =
    let others = content_elements p.id p.destination p.mass.0 in
    omega (arith, length-append (45 ∷ p.name) (flat_map (λ (e : Element). e.0 ∷ e.1) others), length-others others, content-width p.id p.destination p.mass.0 s.content, s.name.few)
