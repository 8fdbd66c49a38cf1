-- the texts of a leg contain no space and no end of a line
use Rattle.std.proofs.Common.{◌≡◌, ⊎_elim, ℕ, ◌-◌, ◌<◌, ◌≤◌, Bool, true, false, ◌&&◌, eqb, ◌∷◌, ◌++◌, List, [], length, get_or, sym, ◌∙◌, ap, subst, arith, codes, take, drop, refl, Some, None}
use Rattle.std.specs.Prelude.{nat_le, ◌==◌, slice_get}
use Rattle.std.specs.List.{list_all}
use Rattle.std.specs.Option.{option_map_or}
use Rattle.std.specs.Str.Parse.{digits_value}
use Rattle.std.proofs.lemmas.Bool.{and_parts, or_cases, cases_Bool, cases_lt, cond-true, cond-false, leb-true, ne_eqb}
use Rattle.std.proofs.lemmas.List.{get_or-take, length-take-le, take-append-drop}
use Rattle.std.proofs.lemmas.List.Elements.{All-nil, All-cons, All-append, All-same, All-from_get_or}
use Rattle.std.proofs.lemmas.Option.{slice_get-get_or, none-some, cond_some}
use Rattle.aircraft_file.specs.Spellings.{is_registration, spelled}
use Rattle.base_words.specs.Letters.{is_capital, is_digit, is_capital_or_digit, is_long}
use Rattle.flight_state.specs.Spellings.{without_suffix, is_flight_number, is_flight_name, is_day, is_station}
use Rattle.flight_state.specs.Legs.{IsSpelledLeg}
use Rattle.flight_state.specs.declared.leg.Leg.{Leg}
use Rattle.text_lines.specs.Cuts.{Avoids}
use Rattle.flight_row.proofs.LineLemmas.{AreWords}

tests_avoid : (test : ℕ → Bool) (k : ℕ) → ((c : ℕ) → test c ≡ true → eqb c k ≡ false) → (text : List ℕ) → list_all test text ≡ true → Avoids k text
tests_avoid test k apart [] e = All-nil (λ b. eqb b k ≡ false)
tests_avoid test k apart (c ∷ text) e =
    let parts = and_parts (test c) (list_all test text) e in
    All-cons (λ b. eqb b k ≡ false) c text (apart c parts.0) (tests_avoid test k apart text parts.1)

capital : (k c : ℕ) → k < 45 → is_capital c ≡ true → eqb c k ≡ false
capital k c low e = let least = leb-true 65 c (and_parts (nat_le 65 c) (nat_le c 90) e).0 in ne_eqb c k (λ same. omega arith)

digit : (k c : ℕ) → k < 45 → is_digit c ≡ true → eqb c k ≡ false
digit k c low e = let least = leb-true 48 c (and_parts (nat_le 48 c) (nat_le c 57) e).0 in ne_eqb c k (λ same. omega arith)

letter : (k c : ℕ) → k < 45 → is_capital_or_digit c ≡ true → eqb c k ≡ false
letter k c low e = ⊎_elim (λ (a : is_capital c ≡ true). capital k c low a) (λ (b : is_digit c ≡ true). digit k c low b) (or_cases (is_capital c) (is_digit c) e)

-- a capital at the end
last_avoids : (k : ℕ) (text : List ℕ) → k < 45 → option_map_or is_capital (slice_get text (length text - 1)) false ≡ true → Avoids k (take (length text - 1) text) → Avoids k text
last_avoids k text low last front =
    let P : ℕ → Type 0 = λ b. eqb b k ≡ false in
    All-from_get_or P text 0 (λ i within. ⊎_elim
    (λ (before : i < length text - 1). subst P (get_or-take (length text - 1) text i 0 before) (front i 0 (before_end text i before)))
    (λ (behind : length text - 1 ≤ i).
    let at : i ≡ length text - 1 = omega arith in
    let there = slice_get-get_or text i 0 within in
    capital k (get_or text i 0) low (ap (λ o. option_map_or is_capital o false) (sym there ∙ ap (slice_get text) at) ∙ last))
    (cases_lt i (length text - 1)))
  where
    before_end : (text : List ℕ) (i : ℕ) → i < length text - 1 → i < length (take (length text - 1) text)
    before_end text i before = rw (length-take-le (length text - 1) text (omega arith)) before

number_avoids : (k : ℕ) (text : List ℕ) → k < 45 → is_flight_number text ≡ true → Avoids k text
number_avoids k text low e =
    let parts = and_parts (is_long 1 4 (without_suffix text)) (list_all is_digit (without_suffix text)) e in
    let digits = tests_avoid is_digit k (λ c. digit k c low) (without_suffix text) parts.1 in
    let suffix : Bool = option_map_or is_capital (slice_get text (length text - 1)) false in
    ⊎_elim
    (λ (yes : suffix ≡ true). last_avoids k text low yes (subst (Avoids k) (cond-true suffix (take (length text - 1) text) text yes) digits))
    (λ (no : suffix ≡ false). subst (Avoids k) (cond-false suffix (take (length text - 1) text) text no) digits)
    (cases_Bool suffix)

flight_avoids : (k : ℕ) (text : List ℕ) → k < 45 → is_flight_name text ≡ true → Avoids k text
flight_avoids k text low e =
    let P : ℕ → Type 0 = λ b. eqb b k ≡ false in
    let parts = and_parts (nat_le 2 (length text)) (list_all is_capital_or_digit (take 2 text) && is_flight_number (drop 2 text)) e in
    let both = and_parts (list_all is_capital_or_digit (take 2 text)) (is_flight_number (drop 2 text)) parts.1 in
    let airline = tests_avoid is_capital_or_digit k (λ c. letter k c low) (take 2 text) both.0 in
    let number = number_avoids k (drop 2 text) low both.1 in
    All-same P text (take 2 text ++ drop 2 text) (sym (take-append-drop 2 text)) (All-append P (take 2 text) (drop 2 text) airline number)

day_avoids : (k : ℕ) (text : List ℕ) → k < 45 → is_day text ≡ true → Avoids k text
day_avoids k text low e =
    let parts = and_parts (length text == 2) (list_all is_digit text && (nat_le 1 (digits_value 10 text) && nat_le (digits_value 10 text) 31)) e in
    let digits = and_parts (list_all is_digit text) (nat_le 1 (digits_value 10 text) && nat_le (digits_value 10 text) 31) parts.1 in
    tests_avoid is_digit k (λ c. digit k c low) text digits.0

station_avoids : (k : ℕ) (text : List ℕ) → k < 45 → is_station text ≡ true → Avoids k text
station_avoids k text low e = tests_avoid is_capital k (λ c. capital k c low) text (and_parts (length text == 3) (list_all is_capital text) e).1

registration_avoids : (k : ℕ) (text : List ℕ) → k < 45 → is_registration text ≡ true → Avoids k text
registration_avoids k text low e = tests_avoid is_capital_or_digit k (λ c. letter k c low) text (and_parts (nat_le 2 (length text) && nat_le (length text) 10) (list_all is_capital_or_digit text) e).1

-- the line of a leg

pub leg_words : AreWords (codes "leg") (λ (x : Leg). x.flight ∷ x.day ∷ x.registration ∷ x.origin ∷ x.destination ∷ []) IsSpelledLeg
leg_words = record {
  letters = refl;
  clear = λ k low x s. (flight_avoids k x.flight low s.flight, (day_avoids k x.day low s.day, (registration_avoids k x.registration low s.registration, (station_avoids k x.origin low s.origin, (station_avoids k x.destination low s.destination, tt)))));
  once = λ x y e.
      let flight : x.flight ≡ y.flight = cc (e) in
      let day : x.day ≡ y.day = cc (e) in
      let registration : x.registration ≡ y.registration = cc (e) in
      let origin : x.origin ≡ y.origin = cc (e) in
      let destination : x.destination ≡ y.destination = cc (e) in
      λ i. record { flight = flight i; day = day i; registration = registration i; origin = origin i; destination = destination i };
}

-- texts that were read as one of a spelling ----------------------------------------------------------

pub is_spelled : (test : List ℕ → Bool) (text x : List ℕ) → Some x ≡ spelled test text → (test x ≡ true) × (text ≡ x)
is_spelled test text x e =
    let both = cond_some (test text) text x (sym e) in
    (ap test (sym both.1) ∙ both.0, both.1)

pub not_spelled : (test : List ℕ → Bool) (text x : List ℕ) → None ≡ spelled test text → text ≡ x → test x ≡ true → ⊥
not_spelled test text x e same right = none-some text (e ∙ cond-true (test text) (Some text) None (ap test same ∙ right))
