-- What is spelled consists of capitals, digits and hyphens, so it separates no elements and ends no line.
use Rattle.std.proofs.Common.{◌≡◌, ℕ, ◌+◌, ◌-◌, ◌<◌, ◌≤◌, Bool, true, false, List, [], ◌∷◌, ◌++◌, length, take, drop, Option, Some, None, inl, inr, refl, sym, ap, subst, ◌∙◌, arith}
use Rattle.std.specs.List.{list_all}
use Rattle.std.specs.Option.{option_map_or}
use Rattle.std.specs.Prelude.{◌≢◌, nat_le, All, slice_get, slice_range}
use Rattle.std.specs.Str.Parse.{AllDigits}
use Rattle.std.proofs.lemmas.Bool.{cases_Bool, and_parts, leb-true, false≢true}
use Rattle.std.proofs.lemmas.Bool.Decides.{nat_tests}
use Rattle.std.proofs.Math.Seq.{take-add}
use Rattle.std.proofs.lemmas.List.{take_all, take_more, take-append-drop}
use Rattle.std.proofs.lemmas.List.Elements.{All-nil, All-cons, All-append, All-push, All-weaker}
use Rattle.std.proofs.lemmas.Option.{get_or_from_slice_get, slice_get_within}
use Rattle.std.proofs.lemmas.Str.Parse.{digit_from_value}
use Rattle.mass_units.specs.Spelling.{number_text}
use Rattle.mass_units.proofs.SpellingLemmas.{AllDigits-number_text}
use Rattle.base_words.specs.Letters.{IsCapital, IsDigit, IsCapitalOrDigit, is_capital, is_digit, is_capital_or_digit}
use Rattle.hold_parts.specs.Spellings.{IsName, IsUldId}
use Rattle.aircraft_file.specs.Spellings as craft
use Rattle.flight_state.specs.Spellings.{without_suffix, is_flight_name, is_day, is_station}
use Rattle.telex.specs.Parts.{is_separator}
use Rattle.telex.specs.Elements.{IsUndivided}

-- a capital, a digit or a hyphen
pub record IsPlain (b : ℕ) : Type 0 where
  pub least : 45 ≤ b
  pub most : b ≤ 90
  pub no_dot : b ≢ 46
  pub no_slash : b ≢ 47

pub plain-undivided : (text : List ℕ) → All IsPlain text → IsUndivided text
plain-undivided text plain = All-weaker IsPlain (λ b. is_separator b ≡ false) (λ b h. let least = h.least in let dot = h.no_dot in let slash = h.no_slash in grind (arith, nat_tests)) text plain

plain_capital : (b : ℕ) → is_capital b ≡ true → IsPlain b
plain_capital b passed =
    let both = and_parts (nat_le 65 b) (nat_le b 90) passed in
    let low = leb-true 65 b both.0 in let high = leb-true b 90 both.1 in
    record { least = omega (arith, low); most = omega (arith, high); no_dot = λ e. omega (arith, e, low); no_slash = λ e. omega (arith, e, low) }

plain_digit : (b : ℕ) → is_digit b ≡ true → IsPlain b
plain_digit b passed =
    let both = and_parts (nat_le 48 b) (nat_le b 57) passed in
    let low = leb-true 48 b both.0 in let high = leb-true b 57 both.1 in
    record { least = omega (arith, low); most = omega (arith, high); no_dot = λ e. omega (arith, e, low); no_slash = λ e. omega (arith, e, low) }

plain_letter : (b : ℕ) → is_capital_or_digit b ≡ true → IsPlain b
plain_letter b passed = elim (cases_Bool (is_capital b)) [
  | inl capital ↦ plain_capital b capital
  | inr other ↦ plain_digit b (rw other at passed)
]

plain-all : (test : ℕ → Bool) → ((b : ℕ) → test b ≡ true → IsPlain b) → (text : List ℕ) → list_all test text ≡ true → All IsPlain text
plain-all test each [] passed = All-nil IsPlain
plain-all test each (b ∷ text) passed =
    let both = and_parts _ _ passed in
    All-cons IsPlain b text (each b both.0) (plain-all test each text both.1)

-- ---- flights, days, stations, aircraft

plain-with_last : (text : List ℕ) (last : Option ℕ) → slice_get text (length text - 1) ≡ last → option_map_or is_capital last false ≡ true
    → All IsPlain (take (length text - 1) text) → All IsPlain text
plain-with_last text None is capital front = absurd (false≢true capital)
plain-with_last text (Some c) is capital front =
    let before = length text - 1 in
    let within : before < length text = slice_get_within text before c is in
    let whole : take before text ++ c ∷ [] ≡ text = ap (λ x. take before text ++ x ∷ []) (sym (get_or_from_slice_get text before c c is)) ∙ sym (take_more text before c within) ∙ take_all (before + 1) text (omega (arith, within)) in
    subst (All IsPlain) whole (All-push IsPlain (take before text) c front (plain_capital c capital))

plain-flight_number : (text : List ℕ) → list_all is_digit (without_suffix text) ≡ true → All IsPlain text
plain-flight_number text passed = elim (cases_Bool (option_map_or is_capital (slice_get text (length text - 1)) false)) [
  | inl capital ↦ plain-with_last text (slice_get text (length text - 1)) refl capital (plain-all is_digit plain_digit (take (length text - 1) text) (rw capital at passed))
  | inr other ↦ plain-all is_digit plain_digit text (rw other at passed)
]

plain-joined : (n : ℕ) (text : List ℕ) → All IsPlain (take n text) → All IsPlain (drop n text) → All IsPlain text
plain-joined n text front back = subst (All IsPlain) (take-append-drop n text) (All-append IsPlain (take n text) (drop n text) front back)

pub plain-flight : (text : List ℕ) → is_flight_name text ≡ true → All IsPlain text
plain-flight text passed =
    let parts = and_parts _ _ (and_parts _ _ passed).1 in
    plain-joined 2 text (plain-all is_capital_or_digit plain_letter (take 2 text) parts.0) (plain-flight_number (drop 2 text) (and_parts _ _ parts.1).1)

pub plain-day : (text : List ℕ) → is_day text ≡ true → All IsPlain text
plain-day text passed = plain-all is_digit plain_digit text (and_parts _ _ (and_parts _ _ passed).1).0

pub plain-station : (text : List ℕ) → is_station text ≡ true → All IsPlain text
plain-station text passed = plain-all is_capital plain_capital text (and_parts _ _ passed).1

pub plain-registration : (text : List ℕ) → craft.is_registration text ≡ true → All IsPlain text
plain-registration text passed = plain-all is_capital_or_digit plain_letter text (and_parts _ _ passed).1

pub plain-version : (text : List ℕ) → craft.is_version text ≡ true → All IsPlain text
plain-version text passed = plain-all is_capital_or_digit plain_letter text (and_parts _ _ passed).1

-- ---- positions and containers

plain-IsCapital : (b : ℕ) → IsCapital b → IsPlain b
plain-IsCapital b h = record { least = omega (arith, h.0); most = omega (arith, h.1); no_dot = λ e. omega (arith, e, h.0); no_slash = λ e. omega (arith, e, h.0) }

plain-IsDigit : (b : ℕ) → IsDigit b → IsPlain b
plain-IsDigit b h = record { least = omega (arith, h.0); most = omega (arith, h.1); no_dot = λ e. omega (arith, e, h.0); no_slash = λ e. omega (arith, e, h.0) }

plain-IsLetter : (b : ℕ) → IsCapitalOrDigit b → IsPlain b
plain-IsLetter b (inl capital) = plain-IsCapital b capital
plain-IsLetter b (inr digit) = plain-IsDigit b digit

pub plain-name : (text : List ℕ) → IsName text → All IsPlain text
plain-name text h = All-weaker IsCapitalOrDigit IsPlain plain-IsLetter text h.letters

pub plain-id : (text : List ℕ) → IsUldId text → All IsPlain text
plain-id text h =
    let front = All-weaker IsCapital IsPlain plain-IsCapital (take 3 text) h.kind in
    let middle = All-weaker IsDigit IsPlain plain-IsDigit (slice_range text 3 (length text - 2)) h.serial in
    let back = All-weaker IsCapitalOrDigit IsPlain plain-IsLetter (drop (length text - 2) text) h.owner in
    let before : take (3 + (length text - 2 - 3)) text ≡ take 3 text ++ take (length text - 2 - 3) (drop 3 text) = take-add 3 (length text - 2 - 3) text in
    let same : 3 + (length text - 2 - 3) ≡ length text - 2 = omega (arith, h.short) in
    let serial : All IsPlain (take (length text - 2) text) = subst (λ n. All IsPlain (take n text)) same (subst (All IsPlain) (sym before) (All-append IsPlain (take 3 text) (take (length text - 2 - 3) (drop 3 text)) front middle)) in
    plain-joined (length text - 2) text serial back

-- ---- numbers

plain-digits : (text : List ℕ) → AllDigits 10 text → All IsPlain text
plain-digits [] h = All-nil IsPlain
plain-digits (b ∷ text) h = All-cons IsPlain b text (plain-IsDigit b (digit_from_value b h.0)) (plain-digits text h.1)

pub plain-number : (n : ℕ) → All IsPlain (number_text n)
plain-number n = plain-digits (number_text n) (AllDigits-number_text n)
