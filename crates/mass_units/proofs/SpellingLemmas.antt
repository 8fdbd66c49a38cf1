-- Laws of the spellings: each text has one value, and no text holds a space or the end of a line.
use Rattle.std.proofs.Common.{◌≡◌, ℕ, zero, suc, ◌+◌, ◌-◌, ◌*◌, ◌/◌, ◌%◌, ◌^◌, ◌<◌, ◌≤◌, ◌≢◌, inl, inr, List, [], ◌∷◌, ◌++◌, map, length, get_or, take, drop, refl, ap, sym, ◌∙◌, arith, append_assoc, append-nil, zero-add, length-append, ℤ, pos, negsuc, neg_ℤ, codes, All, eqb, false, Option, Some, None, IfSome, IfNone, min, unsigned_abs, FitsSigned}
use mir.Syntax.{Width}
use mir.Val.{hbits}
use Rattle.std.proofs.lemmas.Int.{ints}
use Rattle.std.specs.Int.{IsInRange}
use Rattle.std.specs.List.{AllByRecursion}
use Rattle.std.specs.Int.Digits.{digits_of, number_from_digits, number_from_digits_after, AllBelowBase}
use Rattle.std.specs.Str.Parse.{AllDigits, digits_value}
use Rattle.std.specs.Char.{digit_value}
use Rattle.std.specs.Fmt.{decimal, signed_decimal}
use Rattle.std.proofs.lemmas.Int.Digits.{digits_of_step, digits_value_is, all_below_base_from_digits, all_below_base_digits_of, first_digits_of, number_digits_of, number_after_ge}
use Rattle.std.proofs.lemmas.Str.{digit_value_digit}
use Rattle.std.proofs.lemmas.Str.Parse.{digit_from_value}
use Rattle.std.proofs.lemmas.Fmt.{decimal-digits_of, decimal_digit}
use Rattle.std.proofs.lemmas.List.{take_at, drop_at}
use Rattle.std.proofs.lemmas.List.Elements.{All-from_recursion}
use Rattle.std.proofs.lemmas.Bool.{cases_eq, ne_eqb}
use Rattle.mass_units.specs.Rounding.{IsRounded}
use Rattle.mass_units.specs.Spelling.{number_text, five_digits, units_text, sign_text, with_sign, two_digits, hundredths_text, hundredths_of, short_index_text, signed_text, index_text}

-- ---- the digits of a number

-- the digits of n, and then more digits, are the digits of the number that they write
digits_of-number_after : (n : ℕ) (ds : List ℕ) → 0 < n → AllBelowBase 10 ds → digits_of 10 (number_from_digits_after 10 n ds) ≡ digits_of 10 n ++ ds
digits_of-number_after n [] more below = sym (append-nil (digits_of 10 n))
digits_of-number_after n (d ∷ ds) more below =
    let front : (n * 10 + d) / 10 ≡ n = omega (arith, below.0) in
    let last : (n * 10 + d) % 10 ≡ d = omega (arith, below.0) in
    let step : digits_of 10 (n * 10 + d) ≡ digits_of 10 n ++ (d ∷ []) = digits_of_step 10 (n * 10 + d) (omega arith) (omega arith) ∙ rw (front, last) refl in
    digits_of-number_after (n * 10 + d) ds (omega arith) below.1 ∙ ap (λ xs. xs ++ ds) step ∙ append_assoc (digits_of 10 n) (d ∷ []) ds

pub digit_value-digit : (d : ℕ) → d < 10 → digit_value (48 + d) ≡ d
digit_value-digit d small = omega (arith, digit_value_digit (48 + d) (omega arith, omega arith))

-- digits are the characters of their values
map-digit_value : (cs : List ℕ) → AllDigits 10 cs → map (λ d. 48 + d) (map digit_value cs) ≡ cs
map-digit_value [] digits = refl
map-digit_value (c ∷ cs) digits =
    let e : 48 + digit_value c ≡ c = omega (arith, digit_value_digit c (digit_from_value c digits.0)) in
    ap (λ x. x ∷ map (λ d. 48 + d) (map digit_value cs)) e ∙ ap (λ xs. c ∷ xs) (map-digit_value cs digits.1)

digit_value-map : (ds : List ℕ) → AllBelowBase 10 ds → map digit_value (map (λ d. 48 + d) ds) ≡ ds
digit_value-map [] below = refl
digit_value-map (d ∷ ds) below =
    ap (λ x. x ∷ map digit_value (map (λ d. 48 + d) ds)) (digit_value-digit d below.0) ∙ ap (λ xs. d ∷ xs) (digit_value-map ds below.1)

AllDigits-map : (ds : List ℕ) → AllBelowBase 10 ds → AllDigits 10 (map (λ d. 48 + d) ds)
AllDigits-map [] below = tt
AllDigits-map (d ∷ ds) below = (rw (digit_value-digit d below.0) below.0, AllDigits-map ds below.1)

-- ---- the text of a number

number_text-pos : (n : ℕ) → 0 < n → number_text n ≡ map (λ d. 48 + d) (digits_of 10 n)
unfolding number_text
number_text-pos zero more = absurd (omega arith)
number_text-pos (suc n) more = refl

number_text-zero : number_text 0 ≡ 48 ∷ []
unfolding number_text
number_text-zero = refl

-- below 2 ^ 64 it is what std prints
pub number_text-decimal : (n : ℕ) → n < 2 ^ 64 → number_text n ≡ decimal n
number_text-decimal zero small = number_text-zero ∙ sym (decimal_digit 0 (omega arith))
number_text-decimal (suc n) small = number_text-pos (suc n) (omega arith) ∙ sym (decimal-digits_of (suc n) (omega arith) small)

pub AllDigits-number_text : (n : ℕ) → AllDigits 10 (number_text n)
AllDigits-number_text zero = rw number_text-zero (omega arith, tt)
AllDigits-number_text (suc n) =
    rw (number_text-pos (suc n) (omega arith)) (AllDigits-map (digits_of 10 (suc n)) (all_below_base_digits_of 10 (suc n) (omega arith)))

-- the digits write the number
pub digits_value-number_text : (n : ℕ) → digits_value 10 (number_text n) ≡ n
digits_value-number_text zero = rw number_text-zero refl
digits_value-number_text (suc n) =
    let below : AllBelowBase 10 (digits_of 10 (suc n)) = all_below_base_digits_of 10 (suc n) (omega arith) in
    ap (digits_value 10) (number_text-pos (suc n) (omega arith)) ∙ digits_value_is 10 (map (λ d. 48 + d) (digits_of 10 (suc n)))
    ∙ ap (number_from_digits 10) (digit_value-map (digits_of 10 (suc n)) below) ∙ number_digits_of 10 (suc n) (omega arith)

first-map : (ds : List ℕ) → 0 < get_or ds 0 0 → (48 < get_or (map (λ d. 48 + d) ds) 0 0) × (0 < length (map (λ d. 48 + d) ds))
first-map [] more = absurd (omega arith)
first-map (d ∷ ds) more = (omega arith, omega arith)

pub length-number_text : (n : ℕ) → 0 < length (number_text n)
length-number_text zero = rw number_text-zero (omega arith)
length-number_text (suc n) = rw (number_text-pos (suc n) (omega arith)) ((first-map (digits_of 10 (suc n)) (first_digits_of 10 (suc n) (omega arith) (omega arith))).1)

-- the text of a number begins with a zero only where it is that zero alone
pub number_text-first : (n : ℕ) → get_or (number_text n) 0 0 ≡ 48 → length (number_text n) ≡ 1
number_text-first zero e = ap length number_text-zero
number_text-first (suc n) e =
    let first : 48 < get_or (number_text (suc n)) 0 0 = rw (number_text-pos (suc n) (omega arith)) ((first-map (digits_of 10 (suc n)) (first_digits_of 10 (suc n) (omega arith) (omega arith))).0) in
    absurd (omega arith)

zero_alone : (cs : List ℕ) → length (48 ∷ cs) ≡ 1 → number_text (digits_value 10 (48 ∷ cs)) ≡ 48 ∷ cs
zero_alone [] one = number_text-zero
zero_alone (c ∷ cs) one = absurd (omega arith)

digits_of-one : (d : ℕ) → 0 < d → d < 10 → digits_of 10 d ≡ d ∷ []
digits_of-one d more small =
    let front : d / 10 ≡ 0 = omega arith in
    let last : d % 10 ≡ d = omega arith in
    digits_of_step 10 d (omega arith) more ∙ rw (front, last) refl

no_leading_zero : (c : ℕ) (cs : List ℕ) → AllDigits 10 (c ∷ cs) → c ≢ 48 → number_text (digits_value 10 (c ∷ cs)) ≡ c ∷ cs
no_leading_zero c cs digits ne =
    let range : IsInRange 48 57 c = digit_from_value c digits.0 in
    let more : 0 < digit_value c = omega (arith, digit_value_digit c range) in
    let below : AllBelowBase 10 (map digit_value cs) = all_below_base_from_digits 10 cs digits.1 in
    let n : ℕ = number_from_digits_after 10 (digit_value c) (map digit_value cs) in
    let e : digits_value 10 (c ∷ cs) ≡ n = digits_value_is 10 (c ∷ cs) ∙ ap (λ x. number_from_digits_after 10 x (map digit_value cs)) (zero-add (digit_value c)) in
    let ds : digits_of 10 n ≡ digit_value c ∷ map digit_value cs = digits_of-number_after (digit_value c) (map digit_value cs) more below ∙ ap (λ xs. xs ++ map digit_value cs) (digits_of-one (digit_value c) more digits.0) in
    ap number_text e ∙ number_text-pos n (omega (arith, number_after_ge 10 (digit_value c) (map digit_value cs) (omega arith)))
    ∙ ap (map (λ d. 48 + d)) ds ∙ map-digit_value (c ∷ cs) digits

-- digits with no leading zero are the text of the number that they write
pub number_text-digits_value : (text : List ℕ) → AllDigits 10 text → 0 < length text → (get_or text 0 0 ≡ 48 → length text ≡ 1) → number_text (digits_value 10 text) ≡ text
number_text-digits_value [] digits more first = absurd (omega arith)
number_text-digits_value (c ∷ cs) digits more first =
    elim (cases_eq c 48) [
      | inl e ↦ rw e (zero_alone cs (first e))
      | inr ne ↦ no_leading_zero c cs digits ne
    ]

pub number_text-injective : (m n : ℕ) → number_text m ≡ number_text n → m ≡ n
number_text-injective m n e = sym (digits_value-number_text m) ∙ ap (digits_value 10) e ∙ digits_value-number_text n

-- ---- reading a number

-- the text is not empty, and a zero at its front is all of it
abbrev pub HasPlainFront : List ℕ → Type 0
HasPlainFront text = (0 < length text) × (get_or text 0 0 ≡ 48 → length text ≡ 1)

pub plain_from_number : (text : List ℕ) (n : ℕ) → text ≡ number_text n → HasPlainFront text
plain_from_number text n e = rw e (length-number_text n, number_text-first n)

pub digits_from_number : (text : List ℕ) (n : ℕ) → text ≡ number_text n → AllDigits 10 text
digits_from_number text n e = rw e (AllDigits-number_text n)

pub read_whole_found : (text : List ℕ) (r : Option ℕ) (most : ℕ) → HasPlainFront text → IfSome r (λ value. AllDigits 10 text × (value ≡ min (digits_value 10 text) most)) → IfSome r (λ value. (n : ℕ) × (text ≡ number_text n) × (value ≡ min n most))
read_whole_found text None most plain read = tt
read_whole_found text (Some value) most plain read = (digits_value 10 text, sym (number_text-digits_value text read.0 plain.0 plain.1), read.1)

pub read_whole_none : (text : List ℕ) (r : Option ℕ) → IfNone r (¬ (AllDigits 10 text)) → IfNone r ((n : ℕ) → text ≢ number_text n)
read_whole_none text None no_digits = λ n e. no_digits (digits_from_number text n e)
read_whole_none text (Some value) no_digits = tt

-- ---- five decimals

pub digits_value-five_digits : (n : ℕ) → n < 100000 → digits_value 10 (five_digits n) ≡ n
digits_value-five_digits n small =
    let a = digit_value-digit (n / 10000) (omega arith) in
    let b = digit_value-digit (n / 1000 % 10) (omega arith) in
    let d = digit_value-digit (n / 100 % 10) (omega arith) in
    let e = digit_value-digit (n / 10 % 10) (omega arith) in
    let f = digit_value-digit (n % 10) (omega arith) in
    rw (a, b, d, e, f) (omega arith)

pub AllDigits-five_digits : (n : ℕ) → n < 100000 → AllDigits 10 (five_digits n)
AllDigits-five_digits n small =
    let a = digit_value-digit (n / 10000) (omega arith) in
    let b = digit_value-digit (n / 1000 % 10) (omega arith) in
    let d = digit_value-digit (n / 100 % 10) (omega arith) in
    let e = digit_value-digit (n / 10 % 10) (omega arith) in
    let f = digit_value-digit (n % 10) (omega arith) in
    rw (a, b, d, e, f) (omega arith, (omega arith, (omega arith, (omega arith, (omega arith, tt)))))

five_digits-at : (a b d e f : ℕ) → a < 10 → b < 10 → d < 10 → e < 10 → f < 10 → (v : ℕ) → v ≡ a * 10000 + b * 1000 + d * 100 + e * 10 + f → (v < 100000) × (five_digits v ≡ map (λ x. 48 + x) (a ∷ b ∷ d ∷ e ∷ f ∷ []))
five_digits-at a b d e f la lb ld le lf v is =
    let p : v / 10000 ≡ a = omega arith in
    let q : v / 1000 % 10 ≡ b = omega arith in
    let r : v / 100 % 10 ≡ d = omega arith in
    let s : v / 10 % 10 ≡ e = omega arith in
    let t : v % 10 ≡ f = omega arith in
    (omega arith, rw (p, q, r, s, t) refl)

-- five digits are those of the number that they write
pub five_digits-digits_value : (text : List ℕ) → length text ≡ 5 → AllDigits 10 text → (digits_value 10 text < 100000) × (five_digits (digits_value 10 text) ≡ text)
five_digits-digits_value [] five digits = absurd (omega arith)
five_digits-digits_value (a ∷ []) five digits = absurd (omega arith)
five_digits-digits_value (a ∷ b ∷ []) five digits = absurd (omega arith)
five_digits-digits_value (a ∷ b ∷ d ∷ []) five digits = absurd (omega arith)
five_digits-digits_value (a ∷ b ∷ d ∷ e ∷ []) five digits = absurd (omega arith)
five_digits-digits_value (a ∷ b ∷ d ∷ e ∷ f ∷ []) five digits =
    let at = five_digits-at (digit_value a) (digit_value b) (digit_value d) (digit_value e) (digit_value f) digits.0 digits.1.0 digits.1.1.0 digits.1.1.1.0 digits.1.1.1.1.0 (digits_value 10 (a ∷ b ∷ d ∷ e ∷ f ∷ [])) (omega arith) in
    (at.0, at.1 ∙ map-digit_value (a ∷ b ∷ d ∷ e ∷ f ∷ []) digits)
five_digits-digits_value (a ∷ b ∷ d ∷ e ∷ f ∷ g ∷ text) five digits = absurd (omega arith)

-- ---- the parts of an index

pub units_text-is : (n : ℕ) → units_text n ≡ number_text (n / 100000) ++ (46 ∷ five_digits (n % 100000))
unfolding units_text
units_text-is n = append_assoc (number_text (n / 100000)) (46 ∷ []) (five_digits (n % 100000))

pub length-units_text : (n : ℕ) → length (units_text n) ≡ length (number_text (n / 100000)) + 6
length-units_text n = ap length (units_text-is n) ∙ length-append (number_text (n / 100000)) (46 ∷ five_digits (n % 100000))

-- a text of whole units, a point and five decimals, as its parts
pub record HasParts (text : List ℕ) (n : ℕ) : Type 0 where
  pub long : 7 ≤ length text
  pub whole : take (length text - 6) text ≡ number_text (n / 100000)
  pub rest : drop (length text - 6) text ≡ 46 ∷ five_digits (n % 100000)

pub parts_of_units : (text : List ℕ) (n : ℕ) → text ≡ units_text n → HasParts text n
parts_of_units text n e =
    let e2 : text ≡ number_text (n / 100000) ++ (46 ∷ five_digits (n % 100000)) = e ∙ units_text-is n in
    let len : length text ≡ length (number_text (n / 100000)) + 6 = ap length e ∙ length-units_text n in
    let at : length (number_text (n / 100000)) ≡ length text - 6 = omega arith in
    record {
      long = omega (arith, length-number_text (n / 100000));
      whole = ap (take (length text - 6)) e2 ∙ take_at (number_text (n / 100000)) (46 ∷ five_digits (n % 100000)) (length text - 6) at;
      rest = ap (drop (length text - 6)) e2 ∙ drop_at (number_text (n / 100000)) (46 ∷ five_digits (n % 100000)) (length text - 6) at;
    }

-- the same parts, cut at a place six bytes before the end
pub front_of_units : (text : List ℕ) (n at : ℕ) → at + 6 ≡ length text → text ≡ units_text n → take at text ≡ number_text (n / 100000)
front_of_units text n at len e =
    let same : at ≡ length text - 6 = omega arith in rw same ((parts_of_units text n e).whole)

pub rest_of_units : (text : List ℕ) (n at : ℕ) → at + 6 ≡ length text → text ≡ units_text n → drop at text ≡ 46 ∷ five_digits (n % 100000)
rest_of_units text n at len e =
    let same : at ≡ length text - 6 = omega arith in rw same ((parts_of_units text n e).rest)

pub decimals_of_units : (text : List ℕ) (n at : ℕ) (decimals : List ℕ) → at + 6 ≡ length text → drop at text ≡ 46 ∷ decimals → text ≡ units_text n → AllDigits 10 decimals
decimals_of_units text n at decimals len back e =
    let same : decimals ≡ five_digits (n % 100000) = ap (drop 1) (sym back ∙ rest_of_units text n at len e) in
    rw same (AllDigits-five_digits (n % 100000) (omega arith))

-- the parts make the text
pub units_from_parts : (whole decimals : List ℕ) (m : ℕ) → whole ≡ number_text m → length decimals ≡ 5 → AllDigits 10 decimals → whole ++ (46 ∷ decimals) ≡ units_text (m * 100000 + digits_value 10 decimals)
units_from_parts whole decimals m e five digits =
    let d : ℕ = digits_value 10 decimals in
    let tail = five_digits-digits_value decimals five digits in
    let front : (m * 100000 + d) / 100000 ≡ m = omega (arith, tail.0) in
    let back : (m * 100000 + d) % 100000 ≡ d = omega (arith, tail.0) in
    sym (units_text-is (m * 100000 + d) ∙ rw (front, back, tail.1, e) refl)

pub units_text-injective : (m n : ℕ) → units_text m ≡ units_text n → m ≡ n
units_text-injective m n e =
    let p = parts_of_units (units_text m) m refl in
    let q = parts_of_units (units_text m) n e in
    let whole : m / 100000 ≡ n / 100000 = number_text-injective (m / 100000) (n / 100000) (sym p.whole ∙ q.whole) in
    let decimals : five_digits (m % 100000) ≡ five_digits (n % 100000) = ap (drop 1) (sym p.rest ∙ q.rest) in
    let rest : m % 100000 ≡ n % 100000 = sym (digits_value-five_digits (m % 100000) (omega arith)) ∙ ap (digits_value 10) decimals ∙ digits_value-five_digits (n % 100000) (omega arith) in
    omega arith

-- ---- the sign

-- no text begins with a minus
abbrev pub HasNoMinus : (ℕ → List ℕ) → Type 0
HasNoMinus spell = (n : ℕ) → get_or (spell n) 0 0 ≢ 45

first_digit : (text rest : List ℕ) → AllDigits 10 text → 0 < length text → get_or (text ++ rest) 0 0 ≢ 45
first_digit [] rest digits more = absurd (omega arith)
first_digit (c ∷ cs) rest digits more = let range : IsInRange 48 57 c = digit_from_value c digits.0 in omega arith

pub number_text-no_minus : HasNoMinus number_text
number_text-no_minus n = rw (append-nil (number_text n)) at (first_digit (number_text n) [] (AllDigits-number_text n) (length-number_text n))

pub units_text-no_minus : HasNoMinus units_text
units_text-no_minus n = rw (units_text-is n) (first_digit (number_text (n / 100000)) (46 ∷ five_digits (n % 100000)) (AllDigits-number_text (n / 100000)) (length-number_text (n / 100000)))

-- a minus and the text of a number other than 0
pub with_sign-below : (spell : ℕ → List ℕ) (n : ℕ) → 0 < n → with_sign spell (neg_ℤ (pos n)) ≡ 45 ∷ spell n
with_sign-below spell zero more = absurd (omega arith)
with_sign-below spell (suc n) more = refl

-- a text with a minus is that of a number below zero
pub with_sign-minus : (spell : ℕ → List ℕ) → HasNoMinus spell → (size : List ℕ) (z : ℤ) → 45 ∷ size ≡ with_sign spell z → (n : ℕ) × (z ≡ negsuc n) × (size ≡ spell (suc n))
with_sign-minus spell none size (pos n) e = absurd (none n (sym (ap (λ t. get_or t 0 0) e)))
with_sign-minus spell none size (negsuc n) e = (n, refl, ap (drop 1) e)

-- a text without one is that of another number
pub with_sign-plain : (spell : ℕ → List ℕ) (text : List ℕ) (z : ℤ) → ((rest : List ℕ) → text ≢ 45 ∷ rest) → text ≡ with_sign spell z → (n : ℕ) × (z ≡ pos n) × (text ≡ spell n)
with_sign-plain spell text (pos n) plain e = (n, refl, e)
with_sign-plain spell text (negsuc n) plain e = absurd (plain (spell (suc n)) e)

pub with_sign-injective : (spell : ℕ → List ℕ) → HasNoMinus spell → ((m n : ℕ) → spell m ≡ spell n → m ≡ n) → (y z : ℤ) → with_sign spell y ≡ with_sign spell z → y ≡ z
with_sign-injective spell none same (pos m) (pos n) e = ap pos (same m n e)
with_sign-injective spell none same (pos m) (negsuc n) e = absurd (none m (ap (λ t. get_or t 0 0) e))
with_sign-injective spell none same (negsuc m) (pos n) e = absurd (none n (sym (ap (λ t. get_or t 0 0) e)))
with_sign-injective spell none same (negsuc m) (negsuc n) e = let h : suc m ≡ suc n = same (suc m) (suc n) (ap (drop 1) e) in ap negsuc (omega arith)

-- different signed numbers have different texts
pub signed_text-injective : (y z : ℤ) → signed_text y ≡ signed_text z → y ≡ z
unfolding signed_text
signed_text-injective y z e = with_sign-injective number_text number_text-no_minus number_text-injective y z e

-- different indices have different texts
pub index_text-injective : (y z : ℤ) → index_text y ≡ index_text z → y ≡ z
unfolding index_text
index_text-injective y z e = with_sign-injective units_text units_text-no_minus units_text-injective y z e

-- ---- words: no byte of a text is a space, the end of a line, or another below the minus

digits_avoid : (k : ℕ) (text : List ℕ) → k < 45 → AllDigits 10 text → AllByRecursion (λ b. eqb b k ≡ false) text
digits_avoid k [] low digits = tt
digits_avoid k (c ∷ cs) low digits =
    let range : IsInRange 48 57 c = digit_from_value c digits.0 in
    (ne_eqb c k (λ e. omega arith), digits_avoid k cs low digits.1)

avoid-append : (k : ℕ) (xs ys : List ℕ) → AllByRecursion (λ b. eqb b k ≡ false) xs → AllByRecursion (λ b. eqb b k ≡ false) ys → AllByRecursion (λ b. eqb b k ≡ false) (xs ++ ys)
avoid-append k [] ys p q = q
avoid-append k (x ∷ xs) ys p q = (p.0, avoid-append k xs ys p.1 q)

units_avoid : (k n : ℕ) → k < 45 → AllByRecursion (λ b. eqb b k ≡ false) (units_text n)
units_avoid k n low =
    rw (units_text-is n) (avoid-append k (number_text (n / 100000)) (46 ∷ five_digits (n % 100000)) (digits_avoid k (number_text (n / 100000)) low (AllDigits-number_text (n / 100000))) (ne_eqb 46 k (λ e. omega arith), digits_avoid k (five_digits (n % 100000)) low (AllDigits-five_digits (n % 100000) (omega arith))))

sign_avoids : (spell : ℕ → List ℕ) (k : ℕ) → k < 45 → ((n : ℕ) → AllByRecursion (λ b. eqb b k ≡ false) (spell n)) → (z : ℤ) → AllByRecursion (λ b. eqb b k ≡ false) (with_sign spell z)
sign_avoids spell k low avoids (pos n) = avoids n
sign_avoids spell k low avoids (negsuc n) = (ne_eqb 45 k (λ e. omega arith), avoids (suc n))

pub number_text-avoids : (k n : ℕ) → k < 45 → All (λ b. eqb b k ≡ false) (number_text n)
number_text-avoids k n low = All-from_recursion (λ b. eqb b k ≡ false) (number_text n) (digits_avoid k (number_text n) low (AllDigits-number_text n))

pub signed_text-avoids : (k : ℕ) (z : ℤ) → k < 45 → All (λ b. eqb b k ≡ false) (signed_text z)
unfolding signed_text
signed_text-avoids k z low = All-from_recursion (λ b. eqb b k ≡ false) (with_sign number_text z) (sign_avoids number_text k low (λ n. digits_avoid k (number_text n) low (AllDigits-number_text n)) z)

pub index_text-avoids : (k : ℕ) (z : ℤ) → k < 45 → All (λ b. eqb b k ≡ false) (index_text z)
unfolding index_text
index_text-avoids k z low = All-from_recursion (λ b. eqb b k ≡ false) (with_sign units_text z) (sign_avoids units_text k low (λ n. units_avoid k n low) z)

-- ---- writing

-- within 2 ^ 63 a signed number's text is what std prints
pub signed_text-decimal : (z : ℤ) → unsigned_abs z < 2 ^ 63 → signed_text z ≡ signed_decimal z
unfolding signed_text
signed_text-decimal (pos n) small = number_text-decimal n (omega arith)
signed_text-decimal (negsuc n) small = ap (λ t. 45 ∷ t) (number_text-decimal (suc n) (omega arith))

-- the text of an index: its sign, its whole units, and the point with the decimals
pub index_text-parts : (z : ℤ) → unsigned_abs z < 2 ^ 64 → index_text z ≡ sign_text z ++ (decimal (unsigned_abs z / 100000) ++ (codes "." ++ five_digits (unsigned_abs z % 100000)))
unfolding index_text
index_text-parts z small = ap (λ t. sign_text z ++ t) (units_text-is (unsigned_abs z) ∙ ap (λ t. t ++ (46 ∷ five_digits (unsigned_abs z % 100000))) (number_text-decimal (unsigned_abs z / 100000) (omega arith)))

-- the absolute value of a number that fits
pub unsigned_abs-fits : (w : Width) (z : ℤ) → FitsSigned w z → unsigned_abs z ≤ 2 ^ hbits w
unsigned_abs-fits w (pos n) fits = omega (arith, fits.sfits)
unsigned_abs-fits w (negsuc n) fits = omega (arith, fits.sfits)

-- ---- two decimals

pub unsigned_abs-neg : (n : ℕ) → unsigned_abs (neg_ℤ (pos n)) ≡ n
unsigned_abs-neg zero = refl
unsigned_abs-neg (suc n) = refl

unsigned_abs-hundredths : (z : ℤ) → unsigned_abs (hundredths_of z) ≡ (unsigned_abs z + 500) / 1000
unsigned_abs-hundredths (pos n) = refl
unsigned_abs-hundredths (negsuc n) = unsigned_abs-neg ((suc n + 500) / 1000)

pub short_index_text-parts : (z : ℤ) (size : ℕ) → size ≡ (unsigned_abs z + 500) / 1000 → size < 2 ^ 64 → short_index_text z ≡ sign_text (hundredths_of z) ++ (decimal (size / 100) ++ (codes "." ++ two_digits (size % 100)))
unfolding short_index_text hundredths_text
short_index_text-parts z size is small =
    ap (λ n. sign_text (hundredths_of z) ++ (number_text (n / 100) ++ codes "." ++ two_digits (n % 100))) (unsigned_abs-hundredths z ∙ sym is)
    ∙ ap (λ t. sign_text (hundredths_of z) ++ t) (append_assoc (number_text (size / 100)) (46 ∷ []) (two_digits (size % 100)) ∙ ap (λ t. t ++ (46 ∷ two_digits (size % 100))) (number_text-decimal (size / 100) (omega arith)))

pub IsRounded-hundredths : (z : ℤ) → IsRounded z 1000 (hundredths_of z)
IsRounded-hundredths (pos n) = record { nearest = grind (arith, ints); away = grind (arith, ints) }
IsRounded-hundredths (negsuc n) = record { nearest = grind (arith, ints); away = grind (arith, ints) }
