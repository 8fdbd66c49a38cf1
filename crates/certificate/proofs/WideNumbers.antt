-- numbers that have more than 64 bits
use Rattle.std.proofs.Common.{◌≡◌, ◌≢◌, ℕ, ◌+◌, ◌*◌, ◌^◌, ◌<◌, ◌≤◌, List, length, take, get_or, sym, ◌∙◌, ap, arith, lit≤, Option, Some, None, IfSome}
use Rattle.std.specs.Char.{digit_value}
use Rattle.std.specs.Str.Parse.{AllDigits, digits_value}
use Rattle.std.proofs.lemmas.Int.Digits.{digits_value_more}
use Rattle.std.proofs.lemmas.Str.Parse.{digits_value-take-le}
use Rattle.mass_units.specs.Spelling.{number_text}
use Rattle.mass_units.proofs.SpellingLemmas.{HasPlainFront, digits_value-number_text, number_text-digits_value}

-- the first digits write a number that has
pub too_wide : (text : List ℕ) (i : ℕ) → i < length text → 2 ^ 64 ≤ digits_value 10 (take i text) * 10 + digit_value (get_or text i 0) → (n : ℕ) → n < 2 ^ 64 → text ≢ number_text n
too_wide text i within wide n small e =
    let more = digits_value_more 10 text i within in
    let all = digits_value-take-le 10 text (i + 1) (lit≤ tt) in
    let whole : digits_value 10 text ≡ n = ap (digits_value 10) e ∙ digits_value-number_text n in
    absurd (omega (arith, more, all, whole, wide, small))

-- digits with a plain front are the text of the number that they write
pub wide_found : (text : List ℕ) (r : Option ℕ) → HasPlainFront text → IfSome r (λ value. AllDigits 10 text × (value ≡ digits_value 10 text)) → IfSome r (λ n. text ≡ number_text n)
wide_found text None plain read = tt
wide_found text (Some value) plain read = sym (number_text-digits_value text read.0 plain.0 plain.1) ∙ ap number_text (sym read.1)
