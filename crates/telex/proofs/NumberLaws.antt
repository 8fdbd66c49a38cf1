-- Numbers as std prints them.
use Rattle.std.proofs.Common.{◌≡◌, ℕ, zero, suc, ◌+◌, ◌/◌, ◌%◌, ◌<◌, ◌^◌, [], ◌∷◌, ◌++◌, map, ℤ, sym, ap, ◌∙◌, arith, append_assoc}
use Rattle.std.proofs.lemmas.List.{map_push}
use Rattle.std.specs.Prelude.{pos, negsuc, unsigned_abs, codes}
use Rattle.std.specs.Fmt.{decimal, signed_decimal}
use Rattle.std.specs.Int.Digits.{digits_of}
use Rattle.std.proofs.lemmas.Fmt.{decimal_digit, decimal_by_steps_wide}
use Rattle.std.proofs.lemmas.Int.Digits.{digits_of_step}
use Rattle.mass_units.specs.Spelling.{number_text, signed_text, sign_text, with_sign, two_digits, hundredths_text}
use Rattle.mass_units.proofs.SpellingLemmas.{number_text-decimal}

pub signed_text-printed : (z : ℤ) → unsigned_abs z < 2 ^ 64 → signed_text z ≡ signed_decimal z
unfolding signed_text
signed_text-printed (pos n) small = number_text-decimal n (omega arith)
signed_text-printed (negsuc n) small = ap (λ t. 45 ∷ t) (number_text-decimal (suc n) (omega arith))

decimal-digits_wide : (n : ℕ) → 0 < n → n < 10 ^ 64 → decimal n ≡ map (λ d. 48 + d) (digits_of 10 n)
decimal-digits_wide n some small = decimal_by_steps_wide (λ m ds. 0 < m → ds ≡ map (λ d. 48 + d) (digits_of 10 m))
    (λ m l a. let z : m / 10 ≡ 0 = omega arith in let e : m % 10 ≡ m = omega arith in sym (ap (map (λ d. 48 + d)) (digits_of_step 10 m (omega arith) a ∙ (λ i. digits_of 10 (z i) ++ (e i ∷ [])))))
    (λ m ds l h a. ap (λ x. x ++ ((48 + m % 10) ∷ [])) (h (omega arith)) ∙ sym (map_push (λ d. 48 + d) (digits_of 10 (m / 10)) (m % 10)) ∙ ap (map (λ d. 48 + d)) (sym (digits_of_step 10 m (omega arith) a)))
    n small some

pub number_text-wide : (n : ℕ) → n < 10 ^ 64 → number_text n ≡ decimal n
unfolding number_text
number_text-wide zero small = sym (decimal_digit 0 (omega arith))
number_text-wide (suc n) small = sym (decimal-digits_wide (suc n) (omega arith) small)

-- the text of a number of hundredths: its sign, its whole part, and the point with the decimals
pub hundredths-parts : (z : ℤ) (size : ℕ) → size ≡ unsigned_abs z → size < 2 ^ 128
    → with_sign hundredths_text z ≡ sign_text z ++ (decimal (size / 100) ++ (codes "." ++ two_digits (size % 100)))
unfolding hundredths_text
hundredths-parts z size is small =
    ap (λ n. sign_text z ++ (number_text (n / 100) ++ codes "." ++ two_digits (n % 100))) (sym is)
    ∙ ap (λ t. sign_text z ++ t) (append_assoc (number_text (size / 100)) (46 ∷ []) (two_digits (size % 100)) ∙ ap (λ t. t ++ (46 ∷ two_digits (size % 100))) (number_text-wide (size / 100) (omega arith)))
