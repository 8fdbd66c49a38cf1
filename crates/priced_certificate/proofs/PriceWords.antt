-- a price as its sign and its size
use Rattle.std.proofs.Common.{◌≡◌, ◌≢◌, ℕ, suc, ◌^◌, ◌<◌, ◌≤◌, List, ◌∷◌, ◌++◌, ℤ, pos, negsuc, neg_ℤ, codes, get_or, sym, ◌∙◌, ap, subst, arith}
use Rattle.std.specs.Int.{IsInRange}
use Rattle.std.specs.Str.Parse.{AllDigits}
use Rattle.std.proofs.lemmas.Str.Parse.{digit_from_value}
use Rattle.mass_units.specs.Spelling.{number_text, signed_text}
use Rattle.mass_units.proofs.SpellingLemmas.{unsigned_abs-neg, number_text-injective, number_text-no_minus, with_sign-below, with_sign-minus, with_sign-plain, AllDigits-number_text}
use Rattle.priced_certificate.specs.PricedText.{IsSpelledPrice}

-- Sizes -----------------------------------------------------------------------------------------

-- the text of a number that is too great is not that of another
pub no_size : (text : List ℕ) (value : ℕ) → text ≡ number_text value → 10 ^ 14 ≤ value → (n : ℕ) → n < 10 ^ 14 → text ≢ number_text n
no_size text value read large n small e = let same : value ≡ n = number_text-injective value n (sym read ∙ e) in absurd (omega (arith, same, large, small))

-- Prices ----------------------------------------------------------------------------------------

-- the word spells this price
abbrev pub IsPriceRead : List ℕ → ℤ → Type 0
IsPriceRead word price = IsSpelledPrice price × (word ≡ signed_text price)

below_text : (word size : List ℕ) (n : ℕ) → word ≡ codes "-" ++ size → 0 < n → size ≡ number_text n → word ≡ signed_text (neg_ℤ (pos n))
unfolding signed_text
below_text word size n mark more e = mark ∙ ap (λ t. 45 ∷ t) e ∙ sym (with_sign-below number_text n more)

plain_text : (word : List ℕ) (n : ℕ) → word ≡ number_text n → word ≡ signed_text (pos n)
unfolding signed_text
plain_text word n e = e

after_minus : (word size : List ℕ) (z : ℤ) → word ≡ codes "-" ++ size → word ≡ signed_text z → (n : ℕ) × (z ≡ negsuc n) × (size ≡ number_text (suc n))
unfolding signed_text
after_minus word size z mark e = with_sign-minus number_text number_text-no_minus size z (sym mark ∙ e)

without_minus : (word : List ℕ) (z : ℤ) → ((rest : List ℕ) → word ≢ codes "-" ++ rest) → word ≡ signed_text z → (n : ℕ) × (z ≡ pos n) × (word ≡ number_text n)
unfolding signed_text
without_minus word z plain e = with_sign-plain number_text word z plain e

pub price_below : (word size : List ℕ) (n : ℕ) (z : ℤ) → word ≡ codes "-" ++ size → 0 < n → n < 10 ^ 14 → size ≡ number_text n → z ≡ neg_ℤ (pos n) → IsPriceRead word z
price_below word size n z mark more small e is = (rw is (rw (unsigned_abs-neg n) small), below_text word size n mark more e ∙ ap signed_text (sym is))

pub price_plain : (word : List ℕ) (n : ℕ) (z : ℤ) → n < 10 ^ 14 → word ≡ number_text n → z ≡ pos n → IsPriceRead word z
price_plain word n z small e is = (rw is small, plain_text word n e ∙ ap signed_text (sym is))

-- the word spells no price
abbrev pub SpellsNoPrice : List ℕ → Type 0
SpellsNoPrice word = (price : ℤ) → IsSpelledPrice price → word ≢ signed_text price

pub none_below : (word size : List ℕ) → word ≡ codes "-" ++ size → ((n : ℕ) → n < 10 ^ 14 → size ≢ number_text n) → SpellsNoPrice word
none_below word size mark none price small e = let n = after_minus word size price mark e in none (suc n.0) (subst IsSpelledPrice n.1 small) n.2

-- a minus before the number 0
pub none_zero : (word size : List ℕ) → word ≡ codes "-" ++ size → size ≡ number_text 0 → SpellsNoPrice word
none_zero word size mark zero_text price small e = let n = after_minus word size price mark e in absurd (omega (arith, number_text-injective 0 (suc n.0) (sym zero_text ∙ n.2)))

pub none_plain : (word : List ℕ) → ((rest : List ℕ) → word ≢ codes "-" ++ rest) → ((n : ℕ) → n < 10 ^ 14 → word ≢ number_text n) → SpellsNoPrice word
none_plain word plain none price small e = let n = without_minus word price plain e in none n.0 (subst IsSpelledPrice n.1 small) n.2

-- Words -----------------------------------------------------------------------------------------

number_plain : (n : ℕ) (rest : List ℕ) → number_text n ≢ 59 ∷ rest
number_plain n rest e =
    let digits : AllDigits 10 (59 ∷ rest) = rw e at (AllDigits-number_text n) in
    let range : IsInRange 48 57 59 = digit_from_value 59 digits.0 in
    absurd (omega arith)

-- no price begins with a semicolon
pub price_no_mark : (z : ℤ) (rest : List ℕ) → signed_text z ≢ 59 ∷ rest
unfolding signed_text
price_no_mark (pos n) rest e = number_plain n rest e
price_no_mark (negsuc n) rest e = let first : 45 ≡ 59 = ap (λ t. get_or t 0 0) e in absurd (omega (arith, first))
