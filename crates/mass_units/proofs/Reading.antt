-- What the readers of texts found, at each of their exits.
use Rattle.std.proofs.Common.{◌≡◌, ◌≢◌, ℕ, suc, ◌+◌, ◌-◌, ◌*◌, ◌^◌, ◌<◌, ◌≤◌, ◌↔◌, min, List, ◌∷◌, ◌++◌, length, take, drop, refl, ap, sym, ◌∙◌, subst, arith, ℤ, pos, negsuc, neg_ℤ, Option, Some, None, Result, Ok, Err, IfOk, IfSome}
use Rattle.std.proofs.lemmas.List.{take-append-drop, length-drop}
use Rattle.std.specs.Str.Parse.{AllDigits, digits_value}
use Rattle.mass_units.specs.Spelling.{number_text, units_text, signed_text, index_text, IsNumber, IsSignedNumber, IsIndex}
use Rattle.mass_units.specs.declared.Ticks.{Ticks}
use Rattle.mass_units.specs.declared.spelling.NumFault.{NumFault}
use Rattle.mass_units.specs.declared.spelling.NumFault.TheVariants.{NotANumber, TooLarge}
use Rattle.mass_units.proofs.SpellingLemmas.{unsigned_abs-neg, number_text-injective, units_text-injective, signed_text-injective, index_text-injective, number_text-no_minus, units_text-no_minus, with_sign-below, with_sign-minus, with_sign-plain, units_from_parts}

-- the number that a text was read as is each number that it spells
pub same_number : (text : List ℕ) (value : ℕ) → ((m : ℕ) × (text ≡ number_text m) × (value ≡ min m (2 ^ 64 - 1))) → (n : ℕ) → n < 10 ^ 9 → text ≡ number_text n → value ≡ n
same_number text value read n small e =
    let same : read.0 ≡ n = number_text-injective read.0 n (sym read.1 ∙ e) in omega arith

-- the same for a number of 32 bits
pub same_long_number : (text : List ℕ) (value : ℕ) → ((m : ℕ) × (text ≡ number_text m) × (value ≡ min m (2 ^ 64 - 1))) → (n : ℕ) → n < 2 ^ 32 → text ≡ number_text n → value ≡ n
same_long_number text value read n small e =
    let same : read.0 ≡ n = number_text-injective read.0 n (sym read.1 ∙ e) in omega arith

-- ---- units

pub units_read : (text whole decimals : List ℕ) (at w d : ℕ) → at + 6 ≡ length text → whole ≡ take at text → drop at text ≡ 46 ∷ decimals → ((m : ℕ) × (whole ≡ number_text m) × (w ≡ min m (2 ^ 64 - 1))) → AllDigits 10 decimals × (d ≡ min (digits_value 10 decimals) (2 ^ 64 - 1)) → (v : ℕ) → v ≡ min (min (w * 100000) (2 ^ 64 - 1) + d) (2 ^ 64 - 1) → (n : ℕ) × (text ≡ units_text n) × (v ≡ min n (2 ^ 64 - 1))
units_read text whole decimals at w d len front back m digits v is =
    let five : length decimals ≡ 5 = omega (arith, ap length back, length-drop at text) in
    let whole_text : text ≡ whole ++ (46 ∷ decimals) = sym (take-append-drop at text) ∙ ap (λ t. take at text ++ t) back ∙ ap (λ t. t ++ (46 ∷ decimals)) (sym front) in
    (m.0 * 100000 + digits_value 10 decimals, whole_text ∙ units_from_parts whole decimals m.0 m.1 five digits.0, omega arith)

-- ---- indices

-- what `read_ticks5` ensures of its result
pub record IndexRead (text : List ℕ) (r : Result Ticks NumFault) : Type 0 where
  pub ok : IfOk r (λ t. IsIndex t.0 × (text ≡ index_text t.0))
  pub read_back : (z : ℤ) → IsIndex z → text ≡ index_text z → r ≡ Ok (record { 0 = z })
  pub too_large : (r ≡ Err TooLarge) ↔ ((z : ℤ) × ¬ (IsIndex z) × (text ≡ index_text z))
  pub not_a_number : (r ≡ Err NotANumber) ↔ ((z : ℤ) → text ≢ index_text z)

pub index_read : (text : List ℕ) (t : Ticks) → IsIndex t.0 → text ≡ index_text t.0 → IndexRead text (Ok t)
index_read text t small e = record {
  ok = (small, e);
  read_back = λ z h f. let made : ℤ → Result Ticks NumFault = λ x. Ok (record { 0 = x }) in ap made (index_text-injective t.0 z (sym e ∙ f));
  too_large = (λ h. cc, λ h. absurd (h.1 (subst IsIndex (index_text-injective t.0 h.0 (sym e ∙ h.2)) small)));
  not_a_number = (λ h. cc, λ h. absurd (h t.0 e));
}

pub index_too_large : (text : List ℕ) (z : ℤ) → ¬ (IsIndex z) → text ≡ index_text z → IndexRead text (Err TooLarge)
index_too_large text z large e = record {
  ok = tt;
  read_back = λ y h f. absurd (large (subst IsIndex (index_text-injective y z (sym f ∙ e)) h));
  too_large = (λ h. (z, large, e), λ h. refl);
  not_a_number = (λ h. cc, λ h. absurd (h z e));
}

pub index_none : (text : List ℕ) → ((z : ℤ) → text ≢ index_text z) → IndexRead text (Err NotANumber)
index_none text never = record {
  ok = tt;
  read_back = λ z h f. absurd (never z f);
  too_large = (λ h. cc, λ h. absurd (never h.0 h.2));
  not_a_number = (λ h. never, λ h. refl);
}

-- a minus and the text of n ticks are the text of an index below zero
minus_text : (text size : List ℕ) (n : ℕ) → text ≡ 45 ∷ size → 0 < n → size ≡ units_text n → text ≡ index_text (neg_ℤ (pos n))
unfolding index_text
minus_text text size n mark more e = mark ∙ ap (λ t. 45 ∷ t) e ∙ sym (with_sign-below units_text n more)

plain_text : (text : List ℕ) (n : ℕ) → text ≡ units_text n → text ≡ index_text (pos n)
unfolding index_text
plain_text text n e = e

index_after_minus : (text size : List ℕ) (z : ℤ) → text ≡ 45 ∷ size → text ≡ index_text z → (n : ℕ) × (z ≡ negsuc n) × (size ≡ units_text (suc n))
unfolding index_text
index_after_minus text size z mark e = with_sign-minus units_text units_text-no_minus size z (sym mark ∙ e)

index_without_minus : (text : List ℕ) (z : ℤ) → ((rest : List ℕ) → text ≢ 45 ∷ rest) → text ≡ index_text z → (n : ℕ) × (z ≡ pos n) × (text ≡ units_text n)
unfolding index_text
index_without_minus text z plain e = with_sign-plain units_text text z plain e

pub minus_refused : (text size : List ℕ) (e : NumFault) → text ≡ 45 ∷ size → (◌≡◌ {A = Result ℕ NumFault} (Err e) (Err TooLarge) → (n : ℕ) × (10 ^ 9 < n) × (size ≡ units_text n)) → (◌≡◌ {A = Result ℕ NumFault} (Err e) (Err NotANumber) → (n : ℕ) → size ≢ units_text n) → IndexRead text (Err e)
minus_refused text size TooLarge mark large none =
    let n = large refl in
    index_too_large text (neg_ℤ (pos n.0)) (λ h. absurd (omega (arith, n.1, rw (unsigned_abs-neg n.0) at h))) (minus_text text size n.0 mark (omega (arith, n.1)) n.2)
minus_refused text size NotANumber mark large none =
    index_none text (λ z e. let n = index_after_minus text size z mark e in none refl (suc n.0) n.2)

pub plain_refused : (text : List ℕ) (e : NumFault) → ((rest : List ℕ) → text ≢ 45 ∷ rest) → (◌≡◌ {A = Result ℕ NumFault} (Err e) (Err TooLarge) → (n : ℕ) × (10 ^ 9 < n) × (text ≡ units_text n)) → (◌≡◌ {A = Result ℕ NumFault} (Err e) (Err NotANumber) → (n : ℕ) → text ≢ units_text n) → IndexRead text (Err e)
plain_refused text TooLarge plain large none =
    let n = large refl in index_too_large text (pos n.0) (λ h. absurd (omega (arith, n.1, h))) (plain_text text n.0 n.2)
plain_refused text NotANumber plain large none =
    index_none text (λ z e. let n = index_without_minus text z plain e in none refl n.0 n.2)

pub minus_zero : (text size : List ℕ) → text ≡ 45 ∷ size → size ≡ units_text 0 → IndexRead text (Err NotANumber)
minus_zero text size mark zero_text =
    index_none text (λ z e. let n = index_after_minus text size z mark e in absurd (omega (arith, units_text-injective 0 (suc n.0) (sym zero_text ∙ n.2))))

pub minus_read : (text size : List ℕ) (n : ℕ) (t : Ticks) → text ≡ 45 ∷ size → 0 < n → n ≤ 10 ^ 9 → size ≡ units_text n → t.0 ≡ neg_ℤ (pos n) → IndexRead text (Ok t)
minus_read text size n t mark more small e is =
    index_read text t (rw is (rw (unsigned_abs-neg n) small)) (minus_text text size n mark more e ∙ ap index_text (sym is))

pub plain_read : (text : List ℕ) (n : ℕ) (t : Ticks) → n ≤ 10 ^ 9 → text ≡ units_text n → t.0 ≡ pos n → IndexRead text (Ok t)
plain_read text n t small e is = index_read text t (rw is small) (plain_text text n e ∙ ap index_text (sym is))

-- ---- signed numbers

-- what `read_signed` ensures of its result
pub record SignedRead (text : List ℕ) (r : Option ℤ) : Type 0 where
  pub some : IfSome r (λ z. IsSignedNumber z × (text ≡ signed_text z))
  pub read_back : (z : ℤ) → IsSignedNumber z → text ≡ signed_text z → r ≡ Some z

signed_read : (text : List ℕ) (z : ℤ) → IsSignedNumber z → text ≡ signed_text z → SignedRead text (Some z)
signed_read text z small e = record {
  some = (small, e);
  read_back = λ y h f. ap Some (signed_text-injective z y (sym e ∙ f));
}

signed_none : (text : List ℕ) → ((z : ℤ) → IsSignedNumber z → text ≢ signed_text z) → SignedRead text None
signed_none text never = record { some = tt; read_back = λ z h f. absurd (never z h f) }

signed_after_minus : (text size : List ℕ) (z : ℤ) → text ≡ 45 ∷ size → text ≡ signed_text z → (n : ℕ) × (z ≡ negsuc n) × (size ≡ number_text (suc n))
unfolding signed_text
signed_after_minus text size z mark e = with_sign-minus number_text number_text-no_minus size z (sym mark ∙ e)

signed_without_minus : (text : List ℕ) (z : ℤ) → ((rest : List ℕ) → text ≢ 45 ∷ rest) → text ≡ signed_text z → (n : ℕ) × (z ≡ pos n) × (text ≡ number_text n)
unfolding signed_text
signed_without_minus text z plain e = with_sign-plain number_text text z plain e

minus_number : (text size : List ℕ) (n : ℕ) → text ≡ 45 ∷ size → 0 < n → size ≡ number_text n → text ≡ signed_text (neg_ℤ (pos n))
unfolding signed_text
minus_number text size n mark more e = mark ∙ ap (λ t. 45 ∷ t) e ∙ sym (with_sign-below number_text n more)

plain_number : (text : List ℕ) (n : ℕ) → text ≡ number_text n → text ≡ signed_text (pos n)
unfolding signed_text
plain_number text n e = e

-- no number follows the minus
pub signed_minus_none : (text size : List ℕ) → text ≡ 45 ∷ size → ((n : ℕ) → IsNumber n → size ≡ number_text n → ◌≡◌ {A = Option ℕ} None (Some n)) → SignedRead text None
signed_minus_none text size mark back =
    signed_none text (λ z h e. let n = signed_after_minus text size z mark e in let never : ◌≡◌ {A = Option ℕ} None (Some (suc n.0)) = back (suc n.0) (subst IsSignedNumber n.1 h) n.2 in cc)

pub signed_plain_none : (text : List ℕ) → ((rest : List ℕ) → text ≢ 45 ∷ rest) → ((n : ℕ) → IsNumber n → text ≡ number_text n → ◌≡◌ {A = Option ℕ} None (Some n)) → SignedRead text None
signed_plain_none text plain back =
    signed_none text (λ z h e. let n = signed_without_minus text z plain e in let never : ◌≡◌ {A = Option ℕ} None (Some n.0) = back n.0 (subst IsSignedNumber n.1 h) n.2 in cc)

pub signed_minus_zero : (text size : List ℕ) → text ≡ 45 ∷ size → size ≡ number_text 0 → SignedRead text None
signed_minus_zero text size mark zero_text =
    signed_none text (λ z h e. let n = signed_after_minus text size z mark e in absurd (omega (arith, number_text-injective 0 (suc n.0) (sym zero_text ∙ n.2))))

pub signed_minus_read : (text size : List ℕ) (n : ℕ) (z : ℤ) → text ≡ 45 ∷ size → 0 < n → IsNumber n → size ≡ number_text n → z ≡ neg_ℤ (pos n) → SignedRead text (Some z)
signed_minus_read text size n z mark more small e is =
    signed_read text z (rw is (rw (unsigned_abs-neg n) small)) (minus_number text size n mark more e ∙ ap signed_text (sym is))

pub signed_plain_read : (text : List ℕ) (n : ℕ) (z : ℤ) → IsNumber n → text ≡ number_text n → z ≡ pos n → SignedRead text (Some z)
signed_plain_read text n z small e is = signed_read text z (rw is small) (plain_number text n e ∙ ap signed_text (sym is))
