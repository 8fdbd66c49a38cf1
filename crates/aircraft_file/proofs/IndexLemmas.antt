-- the index that a text spells is the one whose text it is
use Rattle.std.proofs.Common.{inl, inr, suc, ◌≡◌, ◌≢◌, ℕ, ◌-◌, ◌/◌, ◌%◌, ◌^◌, true, ◌&&◌, nat_le, List, [], ◌∷◌, get_or, length, take, drop, bytes_eq, ℤ, pos, negsuc, neg_ℤ, unsigned_abs, Some, None, option_map, Result, Ok, Err, IfOk, refl, sym, ap, ◌∙◌, arith, le-leb}
use Rattle.std.specs.Result.{result_ok}
use Rattle.std.specs.Str.Parse.{digits_value}
use Rattle.std.proofs.lemmas.Bool.{cases_Bool, and_parts, leb-true, ne_eqb}
use Rattle.std.proofs.lemmas.Slice.Eq.{bytes_eq-Decides}
use Rattle.mass_units.specs.Spelling.{units_text, index_text, IsIndex}
use Rattle.mass_units.specs.declared.Ticks.{Ticks}
use Rattle.mass_units.specs.declared.spelling.NumFault.{NumFault}
use Rattle.mass_units.proofs.SpellingLemmas.{parts_of_units, digits_value-number_text, digits_value-five_digits, units_text-no_minus}
use Rattle.aircraft_file.specs.Spellings.{units_in, ticks_in, index_spelled}

units_in-text : (n : ℕ) → units_in (units_text n) ≡ n
units_in-text n =
    let parts = parts_of_units (units_text n) n refl in
    let whole : digits_value 10 (take (length (units_text n) - 6) (units_text n)) ≡ n / 100000 = ap (digits_value 10) parts.whole ∙ digits_value-number_text (n / 100000) in
    let decimals : digits_value 10 (drop 1 (drop (length (units_text n) - 6) (units_text n))) ≡ n % 100000 = ap (λ t. digits_value 10 (drop 1 t)) parts.rest ∙ digits_value-five_digits (n % 100000) (omega arith) in
    rw (whole, decimals) (omega arith)

ticks_in-plain : (text : List ℕ) → get_or text 0 0 ≢ 45 → ticks_in text ≡ pos (units_in text)
unfolding ticks_in
ticks_in-plain [] plain = refl
ticks_in-plain (c ∷ text) plain = rw (ne_eqb c 45 plain) refl

ticks_in-minus : (text : List ℕ) → ticks_in (45 ∷ text) ≡ neg_ℤ (pos (units_in text))
unfolding ticks_in
ticks_in-minus text = refl

ticks_in-text : (z : ℤ) → ticks_in (index_text z) ≡ z
unfolding index_text
ticks_in-text (pos n) = ticks_in-plain (units_text n) (units_text-no_minus n) ∙ ap pos (units_in-text n)
ticks_in-text (negsuc n) = ticks_in-minus (units_text (suc n)) ∙ ap (λ k. neg_ℤ (pos k)) (units_in-text (suc n))

-- the text of an index spells it
pub index_spelled-text : (z : ℤ) → IsIndex z → index_spelled (index_text z) ≡ Some z
unfolding index_spelled
index_spelled-text z small =
    let same : bytes_eq (index_text z) (index_text z) ≡ true = (bytes_eq-Decides (index_text z) (index_text z)).1 refl in
    let within : nat_le (unsigned_abs z) (10 ^ 9) ≡ true = le-leb (unsigned_abs z) (10 ^ 9) small in
    rw (ticks_in-text z, same, within) refl

-- a text that is that of no index spells none
pub index_spelled-none : (text : List ℕ) → ((z : ℤ) → IsIndex z → text ≢ index_text z) → index_spelled text ≡ None
unfolding index_spelled
index_spelled-none text never =
    elim (cases_Bool (bytes_eq (index_text (ticks_in text)) text && nat_le (unsigned_abs (ticks_in text)) (10 ^ 9))) [
      | inl passed ↦
          let parts = and_parts _ _ passed in
          absurd (never (ticks_in text) (leb-true _ _ parts.1) (sym ((bytes_eq-Decides _ _).0 parts.0)))
      | inr failed ↦ rw failed refl
    ]

pub ruleset one_index = (index_spelled-text, index_spelled-none)

-- what the reader of an index found
pub index_read : (read : Result Ticks NumFault) (text : List ℕ) → IfOk read (λ t. IsIndex t.0 × (text ≡ index_text t.0)) → ((z : ℤ) → IsIndex z → text ≡ index_text z → read ≡ Ok (record { 0 = z }))
    → result_ok read ≡ option_map (λ z. record { 0 = z }) (index_spelled text)
index_read (Ok t) text ok back = rw (ok.1, index_spelled-text t.0 ok.0) refl
index_read (Err e) text ok back = rw (index_spelled-none text (λ z small same. absurd (cc (back z small same)))) refl
