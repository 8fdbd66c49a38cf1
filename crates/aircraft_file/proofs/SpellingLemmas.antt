-- the spelling of a name as a test
use Rattle.std.proofs.Common.{◌≡◌, ℕ, true, List, [], ◌∷◌, length, Option, Some, None, IfSome, IfNone, inl, inr, refl, arith}
use Rattle.std.specs.List.{list_all, AllByRecursion}
use Rattle.std.proofs.lemmas.Bool.{cases_Bool, and_parts, leb-true, le-leb}
use Rattle.std.proofs.lemmas.Bool.Decides.{nat_tests}
use Rattle.std.proofs.lemmas.List.Elements.{All-from_recursion, recursion_from_All}
use Rattle.base_words.specs.Letters.{IsCapitalOrDigit, is_capital, is_digit, is_capital_or_digit}
use Rattle.hold_parts.specs.Spellings.{IsName}
use Rattle.aircraft_file.specs.Spellings.{is_name, spelled}

passes_letter : (c : ℕ) → IsCapitalOrDigit c → is_capital_or_digit c ≡ true
passes_letter c (inl capital) = rw (le-leb 65 c capital.0, le-leb c 90 capital.1) refl
passes_letter c (inr digit) = grind (arith, nat_tests)

letter_passed : (c : ℕ) → is_capital_or_digit c ≡ true → IsCapitalOrDigit c
letter_passed c passed = elim (cases_Bool (is_capital c)) [
  | inl capital ↦ let both = and_parts _ _ capital in inl (leb-true _ _ both.0, leb-true _ _ both.1)
  | inr other ↦
      let digit : is_digit c ≡ true = rw other at passed in
      let both = and_parts _ _ digit in inr (leb-true _ _ both.0, leb-true _ _ both.1)
]

passes_all : (text : List ℕ) → AllByRecursion IsCapitalOrDigit text → list_all is_capital_or_digit text ≡ true
passes_all [] letters = refl
passes_all (c ∷ text) letters = rw (passes_letter c letters.0, passes_all text letters.1) refl

all_passed : (text : List ℕ) → list_all is_capital_or_digit text ≡ true → AllByRecursion IsCapitalOrDigit text
all_passed [] passed = tt
all_passed (c ∷ text) passed =
    let both = and_parts _ _ passed in (letter_passed c both.0, all_passed text both.1)

name_passes : (text : List ℕ) → IsName text → is_name text ≡ true
name_passes text name =
    rw (le-leb 1 (length text) name.some, le-leb (length text) 3 name.few, passes_all text (recursion_from_All IsCapitalOrDigit text name.letters)) refl

name_passed : (text : List ℕ) → is_name text ≡ true → IsName text
name_passed text passed =
    let both = and_parts _ _ passed in
    let lengths = and_parts _ _ both.0 in
    record {
      some = leb-true _ _ lengths.0;
      few = leb-true _ _ lengths.1;
      letters = All-from_recursion IsCapitalOrDigit text (all_passed text both.1);
    }

-- what the reader of a name found
pub name_read : (read : Option (List ℕ)) (text : List ℕ) → IfSome read (λ name. (name ≡ text) × IsName text) → IfNone read (IsName text → ⊥) → read ≡ spelled is_name text
name_read (Some name) text some none = rw (name_passes text some.1, some.0) refl
name_read None text some none = elim (cases_Bool (is_name text)) [
  | inl passed ↦ absurd (none (name_passed text passed))
  | inr failed ↦ rw failed refl
]
