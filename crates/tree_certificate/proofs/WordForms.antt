-- words of what prices are of
use Rattle.std.proofs.Common.{◌≡◌, ◌≢◌, ⊎_elim, ℕ, Option, None, Some, IfNone, ◌++◌, ◌∷◌, List, sym, ◌∙◌, arith, All, lit<}
use Rattle.std.proofs.lemmas.List.{append_cancel_left}
use Rattle.std.proofs.lemmas.Option.{none-some}
use Rattle.std.proofs.lemmas.List.Elements.{All-head}
use Rattle.std.proofs.lemmas.Str.Parse.{digit_from_value}
use Rattle.std.specs.Int.{IsInRange}
use Rattle.std.specs.Str.Parse.{AllDigits}
use Rattle.mass_units.specs.Spelling.{number_text, IsNumber}
use Rattle.mass_units.proofs.SpellingLemmas.{number_text-avoids, AllDigits-number_text}
use Rattle.base_words.specs.Letters.{IsCapital, IsDigit, IsCapitalOrDigit}
use Rattle.hold_parts.specs.declared.parts.Position.{Position}
use Rattle.hold_limits.specs.Layout.{name_at}
use Rattle.text_lines.specs.Cuts.{Avoids}
use Rattle.text_lines.specs.Names.{IsNamed}
use Rattle.text_lines.proofs.FieldLemmas.{IsWordKind, numbers, named}
use Rattle.text_lines.proofs.NameLemmas.{some_position, name_at-is, name_at-avoids}
use Rattle.certificate.proofs.PathLemmas.{AreNames}
use Rattle.tree_certificate.specs.declared.price_readers.Holders.{Holders}
use Rattle.tree_certificate.specs.declared.price_readers.Holders.TheVariants.{Positions, Numbers}
use Rattle.tree_certificate.specs.Reading.{holder_word, IsHolder}

-- words that say what a price is of, none of which begins with a semicolon
pub record AreWords (word : ℕ → List ℕ) (IsRight : ℕ → Type 0) : Type 0 where
  pub kind : IsWordKind word IsRight
  pub plain : (n : ℕ) (rest : List ℕ) → IsRight n → word n ≢ 59 ∷ rest

name_plain : (ps : List Position) → AreNames ps → (q : ℕ) (rest : List ℕ) → IsNamed ps q → name_at ps q ≢ 59 ∷ rest
name_plain ps names q rest named e =
    let name = names q some_position named.known in
    let letters : All IsCapitalOrDigit (59 ∷ rest) = rw (sym (name_at-is ps q some_position named.known) ∙ e) at name.letters in
    ⊎_elim (λ (a : IsCapital 59). absurd (omega arith)) (λ (b : IsDigit 59). absurd (omega arith)) (All-head IsCapitalOrDigit 59 rest letters)

pub names_are_words : (ps : List Position) → AreNames ps → AreWords (name_at ps) (IsNamed ps)
names_are_words ps names = record { kind = named ps names; plain = λ q rest right. name_plain ps names q rest right }

number_plain : (n : ℕ) (rest : List ℕ) → number_text n ≢ 59 ∷ rest
number_plain n rest e =
    let digits : AllDigits 10 (59 ∷ rest) = rw e at (AllDigits-number_text n) in
    let range : IsInRange 48 57 59 = digit_from_value 59 digits.0 in
    absurd (omega arith)

pub numbers_are_words : AreWords number_text IsNumber
numbers_are_words = record {
  kind = record { once = λ m n s t. numbers.once m n tt tt; avoids = λ k low n s. numbers.avoids k low n tt };
  plain = λ n rest right. number_plain n rest;
}

-- the word of what a price is of has no space
pub holder_avoids : (holders : Holders) (n : ℕ) → IsHolder holders n → Avoids 32 (holder_word holders n)
holder_avoids (Positions names) n named = name_at-avoids 32 names.now.positions.now n names.now.clear named.known
holder_avoids Numbers n right = number_text-avoids 32 n (lit< tt)

-- Numbers that were read ------------------------------------------------------------------------

pub none_unless_number : (text : List ℕ) (r : Option ℕ) → ((n : ℕ) → IsNumber n → text ≡ number_text n → r ≡ Some n) → IfNone r ((n : ℕ) → IsNumber n → text ≢ number_text n)
none_unless_number text None read = λ n right e. none-some n (read n right e)
none_unless_number text (Some m) read = tt

-- the same of a number behind a word
pub none_unless_numbered : (word line rest : List ℕ) (r : Option ℕ) → line ≡ word ++ rest → ((n : ℕ) → IsNumber n → rest ≡ number_text n → r ≡ Some n) → IfNone r ((n : ℕ) → IsNumber n → line ≢ word ++ number_text n)
none_unless_numbered word line rest None e read = λ n right g. none-some n (read n right (append_cancel_left word rest (number_text n) (sym e ∙ g)))
none_unless_numbered word line rest (Some m) e read = tt
