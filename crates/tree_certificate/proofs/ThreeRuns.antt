-- the reader of three runs of prices
use Rattle.std.proofs.Common.{◌≡◌, ℕ, ◌++◌, ◌∷◌, List, [], length, refl, sym, ◌∙◌, ap, arith, codes, Result, Ok, Err, Option, Some, None, IfOk, IfSome, IfNone}
use Rattle.std.proofs.lemmas.List.{append-nil}
use Rattle.mass_units.specs.Spelling.{number_text, IsNumber}
use Rattle.hold_parts.specs.declared.parts.Position.{Position}
use Rattle.hold_limits.specs.Layout.{name_at}
use Rattle.text_lines.specs.Names.{IsNamed}
use Rattle.certificate.proofs.PathLemmas.{AreNames}
use Rattle.tree_certificate.specs.declared.parts.End.{End}
use Rattle.tree_certificate.specs.declared.parts.Price.{Price}
use Rattle.tree_certificate.specs.Listed.{ListedPrices}
use Rattle.tree_certificate.specs.TreeText.{prices_text, IsSpelledPriceList}
use Rattle.tree_certificate.specs.Reading.{ArePrices}
use Rattle.tree_certificate.proofs.WordForms.{names_are_words, numbers_are_words}
use Rattle.tree_certificate.proofs.PriceLemmas.{names_run, numbers_run, after_mark, mark_stops, end_stops, prices_once}

abbrev AreOfNames : List Position → List ℕ → List Price → List ℕ → Type 0
AreOfNames ps = ArePrices (name_at ps) (IsNamed ps)

abbrev AreOfNumbers : List ℕ → List Price → List ℕ → Type 0
AreOfNumbers = ArePrices number_text IsNumber

-- what follows the prices of positions, and of limits
abbrev behind_limits : ListedPrices → List ℕ
behind_limits list = codes " ;" ++ numbers_run list.cliques

abbrev behind_positions : ListedPrices → List ℕ
behind_positions list = codes " ;" ++ (numbers_run list.limits ++ behind_limits list)

-- the words after the first run
pub first_behind : (ps : List Position) → AreNames ps → (words after : List ℕ) (got : List Price) (list : ListedPrices) → AreOfNames ps words got after → IsSpelledPriceList ps list → words ≡ prices_text ps list → after ≡ behind_positions list
first_behind ps names words after got list s right e =
    (prices_once (name_at ps) (IsNamed ps) (names_are_words ps names) words got list.positions after (behind_positions list) s right.positions refl
    (mark_stops (name_at ps) (IsNamed ps) (names_are_words ps names) (numbers_run list.limits ++ behind_limits list)) e).1

-- after the second
pub second_behind : (ps : List Position) → AreNames ps → (words after more behind : List ℕ) (got two : List Price) (list : ListedPrices) → AreOfNames ps words got after → after ≡ codes " ;" ++ more → AreOfNumbers more two behind
    → IsSpelledPriceList ps list → words ≡ prices_text ps list → behind ≡ behind_limits list
second_behind ps names words after more behind got two list s mark t right e =
    let rest : more ≡ numbers_run list.limits ++ behind_limits list = after_mark more (numbers_run list.limits ++ behind_limits list) (sym mark ∙ first_behind ps names words after got list s right e) in
    (prices_once number_text IsNumber numbers_are_words more two list.limits behind (behind_limits list) t right.limits refl (mark_stops number_text IsNumber numbers_are_words (numbers_run list.cliques)) rest).1

-- and after the third, where nothing is left
pub third_behind : (ps : List Position) → AreNames ps → (words after more behind last left : List ℕ) (got two three : List Price) (list : ListedPrices) → AreOfNames ps words got after → after ≡ codes " ;" ++ more → AreOfNumbers more two behind
    → behind ≡ codes " ;" ++ last → AreOfNumbers last three left → IsSpelledPriceList ps list → words ≡ prices_text ps list → left ≡ []
third_behind ps names words after more behind last left got two three list s mark t mark' u right e =
    let rest : last ≡ numbers_run list.cliques = after_mark last (numbers_run list.cliques) (sym mark' ∙ second_behind ps names words after more behind got two list s mark t right e) in
    (prices_once number_text IsNumber numbers_are_words last three list.cliques left [] u right.cliques tt (end_stops number_text IsNumber) (rest ∙ sym (append-nil (numbers_run list.cliques)))).1

pub three_read : (ps : List Position) (end : End) (words after more behind last left : List ℕ) (got two three : List Price) → AreOfNames ps words got after → after ≡ codes " ;" ++ more → AreOfNumbers more two behind → behind ≡ codes " ;" ++ last
    → AreOfNumbers last three left → length left ≡ 0
    → IsSpelledPriceList ps (record { end = end; positions = got; limits = two; cliques = three }) × (words ≡ prices_text ps (record { end = end; positions = got; limits = two; cliques = three }))
three_read ps end words after more behind last [] got two three s mark t mark' u none = (
  record { positions = s.right; limits = t.right; cliques = u.right },
  s.read ∙ ap (λ text. names_run ps got ++ text) (mark ∙ ap (λ text. codes " ;" ++ text) (t.read ∙ ap (λ text. numbers_run two ++ text) (mark' ∙ ap (λ text. codes " ;" ++ text) (u.read ∙ append-nil (numbers_run three))))),
)
three_read ps end words after more behind last (b ∷ left) got two three s mark t mark' u none = absurd (omega (arith, none))

-- What is read of a line is read of the words after its end --------------------------------------

pub some_then : {X E : Type 0} {P Q : X → Type 0} (r : Result (Option X) E) → IfOk r (λ o. IfSome o P) → ((x : X) → P x → Q x) → IfOk r (λ o. IfSome o Q)
some_then (Ok (Some x)) read so = so x read
some_then (Ok None) read so = tt
some_then (Err e) read so = tt

pub none_then : {X E : Type 0} {P Q : Type 0} (r : Result (Option X) E) → IfOk r (λ o. IfNone o P) → (P → Q) → IfOk r (λ o. IfNone o Q)
none_then (Ok None) none so = so none
none_then (Ok (Some x)) none so = tt
none_then (Err e) none so = tt
