-- runs of prices, and lines of prices, are read in one way only
use Rattle.std.proofs.Common.{◌≡◌, ◌≢◌, ℕ, ◌<◌, ◌++◌, ◌∷◌, List, [], get_or, refl, sym, ◌∙◌, ap, subst, arith, codes, lit<}
use Rattle.std.proofs.lemmas.List.{append_assoc, append-nil, append_cancel_left}
use Rattle.mass_units.specs.Spelling.{number_text, IsNumber}
use Rattle.mass_units.proofs.SpellingLemmas.{number_text-avoids}
use Rattle.hold_parts.specs.declared.parts.Position.{Position}
use Rattle.hold_limits.specs.Layout.{name_at}
use Rattle.text_lines.specs.Cuts.{Avoids, IsCutAt}
use Rattle.text_lines.specs.Names.{IsNamed}
use Rattle.text_lines.specs.WordRuns.{run_text}
use Rattle.text_lines.proofs.CutLemmas.{cut_once, split_once_again}
use Rattle.text_lines.proofs.FieldLemmas.{HasWord, IsWordKind, AreEntries, numbers, pair_entries, entry_parts, run_kind}
use Rattle.text_lines.proofs.Rests.{IsLineKind}
use Rattle.text_lines.proofs.RunLemmas.{run_text-cut}
use Rattle.text_lines.proofs.WordLemmas.{avoids-append, plain_word, letters_avoid}
use Rattle.certificate.proofs.PathLemmas.{AreNames}
use Rattle.certificate.proofs.RunsThatStop as runs_that_stop
use Rattle.tree_certificate.specs.declared.parts.End.{End}
use Rattle.tree_certificate.specs.declared.parts.End.TheVariants.{Low, High}
use Rattle.tree_certificate.specs.declared.parts.Price.{Price}
use Rattle.tree_certificate.specs.Listed.{ListedPrices}
use Rattle.tree_certificate.specs.TreeText.{price_text, prices_text, price_line, end_word, IsSpelledPrice, AreSpelledPrices, IsSpelledPriceList}
use Rattle.tree_certificate.specs.Reading.{HasNoPrice, ArePrices}
use Rattle.tree_certificate.proofs.WordForms.{AreWords, names_are_words, numbers_are_words}

-- One price -------------------------------------------------------------------------------------

regroup : (w n rest : List ℕ) → (w ++ 32 ∷ n) ++ rest ≡ w ++ 32 ∷ (n ++ rest)
regroup w n rest = append_assoc w (32 ∷ n) rest

pub prices : (word : ℕ → List ℕ) (P : ℕ → Type 0) → AreWords word P → AreEntries (price_text word) (IsSpelledPrice P)
prices word P words = entry_parts (pair_entries words.kind numbers) (λ (p : Price). (p.of, p.price)) (λ p q e i. record { of = (e i).0; price = (e i).1 }) (λ p s. (s.of, tt))

-- the words of a price and what follows it
pub price_parts : (word : ℕ → List ℕ) (p : Price) (words behind holder after rest : List ℕ) → words ≡ codes " " ++ behind → behind ≡ holder ++ 32 ∷ after → Avoids 32 holder → Avoids 32 (word p.of)
    → words ≡ price_text word p ++ rest → (holder ≡ word p.of) × (after ≡ number_text p.price ++ rest)
price_parts word p words behind holder after rest e is clear plain same =
    let inner : behind ≡ (word p.of ++ 32 ∷ number_text p.price) ++ rest = append_cancel_left (codes " ") behind ((word p.of ++ 32 ∷ number_text p.price) ++ rest) (sym e ∙ same) in
    split_once_again 32 holder after (word p.of) (number_text p.price ++ rest) clear plain (sym is ∙ inner ∙ regroup (word p.of) (number_text p.price) rest)

pub price_amount : (p : Price) (after amount more rest : List ℕ) → after ≡ amount ++ more → Avoids 32 amount → IsCutAt 32 more → IsCutAt 32 rest → after ≡ number_text p.price ++ rest → amount ≡ number_text p.price
price_amount p after amount more rest is clear cut cut' same = (cut_once 32 amount more (number_text p.price) rest clear (number_text-avoids 32 p.price (lit< tt)) cut cut' (sym is ∙ same)).0

pub price_found : (word : ℕ → List ℕ) (of price : ℕ) (words behind holder after amount rest : List ℕ) → words ≡ codes " " ++ behind → behind ≡ holder ++ 32 ∷ after → after ≡ amount ++ rest → holder ≡ word of → amount ≡ number_text price
    → words ≡ price_text word (record { of = of; price = price }) ++ rest
price_found word of price words behind holder after amount rest e is parts first second =
    e ∙ ap (λ t. 32 ∷ t) (is ∙ ap (λ t. holder ++ 32 ∷ t) parts ∙ (λ i. first i ++ 32 ∷ (second i ++ rest)) ∙ sym (regroup (word of) (number_text price) rest))

-- Where a run of prices stops -------------------------------------------------------------------

abbrev front : List ℕ → ℕ
front words = get_or words 0 0

mark_no_word : (w n rest more : List ℕ) → ((tail : List ℕ) → w ≢ 59 ∷ tail) → 59 ∷ more ≡ (w ++ 32 ∷ n) ++ rest → ⊥
mark_no_word [] n rest more plain e = let first : 59 ≡ 32 = ap front e in absurd (omega (arith, first))
mark_no_word (b ∷ w) n rest more plain e = let first : 59 ≡ b = ap front e in plain w (ap (λ x. x ∷ w) (sym first))

pub mark_stops : (word : ℕ → List ℕ) (P : ℕ → Type 0) → AreWords word P → (more : List ℕ) → HasNoPrice word P (codes " ;" ++ more)
mark_stops word P words more = λ p rest s cut e.
    let behind : 59 ∷ more ≡ (word p.of ++ 32 ∷ number_text p.price) ++ rest = cc in
    mark_no_word (word p.of) (number_text p.price) rest more (λ tail. words.plain p.of tail s.of) behind

pub end_stops : (word : ℕ → List ℕ) (P : ℕ → Type 0) → HasNoPrice word P []
end_stops word P = λ p rest s cut e. absurd (cc)

-- two runs that go on with no price are one
pub runs_once : (word : ℕ → List ℕ) (P : ℕ → Type 0) → AreWords word P → (xs ys : List Price) (rest other : List ℕ) → AreSpelledPrices P xs → AreSpelledPrices P ys
    → IsCutAt 32 rest → IsCutAt 32 other → HasNoPrice word P rest → HasNoPrice word P other
    → run_text (price_text word) xs ++ rest ≡ run_text (price_text word) ys ++ other → (xs ≡ ys) × (rest ≡ other)
runs_once word P words = runs_that_stop.runs_once (price_text word) (IsSpelledPrice P) (prices word P words).read

-- what was read of words is what they begin with
pub prices_once : (word : ℕ → List ℕ) (P : ℕ → Type 0) → AreWords word P → (words : List ℕ) (got xs : List Price) (rest other : List ℕ) → ArePrices word P words got rest → AreSpelledPrices P xs → IsCutAt 32 other → HasNoPrice word P other
    → words ≡ run_text (price_text word) xs ++ other → (got ≡ xs) × (rest ≡ other)
prices_once word P are words got xs rest other s right cut stops e =
    let Cut : List ℕ → Type 0 = λ t. IsCutAt 32 t in
    let from : IsCutAt 32 words = subst Cut (sym e) (run_text-cut (price_text word) (IsSpelledPrice P) (prices word P are).read xs other cut) in
    runs_once word P are got xs rest other s.right right (s.cut from) cut s.stops stops (sym s.read ∙ e)

-- Lines of prices -------------------------------------------------------------------------------

abbrev pub names_run : List Position → List Price → List ℕ
names_run ps prices = run_text (price_text (name_at ps)) prices

abbrev pub numbers_run : List Price → List ℕ
numbers_run prices = run_text (price_text number_text) prices

pub after_mark : (a b : List ℕ) → codes " ;" ++ a ≡ codes " ;" ++ b → a ≡ b
after_mark a b e = append_cancel_left (codes " ;") a b e

pub prices_begin : (ps : List Position) → AreNames ps → (list : ListedPrices) → IsCutAt 32 (prices_text ps list)
prices_begin ps names list =
    run_text-cut (price_text (name_at ps)) (IsSpelledPrice (IsNamed ps)) (prices (name_at ps) (IsNamed ps) (names_are_words ps names)).read list.positions
    (codes " ;" ++ (numbers_run list.limits ++ (codes " ;" ++ numbers_run list.cliques))) refl

-- the words of three runs are those of one list
pub three_once : (ps : List Position) → AreNames ps → (a1 b1 a2 b2 a3 b3 : List Price) → AreSpelledPrices (IsNamed ps) a1 → AreSpelledPrices (IsNamed ps) b1 → AreSpelledPrices IsNumber a2 → AreSpelledPrices IsNumber b2 → AreSpelledPrices IsNumber a3 → AreSpelledPrices IsNumber b3
    → names_run ps a1 ++ (codes " ;" ++ (numbers_run a2 ++ (codes " ;" ++ numbers_run a3))) ≡ names_run ps b1 ++ (codes " ;" ++ (numbers_run b2 ++ (codes " ;" ++ numbers_run b3)))
    → (a1 ≡ b1) × (a2 ≡ b2) × (a3 ≡ b3)
three_once ps names a1 b1 a2 b2 a3 b3 p1 q1 p2 q2 p3 q3 e =
    let named = names_are_words ps names in
    let last = λ (prices : List Price). codes " ;" ++ numbers_run prices in
    let more = λ (limits cliques : List Price). codes " ;" ++ (numbers_run limits ++ last cliques) in
    let one = runs_once (name_at ps) (IsNamed ps) named a1 b1 (more a2 a3) (more b2 b3) p1 q1 refl refl
    (mark_stops (name_at ps) (IsNamed ps) named (numbers_run a2 ++ last a3)) (mark_stops (name_at ps) (IsNamed ps) named (numbers_run b2 ++ last b3)) e in
    let two = runs_once number_text IsNumber numbers_are_words a2 b2 (last a3) (last b3) p2 q2 refl refl
    (mark_stops number_text IsNumber numbers_are_words (numbers_run a3)) (mark_stops number_text IsNumber numbers_are_words (numbers_run b3)) (after_mark (numbers_run a2 ++ last a3) (numbers_run b2 ++ last b3) one.1) in
    let three = runs_once number_text IsNumber numbers_are_words a3 b3 [] [] p3 q3 tt tt (end_stops number_text IsNumber) (end_stops number_text IsNumber)
    (append-nil (numbers_run a3) ∙ after_mark (numbers_run a3) (numbers_run b3) two.1 ∙ sym (append-nil (numbers_run b3))) in
    (one.0, two.0, three.0)

pub ends : IsWordKind end_word HasWord
ends = record { once = λ a b s t. once a b; avoids = λ k low end s. avoids k low end }
  where
    once : (a b : End) → end_word a ≡ end_word b → a ≡ b
    once Low Low e = refl
    once Low High e = absurd (cc)
    once High Low e = absurd (cc)
    once High High e = refl

    avoids : (k : ℕ) → k < 45 → (end : End) → Avoids k (end_word end)
    avoids k low Low = letters_avoid k (codes "low") low refl
    avoids k low High = letters_avoid k (codes "high") low refl

pub price_words : (ps : List Position) → AreNames ps → (word words : List ℕ) (list : ListedPrices) → Avoids 32 word → IsCutAt 32 words → word ++ words ≡ price_line ps list → (word ≡ end_word list.end) × (words ≡ prices_text ps list)
price_words ps names word words list clear cut e = cut_once 32 word words (end_word list.end) (prices_text ps list) clear (ends.avoids 32 (lit< tt) list.end tt) cut (prices_begin ps names list) e

pub price_lines : (ps : List Position) → AreNames ps → IsLineKind (price_line ps) (IsSpelledPriceList ps)
price_lines ps names = record { once = once; avoids = avoids }
  where
    once : (a b : ListedPrices) → IsSpelledPriceList ps a → IsSpelledPriceList ps b → price_line ps a ≡ price_line ps b → a ≡ b
    once a b s t e =
        let parts = price_words ps names (end_word a.end) (prices_text ps a) b (ends.avoids 32 (lit< tt) a.end tt) (prices_begin ps names a) e in
        let end = ends.once a.end b.end tt tt parts.0 in
        let three = three_once ps names a.positions b.positions a.limits b.limits a.cliques b.cliques s.positions t.positions s.limits t.limits s.cliques t.cliques parts.1 in
        λ i. record { end = end i; positions = three.0 i; limits = three.1 i; cliques = three.2 i }

    avoids : (list : ListedPrices) → IsSpelledPriceList ps list → Avoids 10 (price_line ps list)
    avoids list s =
        let mark = plain_word 10 (codes " ;") refl in
        let run = run_kind (prices number_text IsNumber numbers_are_words) in
        let last = avoids-append 10 (codes " ;") (numbers_run list.cliques) mark (run.avoids list.cliques s.cliques) in
        let more = avoids-append 10 (codes " ;") (numbers_run list.limits ++ (codes " ;" ++ numbers_run list.cliques)) mark (avoids-append 10 (numbers_run list.limits) (codes " ;" ++ numbers_run list.cliques) (run.avoids list.limits s.limits) last) in
        let first = (run_kind (prices (name_at ps) (IsNamed ps) (names_are_words ps names))).avoids list.positions s.positions in
        avoids-append 10 (end_word list.end) (prices_text ps list) (ends.avoids 10 (lit< tt) list.end tt)
        (avoids-append 10 (names_run ps list.positions) (codes " ;" ++ (numbers_run list.limits ++ (codes " ;" ++ numbers_run list.cliques))) first more)
