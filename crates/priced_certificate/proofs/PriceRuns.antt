-- runs of prices are read in one way only
use Rattle.std.proofs.Common.{◌≡◌, ◌≢◌, ℕ, ℤ, ◌+◌, ◌++◌, ◌∷◌, List, [], length, get_or, sym, ◌∙◌, ap, subst, arith, codes, All}
use Rattle.std.proofs.lemmas.List.{length-append}
use Rattle.std.proofs.lemmas.List.Elements.{All-push}
use Rattle.mass_units.specs.Spelling.{signed_text}
use Rattle.text_lines.specs.Cuts.{IsCutAt}
use Rattle.text_lines.specs.WordRuns.{run_text}
use Rattle.text_lines.proofs.FieldLemmas.{IsWordKind, AreEntries, signed, word_entries}
use Rattle.text_lines.proofs.RunLemmas.{run_text-cut, run_text-push}
use Rattle.certificate.proofs.RunsThatStop as runs_that_stop
use Rattle.priced_certificate.specs.PricedText.{price_word, IsSpelledPrice, AreSpelledPrices}
use Rattle.priced_certificate.specs.Reading.{HasNoPrice, ArePrices}
use Rattle.priced_certificate.proofs.PriceWords.{price_no_mark}

prices : IsWordKind signed_text IsSpelledPrice
prices = record { once = λ y z s t. signed.once y z tt tt; avoids = λ k low z s. signed.avoids k low z tt }

pub price_entries : AreEntries price_word IsSpelledPrice
price_entries = word_entries prices

abbrev pub run : List ℤ → List ℕ
run xs = run_text price_word xs

pub run_cut : (xs : List ℤ) (rest : List ℕ) → IsCutAt 32 rest → IsCutAt 32 (run xs ++ rest)
run_cut xs rest cut = run_text-cut price_word IsSpelledPrice price_entries.read xs rest cut

-- Where a run of prices stops -------------------------------------------------------------------

mark_no_word : (w rest more : List ℕ) → ((tail : List ℕ) → w ≢ 59 ∷ tail) → IsCutAt 32 rest → 59 ∷ more ≡ w ++ rest → ⊥
mark_no_word [] [] more plain cut e = absurd (cc)
mark_no_word [] (b ∷ rest) more plain cut e = let first : 59 ≡ b = ap (λ t. get_or t 0 0) e in absurd (omega (arith, first, cut))
mark_no_word (b ∷ w) rest more plain cut e = let first : 59 ≡ b = ap (λ t. get_or t 0 0) e in plain w (ap (λ x. x ∷ w) (sym first))

pub mark_stops : (more : List ℕ) → HasNoPrice (codes " ;" ++ more)
mark_stops more = λ price rest s cut e.
    let behind : 59 ∷ more ≡ signed_text price ++ rest = cc in
    mark_no_word (signed_text price) rest more (price_no_mark price) cut behind

pub end_stops : HasNoPrice []
end_stops = λ price rest s cut e. absurd (cc)

-- One way ---------------------------------------------------------------------------------------

-- two runs that go on with no price are one
pub runs_once : (xs ys : List ℤ) (rest other : List ℕ) → All IsSpelledPrice xs → All IsSpelledPrice ys → IsCutAt 32 rest → IsCutAt 32 other → HasNoPrice rest → HasNoPrice other → run xs ++ rest ≡ run ys ++ other → (xs ≡ ys) × (rest ≡ other)
runs_once = runs_that_stop.runs_once price_word IsSpelledPrice price_entries.read

-- what was read of words is what they begin with
pub prices_once : (most : ℕ) (words : List ℕ) (got xs : List ℤ) (rest other : List ℕ) → ArePrices most words got rest → All IsSpelledPrice xs → IsCutAt 32 other → HasNoPrice other → words ≡ run xs ++ other → (got ≡ xs) × (rest ≡ other)
prices_once most words got xs rest other are right cut stop e =
    let Cut : List ℕ → Type 0 = λ t. IsCutAt 32 t in
    let from : IsCutAt 32 words = subst Cut (sym e) (run_cut xs other cut) in
    runs_once got xs rest other are.right.spelled right (are.cut from) cut are.stops stop (sym are.read ∙ e)

-- The reader of a run ---------------------------------------------------------------------------

-- there is one price more than there may be
pub too_many : (most : ℕ) (words : List ℕ) (got : List ℤ) (x : ℤ) (left after : List ℕ) → length got ≡ most → All IsSpelledPrice got → words ≡ run got ++ left → IsSpelledPrice x → left ≡ price_word x ++ after → IsCutAt 32 after
    → (xs : List ℤ) (rest : List ℕ) → AreSpelledPrices most xs → IsCutAt 32 rest → HasNoPrice rest → words ≢ run xs ++ rest
too_many most words got x left after full right read one next cut xs rest are cut' stop e =
    let whole : run (got ++ x ∷ []) ++ after ≡ run xs ++ rest = run_text-push price_word got x after ∙ ap (λ t. run got ++ t) (sym next) ∙ sym read ∙ e in
    let l = runs_that_stop.run_longer price_word IsSpelledPrice price_entries.read (got ++ x ∷ []) xs after rest (All-push IsSpelledPrice got x right one) are.spelled cut cut' stop whole in
    let long : length xs ≡ length (got ++ x ∷ []) + length l.0 = ap length l.1 ∙ length-append (got ++ x ∷ []) l.0 in
    let push = length-append got (x ∷ []) in
    let few = are.few in
    absurd (omega (arith, long, push, few, full))
