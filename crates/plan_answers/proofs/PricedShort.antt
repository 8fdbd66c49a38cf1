-- The text of a price-near certificate fits a file.
use Rattle.std.proofs.Common.{ℕ, suc, ◌+◌, ◌*◌, ◌<◌, ◌≤◌, ◌^◌, ℤ, pos, negsuc, List, [], ◌∷◌, ◌++◌, length, sym, ap, subst, arith, unsigned_abs}
use Rattle.std.proofs.lemmas.Fmt.{length-decimal-le}
use Rattle.std.proofs.lemmas.List.{length-append}
use Rattle.std.proofs.lemmas.List.Elements.{All-nil, All-cons, All-head, All-tail}
use Rattle.std.specs.Prelude.{All, IfSome, codes}
use Rattle.mass_units.specs.Spelling.{number_text, signed_text}
use Rattle.mass_units.proofs.SpellingLemmas.{number_text-decimal}
use Rattle.hold_parts.specs.Spellings.{IsName}
use Rattle.hold_parts.specs.declared.parts.Position.{Position}
use Rattle.text_lines.specs.Lines.{text_of}
use Rattle.text_lines.specs.WordRuns.{run_text}
use Rattle.text_lines.proofs.SectionLemmas.{text_of-append}
use Rattle.certificate.specs.Evidence.{claimed}
use Rattle.certificate.specs.CertificateText.{claim_line, cut_line, expanded_line}
use Rattle.assignment_prices.specs.Priced.{AreSmall}
use Rattle.priced_certificate.specs.declared.parts.PricedCut.{PricedCut}
use Rattle.priced_certificate.specs.declared.parts.PricedCertificate.{PricedCertificate}
use Rattle.priced_certificate.specs.PricedText.{start_line, price_word, end_line, lower_line, upper_line, lines_of_cut, lines_of_cuts, last_lines, priced_certificate_text}
use Rattle.task_answers.proofs.ShortText.{IsShort, IsFew, text-short, path-short, claim-short, number-short, pair-short}

-- Prices ----------------------------------------------------------------------------------------

number-in_14 : (n : ℕ) → n < 10 ^ 14 → length (number_text n) ≤ 14
number-in_14 n small = subst (λ text. length text ≤ 14) (sym (number_text-decimal n (omega (arith, small)))) (length-decimal-le 14 n (omega arith) small (omega (arith, small)))

price-in_16 : (z : ℤ) → unsigned_abs z ≤ 10000000000000 → length (price_word z) ≤ 16
unfolding signed_text
price-in_16 (pos n) small = omega (arith, number-in_14 n (omega (arith, small)))
price-in_16 (negsuc n) small = omega (arith, number-in_14 (suc n) (omega (arith, small)))

abbrev IsSmall : ℤ → Type 0
IsSmall z = unsigned_abs z ≤ 10000000000000

run-short : (prices : List ℤ) → AreSmall prices → length (run_text price_word prices) ≤ 16 * length prices
run-short [] small = omega arith
run-short (z ∷ prices) small =
    omega (arith, length-append (price_word z) (run_text price_word prices), price-in_16 z (All-head IsSmall z prices small), run-short prices (All-tail IsSmall z prices small))

-- small prices of at most 60 containers, and of at most 64 positions
pub record AreShortPrices (items places : List ℤ) : Type 0 where
  pub containers : length items ≤ 60
  pub positions : length places ≤ 64
  pub small_items : AreSmall items
  pub small_places : AreSmall places

end-short : (word : List ℕ) (items places : List ℤ) → length word ≤ 5 → AreShortPrices items places → length (end_line word items places) ≤ 1991
end-short word items places brief are =
    let front = run_text price_word items in
    let back = run_text price_word places in
    omega (
      arith,
      length-append word (front ++ (codes " ;" ++ back)),
      length-append front (codes " ;" ++ back),
      run-short items are.small_items,
      run-short places are.small_places,
      are.containers,
      are.positions,
      brief,
    )

-- Cuts ------------------------------------------------------------------------------------------

-- a cut of at most 60 numbers with short prices
pub record IsShortPricedCut (cut : PricedCut) : Type 0 where
  pub prefix : IsFew cut.prefix.items
  pub lower : AreShortPrices cut.prices.lower_items.items cut.prices.lower_places.items
  pub upper : AreShortPrices cut.prices.upper_items.items cut.prices.upper_places.items

module _ (ps : List Position) (names : All (λ (q : Position). IsName q.name) ps) where
  cut-short : (cut : PricedCut) → IsShortPricedCut cut → length (text_of (lines_of_cut ps cut)) ≤ 4300
  cut-short cut is =
      let first = cut_line ps cut.prefix.items in
      let second = lower_line cut.prices in
      let third = upper_line cut.prices in
      let brief = (path-short (codes "cut") ps cut.prefix.items names (omega arith) is.prefix).short in
      omega (
        arith,
        length-append first (10 ∷ text_of (second ∷ third ∷ [])),
        length-append second (10 ∷ text_of (third ∷ [])),
        length-append third (10 ∷ []),
        brief,
        end-short (codes "lower") cut.prices.lower_items.items cut.prices.lower_places.items (omega arith) is.lower,
        end-short (codes "upper") cut.prices.upper_items.items cut.prices.upper_places.items (omega arith) is.upper,
      )

  cuts-short : (cuts : List PricedCut) → All IsShortPricedCut cuts → length (text_of (lines_of_cuts ps cuts)) ≤ 4300 * length cuts
  cuts-short [] are = omega arith
  cuts-short (cut ∷ cuts) are =
      omega (
        arith,
        ap length (text_of-append (lines_of_cut ps cut) (lines_of_cuts ps cuts)),
        length-append (text_of (lines_of_cut ps cut)) (text_of (lines_of_cuts ps cuts)),
        cut-short cut (All-head IsShortPricedCut cut cuts are),
        cuts-short cuts (All-tail IsShortPricedCut cut cuts are),
      )

  -- the text of a certificate takes at most 4,300 bytes for each cut, and 245 for four lines more
  pub priced-short : (c : PricedCertificate) → IfSome (claimed c.claim) (λ path. length path ≤ 60) → All IsShortPricedCut c.cuts → c.expanded ≤ 50000
      → length (priced_certificate_text ps c) ≤ 980 + 4300 * length c.cuts
  priced-short c claim cuts expanded =
      let front : List (List ℕ) = start_line ∷ claim_line ps c.claim ∷ [] in
      let middle = lines_of_cuts ps c.cuts in
      let last = last_lines c.expanded in
      let number = number-short c.expanded (omega (arith, expanded)) in
      let opened = All-cons IsShort start_line (claim_line ps c.claim ∷ []) (record { short = omega arith })
      (All-cons IsShort (claim_line ps c.claim) [] (claim-short ps c.claim names claim) (All-nil IsShort)) in
      let closed = All-cons IsShort (expanded_line c.expanded) (codes "END" ∷ []) (pair-short (codes "expanded") (number_text c.expanded) (omega arith) (omega (arith, number)))
      (All-cons IsShort (codes "END") [] (record { short = omega arith }) (All-nil IsShort)) in
      omega (
        arith,
        ap length (text_of-append front (middle ++ last)),
        length-append (text_of front) (text_of (middle ++ last)),
        ap length (text_of-append middle last),
        length-append (text_of middle) (text_of last),
        text-short front opened,
        text-short last closed,
        cuts-short c.cuts cuts,
      )
