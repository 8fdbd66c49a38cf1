-- the lines of cuts are read in one way only
use Rattle.std.proofs.Common.{◌≡◌, ◌≢◌, ℕ, ◌+◌, ◌<◌, ◌≤◌, ◌++◌, ◌∷◌, List, [], length, refl, sym, ◌∙◌, ap, subst, arith, codes, All, lit≤}
use Rattle.std.proofs.lemmas.List.{append_assoc, append-nil, length-append}
use Rattle.std.proofs.lemmas.List.Elements.{All-head, All-tail, All-nil, All-cons, All-append, All-push}
use Rattle.arrayvec.specs.ArrayVec.{ArrayVec}
use Rattle.hold_parts.specs.declared.parts.Position.{Position}
use Rattle.text_lines.specs.Cuts.{Avoids}
use Rattle.text_lines.specs.Lines.{text_of}
use Rattle.text_lines.proofs.SectionLemmas.{text_of-append}
use Rattle.text_lines.proofs.WordLemmas.{plain_word}
use Rattle.text_lines.proofs.TextCuts.{AreLines}
use Rattle.certificate.specs.CertificateText.{cut_line, expanded_line, IsSpelledPath}
use Rattle.certificate.proofs.PathLemmas.{AreNames}
use Rattle.certificate.proofs.LineLemmas.{first_differs, cuts}
use Rattle.assignment_prices.specs.declared.prices.Prices.{Prices}
use Rattle.priced_certificate.specs.declared.parts.PricedCut.{PricedCut}
use Rattle.priced_certificate.specs.declared.price_readers.EndPrices.{EndPrices}
use Rattle.priced_certificate.specs.PricedText.{end_line, lower_line, upper_line, lines_of_cut, lines_of_cuts, last_lines, IsSpelledEnd, IsSpelledCut}
use Rattle.priced_certificate.specs.Reading.{HasNoCutAhead, IsCutBetween, AreCutsBetween}
use Rattle.priced_certificate.proofs.EndLines.{end_once, end_avoids}

abbrev pub Lines : Type 0
Lines = List (List ℕ)

-- the line of a cut is not the one behind all cuts
pub cut_not_expanded : (ps : List Position) (path : List ℕ) (n : ℕ) → cut_line ps path ≢ expanded_line n
cut_not_expanded ps path n = first_differs (codes "cut") (expanded_line n) ps path (λ f. absurd (omega (arith, f)))

-- Cuts behind cuts ------------------------------------------------------------------------------

pub lines_of_cuts-append : (ps : List Position) (xs ys : List PricedCut) → lines_of_cuts ps (xs ++ ys) ≡ lines_of_cuts ps xs ++ lines_of_cuts ps ys
lines_of_cuts-append ps [] ys = refl
lines_of_cuts-append ps (x ∷ xs) ys = ap (λ (more : Lines). lines_of_cut ps x ++ more) (lines_of_cuts-append ps xs ys)

-- the lines behind those of some cuts are the lines of the other cuts, and what follows them
pub record AreBehind (ps : List Position) (got cuts : List PricedCut) (n : ℕ) (more : Lines) : Type 0 where
  pub left : List PricedCut
  pub are : more ≡ lines_of_cuts ps left ++ last_lines n
  pub right : All (IsSpelledCut ps) left
  pub counted : length cuts ≡ length got + length left

pub cuts_behind : (ps : List Position) (got cuts : List PricedCut) (n : ℕ) (more : Lines) → All (IsSpelledCut ps) cuts → lines_of_cuts ps got ++ more ≡ lines_of_cuts ps cuts ++ last_lines n → AreBehind ps got cuts n more
cuts_behind ps [] cuts n more right e = record { left = cuts; are = e; right = right; counted = omega arith }
cuts_behind ps (g ∷ got) [] n more right e =
    let head : cut_line ps g.prefix.items ≡ expanded_line n = cc in absurd (cut_not_expanded ps g.prefix.items n head)
cuts_behind ps (g ∷ got) (c ∷ cuts) n more right e =
    let tails : lines_of_cuts ps got ++ more ≡ lines_of_cuts ps cuts ++ last_lines n = cc in
    let again = cuts_behind ps got cuts n more (All-tail (IsSpelledCut ps) c cuts right) tails in
    let long = again.counted in
    record { left = again.left; are = again.are; right = again.right; counted = omega (arith, long) }

-- One way ---------------------------------------------------------------------------------------

module _ (ps : List Position) (names : AreNames ps) where
  prices_once : (p q : Prices) (a b : PricedCut) → a.prices ≡ p → b.prices ≡ q → IsSpelledCut ps a → IsSpelledCut ps b → lower_line p ≡ lower_line q → upper_line p ≡ upper_line q → p ≡ q
  prices_once p q a b is is' s t lower upper =
      let low = end_once (codes "lower") p.lower_items.items p.lower_places.items q.lower_items.items q.lower_places.items (rw is at s.lower) (rw is' at t.lower) lower in
      let up = end_once (codes "upper") p.upper_items.items p.upper_places.items q.upper_items.items q.upper_places.items (rw is at s.upper) (rw is' at t.upper) upper in
      λ i. record { lower_items = record { items = low.0 i }; lower_places = record { items = low.1 i }; upper_items = record { items = up.0 i }; upper_places = record { items = up.1 i } }

  cut_once : (c d : PricedCut) → IsSpelledCut ps c → IsSpelledCut ps d → cut_line ps c.prefix.items ≡ cut_line ps d.prefix.items → lower_line c.prices ≡ lower_line d.prices → upper_line c.prices ≡ upper_line d.prices → c ≡ d
  cut_once c d s t first lower upper =
      let path = (cuts ps names).once c.prefix.items d.prefix.items s.prefix t.prefix first in
      let same = prices_once c.prices d.prices c d refl refl s t lower upper in
      λ i. record { prefix = record { items = path i }; prices = same i }

  pub cuts_once : (xs ys : List PricedCut) (n m : ℕ) (more : Lines) → All (IsSpelledCut ps) xs → All (IsSpelledCut ps) ys → lines_of_cuts ps xs ++ (expanded_line n ∷ more) ≡ lines_of_cuts ps ys ++ last_lines m
      → (xs ≡ ys) × (expanded_line n ∷ more ≡ last_lines m)
  cuts_once [] [] n m more p q e = (refl, e)
  cuts_once [] (y ∷ ys) n m more p q e = let head : expanded_line n ≡ cut_line ps y.prefix.items = cc in absurd (cut_not_expanded ps y.prefix.items n (sym head))
  cuts_once (x ∷ xs) [] n m more p q e = let head : cut_line ps x.prefix.items ≡ expanded_line m = cc in absurd (cut_not_expanded ps x.prefix.items m head)
  cuts_once (x ∷ xs) (y ∷ ys) n m more p q e =
      let first : cut_line ps x.prefix.items ≡ cut_line ps y.prefix.items = cc in
      let lower : lower_line x.prices ≡ lower_line y.prices = cc in
      let upper : upper_line x.prices ≡ upper_line y.prices = cc in
      let tails : lines_of_cuts ps xs ++ (expanded_line n ∷ more) ≡ lines_of_cuts ps ys ++ last_lines m = cc in
      let same = cut_once x y (All-head (IsSpelledCut ps) x xs p) (All-head (IsSpelledCut ps) y ys q) first lower upper in
      let again = cuts_once xs ys n m more (All-tail (IsSpelledCut ps) x xs p) (All-tail (IsSpelledCut ps) y ys q) tails in
      (λ i. same i ∷ again.0 i, again.1)

  -- each line is one line
  cut_clear : (c : PricedCut) → IsSpelledCut ps c → AreLines (lines_of_cut ps c)
  cut_clear c s =
      let lower = end_avoids (codes "lower") c.prices.lower_items.items c.prices.lower_places.items (plain_word 10 (codes "lower") refl) s.lower in
      let upper = end_avoids (codes "upper") c.prices.upper_items.items c.prices.upper_places.items (plain_word 10 (codes "upper") refl) s.upper in
      All-cons (Avoids 10) (cut_line ps c.prefix.items) (lower_line c.prices ∷ upper_line c.prices ∷ []) ((cuts ps names).avoids c.prefix.items s.prefix)
      (All-cons (Avoids 10) (lower_line c.prices) (upper_line c.prices ∷ []) lower (All-cons (Avoids 10) (upper_line c.prices) [] upper (All-nil (Avoids 10))))

  pub cuts_clear : (cs : List PricedCut) → All (IsSpelledCut ps) cs → AreLines (lines_of_cuts ps cs)
  cuts_clear [] s = All-nil (Avoids 10)
  cuts_clear (c ∷ cs) s = All-append (Avoids 10) (lines_of_cut ps c) (lines_of_cuts ps cs) (cut_clear c (All-head (IsSpelledCut ps) c cs s)) (cuts_clear cs (All-tail (IsSpelledCut ps) c cs s))

-- What was read ---------------------------------------------------------------------------------

abbrev pub cut_of : ArrayVec ℕ → EndPrices → EndPrices → PricedCut
cut_of prefix lower upper = record {
  prefix = prefix;
  prices = record { lower_items = lower.items; lower_places = lower.places; upper_items = upper.items; upper_places = upper.places };
}

-- a line that is split off, and what it is
pub first_line : {text line is : List ℕ} (rest : List ℕ) → text ≡ line ++ 10 ∷ rest → line ≡ is → text ≡ is ++ 10 ∷ rest
first_line rest e same = e ∙ ap (λ t. t ++ 10 ∷ rest) same

three_lines : (a b c text one two three : List ℕ) → text ≡ a ++ 10 ∷ one → one ≡ b ++ 10 ∷ two → two ≡ c ++ 10 ∷ three → text ≡ text_of (a ∷ b ∷ c ∷ []) ++ three
three_lines a b c text one two three e1 e2 e3 = rw (e1, e2, e3) (simp append_assoc)

pub cut_read : (ps : List Position) (prefix : ArrayVec ℕ) (lower upper : EndPrices) (text one two three : List ℕ) (number n1 n2 n3 : ℕ) → IsSpelledPath ps prefix.items → text ≡ cut_line ps prefix.items ++ 10 ∷ one → n1 ≡ number + 1
    → IsSpelledEnd lower.items.items lower.places.items × (one ≡ end_line (codes "lower") lower.items.items lower.places.items ++ 10 ∷ two) → n2 ≡ n1 + 1
    → IsSpelledEnd upper.items.items upper.places.items × (two ≡ end_line (codes "upper") upper.items.items upper.places.items ++ 10 ∷ three) → n3 ≡ n2 + 1
    → IsCutBetween ps text three number n3 (cut_of prefix lower upper)
cut_read ps prefix lower upper text one two three number n1 n2 n3 right e1 c1 low c2 up c3 = record {
  right = record { prefix = right; lower = low.0; upper = up.0 };
  read =
      three_lines (cut_line ps prefix.items) (end_line (codes "lower") lower.items.items lower.places.items) (end_line (codes "upper") upper.items.items upper.places.items) text one two three e1 low.1 up.1;
  counted = omega (arith, c1, c2, c3);
}

-- cuts that were read one after another
pub record AreReadSoFar (ps : List Position) (before after : List ℕ) (number next : ℕ) (cuts : List PricedCut) : Type 0 where
  pub right : All (IsSpelledCut ps) cuts
  pub few : length cuts ≤ 32000
  pub read : before ≡ text_of (lines_of_cuts ps cuts) ++ after
  pub counted : next ≡ number + length (lines_of_cuts ps cuts)

pub one_more_read : (ps : List Position) (before rest after : List ℕ) (number at next : ℕ) (cuts new : List PricedCut) (cut : PricedCut) → AreReadSoFar ps before rest number at cuts → length cuts < 32000 → IsCutBetween ps rest after at next cut → new ≡ cuts ++ cut ∷ []
    → AreReadSoFar ps before after number next new
one_more_read ps before rest after number at next cuts new cut so room one grew =
    let lines : lines_of_cuts ps (cuts ++ cut ∷ []) ≡ lines_of_cuts ps cuts ++ lines_of_cut ps cut =
    lines_of_cuts-append ps cuts (cut ∷ []) ∙ ap (λ (more : Lines). lines_of_cuts ps cuts ++ more) (append-nil (lines_of_cut ps cut)) in
    let text = ap text_of lines ∙ text_of-append (lines_of_cuts ps cuts) (lines_of_cut ps cut) in
    let long = length-append cuts (cut ∷ []) in
    let count = ap length lines ∙ length-append (lines_of_cuts ps cuts) (lines_of_cut ps cut) in
    let old = so.counted in
    let now = one.counted in
    let more : AreReadSoFar ps before after number next (cuts ++ cut ∷ []) = record {
      right = All-push (IsSpelledCut ps) cuts cut so.right one.right;
      few = omega (arith, long, room);
      read =
          so.read ∙ ap (λ t. text_of (lines_of_cuts ps cuts) ++ t) one.read ∙ sym (append_assoc (text_of (lines_of_cuts ps cuts)) (text_of (lines_of_cut ps cut)) after)
          ∙ ap (λ t. t ++ after) (sym text);
      counted = omega (arith, count, old, now);
    } in
    subst (AreReadSoFar ps before after number next) (sym grew) more

pub none_so_far : (ps : List Position) (text : List ℕ) (number : ℕ) → AreReadSoFar ps text text number number []
none_so_far ps text number = record { right = All-nil (IsSpelledCut ps); few = lit≤ tt; read = refl; counted = omega arith }

pub cuts_end : (ps : List Position) (before after : List ℕ) (number next : ℕ) (cuts : List PricedCut) → AreReadSoFar ps before after number next cuts → (length cuts < 32000 → HasNoCutAhead ps after) → AreCutsBetween ps before after number next cuts
cuts_end ps before after number next cuts so stops = record { right = so.right; few = so.few; read = so.read; counted = so.counted; stops = stops }
