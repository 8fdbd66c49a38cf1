-- how a refusal at a line of a cut, or behind cuts, is a refusal from the first of them on
use Rattle.std.proofs.Common.{◌≡◌, ℕ, ◌+◌, ◌≤◌, ◌++◌, ◌∷◌, List, [], length, refl, sym, ◌∙◌, ap, subst, arith, codes, All, lit≤}
use Rattle.std.proofs.lemmas.List.{append_assoc, length-append}
use Rattle.std.proofs.lemmas.List.Elements.{All-head, All-nil, All-cons, All-append}
use Rattle.arrayvec.specs.ArrayVec.{ArrayVec}
use Rattle.hold_parts.specs.declared.parts.Position.{Position}
use Rattle.text_lines.specs.Cuts.{Avoids}
use Rattle.text_lines.specs.Lines.{text_of, IsStopped}
use Rattle.text_lines.specs.Lines.IsStopped.{at_line, at_end}
use Rattle.text_lines.specs.Grammar.{Begins, Fails, IsOnly}
use Rattle.text_lines.specs.Grammar.Fails.{wrong_line, early_end}
use Rattle.text_lines.specs.Sections.{IsOfKind}
use Rattle.text_lines.specs.declared.fault.LineFault.{LineFault}
use Rattle.text_lines.proofs.GrammarLemmas.{IsStep, fails_earlier}
use Rattle.certificate.specs.CertificateText.{cut_line, expanded_line, IsSpelledPath}
use Rattle.certificate.proofs.LineLemmas.{IsExpanded}
use Rattle.priced_certificate.specs.declared.parts.PricedCut.{PricedCut}
use Rattle.priced_certificate.specs.declared.price_readers.EndPrices.{EndPrices}
use Rattle.priced_certificate.specs.PricedText.{end_line, lower_line, upper_line, lines_of_cut, lines_of_cuts, last_lines, IsSpelledPrice, IsSpelledEnd, IsSpelledCut}
use Rattle.priced_certificate.specs.Reading.{HasNoCutAhead, IsEndLine, AreFromCut}
use Rattle.priced_certificate.proofs.CutLines.{Lines, cut_of, cut_not_expanded, lines_of_cuts-append, cuts_behind}

-- the reader stopped behind these lines, which may begin lines of the kind
pub stopped_behind : {K : Lines → Type 0} {E : List ℕ → Type 0} (done : Lines) (text rest : List ℕ) (number next : ℕ) (fault : LineFault) → Begins K done → (K done → ⊥)
    → ((line after : List ℕ) → rest ≡ line ++ 10 ∷ after → Avoids 10 line → Begins K (done ++ line ∷ []) → E line)
    → text ≡ text_of done ++ rest → next ≡ length done + number → IsStopped rest next E fault → Fails K text number fault
stopped_behind {K} {E} done text rest number next fault begins more right e counted stopped =
    let At : ℕ → Type 0 = λ n. IsStopped rest n E fault in
    of fault (subst At counted stopped)
  where
    of : (f : LineFault) → IsStopped rest (length done + number) E f → Fails K text number f
    of _ (at_line line after is clear wrong) = wrong_line done line after (e ∙ ap (λ t. text_of done ++ t) is) clear begins (λ b. wrong (right line after is clear b))
    of _ (at_end clear) = early_end done rest e clear begins more

-- A cut -----------------------------------------------------------------------------------------

abbrev no_prices : EndPrices
no_prices = record { items = record { items = [] }; places = record { items = [] } }

no_prices_spelled : IsSpelledEnd [] []
no_prices_spelled = record {
  containers = record { few = lit≤ tt; spelled = All-nil IsSpelledPrice };
  positions = record { few = lit≤ tt; spelled = All-nil IsSpelledPrice };
}

-- lines that begin with those of one cut
with_cut : (ps : List Position) (most : ℕ) (cut : PricedCut) → 1 ≤ most → IsSpelledCut ps cut → AreFromCut ps most (lines_of_cut ps cut ++ last_lines 0)
with_cut ps most cut some s = record {
  cuts = cut ∷ [];
  expanded = 0;
  few = some;
  right = All-cons (IsSpelledCut ps) cut [] s (All-nil (IsSpelledCut ps));
  number = lit≤ tt;
  are = refl;
}

-- what a line behind that of a cut says
record GoesOn (ps : List Position) (first : List ℕ) (more : Lines) : Type 0 where
  cut : PricedCut
  rest : Lines
  right : IsSpelledCut ps cut
  are : first ∷ more ≡ lines_of_cut ps cut ++ rest

goes_on : (ps : List Position) (most : ℕ) (path : List ℕ) (more : Lines) → AreFromCut ps most (cut_line ps path ∷ more) → GoesOn ps (cut_line ps path) more
goes_on ps most path more a = of a.cuts a.right a.are
  where
    of : (cuts : List PricedCut) → All (IsSpelledCut ps) cuts → cut_line ps path ∷ more ≡ lines_of_cuts ps cuts ++ last_lines a.expanded → GoesOn ps (cut_line ps path) more
    of [] right e = let head : cut_line ps path ≡ expanded_line a.expanded = cc in absurd (cut_not_expanded ps path a.expanded head)
    of (c ∷ cuts) right e = record { cut = c; rest = lines_of_cuts ps cuts ++ last_lines a.expanded; right = All-head (IsSpelledCut ps) c cuts right; are = e }

pub fails_at_lower : (ps : List Position) (most : ℕ) (prefix : ArrayVec ℕ) (text rest : List ℕ) (number next : ℕ) (fault : LineFault) → 1 ≤ most → IsSpelledPath ps prefix.items → text ≡ cut_line ps prefix.items ++ 10 ∷ rest → next ≡ number + 1
    → IsStopped rest next (IsEndLine (codes "lower")) fault → Fails (AreFromCut ps most) text number fault
fails_at_lower ps most prefix text rest number next fault some right e counted stopped =
    let first = cut_line ps prefix.items in
    let one = cut_of prefix no_prices no_prices in
    let spelled : IsSpelledCut ps one = record { prefix = right; lower = no_prices_spelled; upper = no_prices_spelled } in
    stopped_behind (first ∷ []) text rest number next fault
    (record { more = lower_line one.prices ∷ upper_line one.prices ∷ last_lines 0; kind = with_cut ps most one some spelled })
    (λ a. let g = goes_on ps most prefix.items [] a in let none = g.are in absurd (cc))
    (λ line after is clear b.
    let g = goes_on ps most prefix.items (line ∷ b.more) b.kind in
    let are = g.are in
    let same : line ≡ lower_line g.cut.prices = cc in
    record { items = g.cut.prices.lower_items.items; places = g.cut.prices.lower_places.items; right = g.right.lower; is = same })
    (e ∙ sym (append_assoc first (10 ∷ []) rest)) (omega (arith, counted)) stopped

pub fails_at_upper : (ps : List Position) (most : ℕ) (prefix : ArrayVec ℕ) (lower : EndPrices) (text middle rest : List ℕ) (number at next : ℕ) (fault : LineFault) → 1 ≤ most → IsSpelledPath ps prefix.items → IsSpelledEnd lower.items.items lower.places.items
    → text ≡ cut_line ps prefix.items ++ 10 ∷ middle → at ≡ number + 1 → middle ≡ end_line (codes "lower") lower.items.items lower.places.items ++ 10 ∷ rest → next ≡ at + 1
    → IsStopped rest next (IsEndLine (codes "upper")) fault → Fails (AreFromCut ps most) text number fault
fails_at_upper ps most prefix lower text middle rest number at next fault some right low e counted e' counted' stopped =
    let first = cut_line ps prefix.items in
    let second = end_line (codes "lower") lower.items.items lower.places.items in
    let one = cut_of prefix lower no_prices in
    let spelled : IsSpelledCut ps one = record { prefix = right; lower = low; upper = no_prices_spelled } in
    stopped_behind (first ∷ second ∷ []) text rest number next fault
    (record { more = upper_line one.prices ∷ last_lines 0; kind = with_cut ps most one some spelled })
    (λ a. let g = goes_on ps most prefix.items (second ∷ []) a in let none = g.are in absurd (cc))
    (λ line after is clear b.
    let g = goes_on ps most prefix.items (second ∷ line ∷ b.more) b.kind in
    let are = g.are in
    let same : line ≡ upper_line g.cut.prices = cc in
    record { items = g.cut.prices.upper_items.items; places = g.cut.prices.upper_places.items; right = g.right.upper; is = same })
    (e ∙ ap (λ t. first ++ 10 ∷ t) (e' ∙ sym (append_assoc second (10 ∷ []) rest)) ∙ sym (append_assoc first (10 ∷ (second ++ 10 ∷ [])) rest)) (omega (arith, counted, counted')) stopped

-- Behind cuts -----------------------------------------------------------------------------------

cuts_step : (ps : List Position) (most left : ℕ) (got : List PricedCut) (rest : List ℕ) → All (IsSpelledCut ps) got → length got + left ≡ most → IsStep (AreFromCut ps most) (AreFromCut ps left) (lines_of_cuts ps got) rest
cuts_step ps most left got rest right counted = record {
  forth = λ more a.
      let few = a.few in
      let long = length-append got a.cuts in
      record {
        cuts = got ++ a.cuts;
        expanded = a.expanded;
        few = omega (arith, few, long, counted);
        right = All-append (IsSpelledCut ps) got a.cuts right a.right;
        number = a.number;
        are =
            ap (λ (lines : Lines). lines_of_cuts ps got ++ lines) a.are ∙ sym (append_assoc (lines_of_cuts ps got) (lines_of_cuts ps a.cuts) (last_lines a.expanded))
            ∙ ap (λ (lines : Lines). lines ++ last_lines a.expanded) (sym (lines_of_cuts-append ps got a.cuts));
      };
  back = λ more first a.
      let b = cuts_behind ps got a.cuts a.expanded more a.right a.are in
      let few = a.few in
      let long = b.counted in
      record { cuts = b.left; expanded = a.expanded; few = omega (arith, few, long, counted); right = b.right; number = a.number; are = b.are };
}

pub fails_behind_cuts : (ps : List Position) (most left : ℕ) (got : List PricedCut) (text rest : List ℕ) (number next : ℕ) (fault : LineFault) → All (IsSpelledCut ps) got → length got + left ≡ most
    → text ≡ text_of (lines_of_cuts ps got) ++ rest → next ≡ number + length (lines_of_cuts ps got) → Fails (AreFromCut ps left) rest next fault → Fails (AreFromCut ps most) text number fault
fails_behind_cuts ps most left got text rest number next fault right few e counted fails =
    fails_earlier (AreFromCut ps most) (AreFromCut ps left) (lines_of_cuts ps got) text rest number next fault (cuts_step ps most left got rest right few) e (omega (arith, counted)) fails

-- The last lines --------------------------------------------------------------------------------

abbrev ends_at : (ps : List Position) (left : ℕ) (n : ℕ) → n ≤ 50000 → AreFromCut ps left (last_lines n)
ends_at ps left n small = record { cuts = []; expanded = n; few = omega arith; right = All-nil (IsSpelledCut ps); number = small; are = refl }

-- no cut may come, or none comes
pub fails_at_expanded : (ps : List Position) (left : ℕ) (text : List ℕ) (number : ℕ) (fault : LineFault) → (1 ≤ left → HasNoCutAhead ps text) → IsStopped text number (IsOfKind expanded_line IsExpanded) fault → Fails (AreFromCut ps left) text number fault
fails_at_expanded ps left text number fault stops stopped =
    stopped_behind [] text text number number fault (record { more = last_lines 0; kind = ends_at ps left 0 (lit≤ tt) })
    (λ a. of_none a.cuts a.expanded a.are)
    (λ line after is clear b. of line after is clear b.more b.kind.cuts b.kind.expanded b.kind.few b.kind.right b.kind.number b.kind.are)
    refl (omega arith) stopped
  where
    of_none : (cuts : List PricedCut) (n : ℕ) → [] ≡ lines_of_cuts ps cuts ++ last_lines n → ⊥
    of_none [] n e = absurd (cc)
    of_none (c ∷ cuts) n e = absurd (cc)

    of : (line after : List ℕ) → text ≡ line ++ 10 ∷ after → Avoids 10 line → (more : Lines) (cuts : List PricedCut) (n : ℕ) → length cuts ≤ left → All (IsSpelledCut ps) cuts → n ≤ 50000 → line ∷ more ≡ lines_of_cuts ps cuts ++ last_lines n
        → IsOfKind expanded_line IsExpanded line
    of line after is clear more [] n few right small e = let same : line ≡ expanded_line n = cc in (n, (omega arith, small), same)
    of line after is clear more (c ∷ cuts) n few right small e =
        let same : line ≡ cut_line ps c.prefix.items = cc in
        absurd (stops (omega (arith, few)) line after is clear c.prefix.items (All-head (IsSpelledCut ps) c cuts right).prefix same)

last_step : (ps : List Position) (left n : ℕ) (rest : List ℕ) → n ≤ 50000 → IsStep (AreFromCut ps left) (IsOnly (codes "END")) (expanded_line n ∷ []) rest
last_step ps left n rest small = record {
  forth = λ more e. subst (λ (lines : Lines). AreFromCut ps left (expanded_line n ∷ lines)) (sym e) (ends_at ps left n small);
  back = λ more first a. of more a.cuts a.expanded a.are;
}
  where
    of : (more : Lines) (cuts : List PricedCut) (m : ℕ) → expanded_line n ∷ more ≡ lines_of_cuts ps cuts ++ last_lines m → more ≡ codes "END" ∷ []
    of more [] m e = cc
    of more (c ∷ cuts) m e = let head : expanded_line n ≡ cut_line ps c.prefix.items = cc in absurd (cut_not_expanded ps c.prefix.items n (sym head))

pub fails_behind_expanded : (ps : List Position) (left n : ℕ) (text rest : List ℕ) (number next : ℕ) (fault : LineFault) → n ≤ 50000 → text ≡ expanded_line n ++ 10 ∷ rest → next ≡ number + 1 → Fails (IsOnly (codes "END")) rest next fault → Fails (AreFromCut ps left) text number fault
fails_behind_expanded ps left n text rest number next fault small e counted fails =
    fails_earlier (AreFromCut ps left) (IsOnly (codes "END")) (expanded_line n ∷ []) text rest number next fault (last_step ps left n rest small)
    (e ∙ sym (append_assoc (expanded_line n) (10 ∷ []) rest)) (omega (arith, counted)) fails
