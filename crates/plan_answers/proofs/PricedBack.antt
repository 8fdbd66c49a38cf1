-- What `priced` prints is the text of its certificate.
use Rattle.std.proofs.Common.{◌≡◌, ℕ, ◌<◌, ◌≤◌, ℤ, List, [], ◌++◌, length, get_or, refl, sym, ap, subst, arith, unsigned_abs}
use Rattle.std.proofs.lemmas.List.{length-append, length-map, get_or-map}
use Rattle.std.proofs.lemmas.List.Elements.{All-weaker}
use Rattle.std.proofs.lemmas.Option.{IfSome_then}
use Rattle.std.specs.Prelude.{All, IfSome}
use Rattle.hold_limits.specs.Problem.{Problem}
use Rattle.hold_limits.specs.Faults.{IsLawful}
use Rattle.hold_limits.proofs.LawfulBounds.{hold-bounds, lawful-bounds}
use Rattle.hold_limits.proofs.SoundLemmas.{IsSound-within}
use Rattle.hold_reach.specs.Reach.{IsViable}
use Rattle.text_lines.specs.Lines.{text_of}
use Rattle.certificate.specs.Evidence.{claimed}
use Rattle.certificate.specs.Good.{AreAtMost}
use Rattle.certificate.specs.Starts.{IsEarlier}
use Rattle.certificate.proofs.WriterLemmas.{first_named}
use Rattle.assignment_prices.specs.Priced.{AreSmall, AreWhole}
use Rattle.assignment_prices.proofs.SpanLemmas.{length-remaining}
use Rattle.priced_certificate.specs.declared.parts.PricedCut.{PricedCut}
use Rattle.priced_certificate.specs.declared.parts.PricedCertificate.{PricedCertificate}
use Rattle.priced_certificate.specs.PricedText.{start_line, priced_certificate_text, IsSpelledPrice, IsSpelledEnd, IsSpelledCut, Spells}
use Rattle.priced_certificate.proofs.WriterLemmas.{written_spells}
use Rattle.priced_checker.specs.Good.{prefix_of, IsPriced, IsGoodPricedFor}
use Rattle.priced_placer.specs.PriceNear.{IsPriceNear, IsPriceNearCertificate}
use Rattle.priced_placer.specs.AnswerText.{priced_text}
use Rattle.task_answers.specs.Limits.{longest_priced}
use Rattle.task_answers.specs.Names.{IsNamedTask}
use Rattle.plan_answers.specs.PricedReply.{IsPricedIn}
use Rattle.task_answers.proofs.AnswerLines.{IsTold, told-earlier, claim_lines, claim_text-lines, claim-told}
use Rattle.plan_answers.proofs.PricedCounts.{price-few_cuts, price-few_expanded}
use Rattle.plan_answers.proofs.PricedShort.{AreShortPrices, IsShortPricedCut, priced-short}
use Rattle.task_answers.proofs.ReadBack.{claimed_sound, claim-spelled}
use Rattle.task_answers.proofs.ShortText.{IsFew, text-short, claimed-short}

-- Cuts ------------------------------------------------------------------------------------------

module _ (t : Problem) (lawful : IsLawful t) where
  prices-short : (prefix : List ℕ) (items places : List ℤ) → AreWhole t prefix items places → AreShortPrices items places
  prices-short prefix items places whole =
      let bounds = lawful-bounds t lawful in
      record {
        containers = omega (arith, whole.one_each, length-remaining t prefix, bounds.items);
        positions = omega (arith, whole.one_place, bounds.positions);
        small_items = whole.small_items;
        small_places = whole.small_places;
      }

  few : (prefix : List ℕ) → IsViable t prefix → IsFew prefix
  few prefix viable = let short = viable.sound.short in omega (arith, short, (lawful-bounds t lawful).items)

  cut-short : (cut : PricedCut) → IsViable t (prefix_of cut) → IsPriced t cut → IsShortPricedCut cut
  cut-short cut viable priced = record {
    prefix = few (prefix_of cut) viable;
    lower = prices-short (prefix_of cut) cut.prices.lower_items.items cut.prices.lower_places.items priced.lower_whole;
    upper = prices-short (prefix_of cut) cut.prices.upper_items.items cut.prices.upper_places.items priced.upper_whole;
  }

  small-spelled : (prices : List ℤ) → AreSmall prices → All IsSpelledPrice prices
  small-spelled prices small = All-weaker (λ z. unsigned_abs z ≤ 10000000000000) IsSpelledPrice (λ z low. omega (arith, low)) prices small

  end-spelled : (items places : List ℤ) → AreShortPrices items places → IsSpelledEnd items places
  end-spelled items places are = record {
    containers = record { few = are.containers; spelled = small-spelled items are.small_items };
    positions = record { few = are.positions; spelled = small-spelled places are.small_places };
  }

  cut-spelled : (cut : PricedCut) → IsViable t (prefix_of cut) → IsPriced t cut → IsSpelledCut t.hold.positions cut
  cut-spelled cut viable priced =
      let ps = t.hold.positions in
      let differ = (hold-bounds t.hold lawful.hold).names in
      let short = cut-short cut viable priced in
      record {
        prefix = record {
          few = short.prefix;
          named = All-weaker (λ q. q < length ps) _ (first_named ps differ) (prefix_of cut) (IsSound-within t (prefix_of cut) viable.sound);
        };
        lower = end-spelled cut.prices.lower_items.items cut.prices.lower_places.items short.lower;
        upper = end-spelled cut.prices.upper_items.items cut.prices.upper_places.items short.upper;
      }

  -- The whole text --------------------------------------------------------------------------------

  -- what the search ends with, if it looks at no more than 500 prefixes, fits a file and is its text
  pub prices-read_back : (budget : ℕ) (c : PricedCertificate) → IsNamedTask t → IsPriceNearCertificate t c → IsGoodPricedFor t c → AreAtMost (IsPriceNear t) budget
      → budget ≤ 500 → IsPricedIn t (priced_text t c) c
  prices-read_back budget c named near good enough low =
      let ps = t.hold.positions in
      let lines = claim_lines t (claimed c.claim) in
      let told = claim-told t (claimed c.claim) named (claimed_sound t (claimed c.claim) good.covers.admissible) in
      let earlier = All-weaker IsTold (IsEarlier start_line) (λ line is. told-earlier start_line line refl is) lines told in
      let same : priced_text t c ≡ text_of lines ++ priced_certificate_text ps c = ap (λ text. text ++ priced_certificate_text ps c) (claim_text-lines t (claimed c.claim)) in
      let number = price-few_expanded t budget c near enough in
      let few_cuts : length c.cuts ≤ 32000 = omega (arith, price-few_cuts t c lawful near good.covers.rising (omega (arith, number, low)), length-map c.cuts prefix_of) in
      let viable : All (λ (cut : PricedCut). IsViable t (prefix_of cut)) c.cuts = λ k d within.
      subst (IsViable t) (get_or-map prefix_of c.cuts k d [] within) (good.covers.viable k [] (omega (arith, within, length-map c.cuts prefix_of))) in
      let short : All IsShortPricedCut c.cuts = λ k d within. cut-short (get_or c.cuts k d) (viable k d within) (good.priced k d within) in
      let spelled : All (IsSpelledCut ps) c.cuts = λ k d within. cut-spelled (get_or c.cuts k d) (viable k d within) (good.priced k d within) in
      let path : IfSome (claimed c.claim) IsFew = IfSome_then (claimed c.claim) good.covers.admissible (λ path is. let brief = is.sound.short in omega (arith, brief, (lawful-bounds t lawful).items)) in
      let expanded : c.expanded ≤ 50000 = omega (arith, number, low) in
      let plan = claimed-short t (claimed c.claim) lawful named good.covers.admissible in
      let front = text-short lines plan.all in
      let back = priced-short ps named.names c path short expanded in
      let whole = length-append (text_of lines) (priced_certificate_text ps c) in
      record {
        short = subst (λ text. length text ≤ longest_priced) (sym same) (omega (arith, plan.few, front, back, whole, few_cuts));
        spelled = subst (λ text. Spells ps text c) (sym same)
            (written_spells ps c (record { claim = claim-spelled t c.claim lawful good.covers.admissible; cuts = spelled; few = few_cuts; expanded = expanded }) lines earlier);
      }
