use Rattle.std.proofs.Common.{◌≡◌, ◌↔◌, Option, List, ℕ, ℤ, ap₂, get_or, sym, ◌∙◌, subst}
use Rattle.std.proofs.lemmas.Bool.{false≢true}
use Rattle.std.proofs.lemmas.Option.{slice_get-get_or}
use Rattle.std.specs.Prelude.{AllPairs}
use Rattle.hold_limits.specs.Problem.{Problem}
use Rattle.certificate.specs.Good.{AreInOrder}
use Rattle.cert_checker.specs.Evidence.{claim_in}
use Rattle.cert_checker.specs.FirstReason.{CanBeCut}
use Rattle.priced_certificate.specs.declared.parts.PricedCut.{PricedCut}
use Rattle.priced_checker.specs.Good.{prefix_of, IsPriced, IsBeyond, IsIdle}
use Rattle.assignment_prices.specs.Priced.{ArePricesOf, price_span}
use Rattle.assignment_prices.proofs.SpanLemmas.{some-at}
use Rattle.priced_checker.proofs.CutLemmas.{prefixes-take, prefix-stands, holds-next}
use Rattle.priced_checker.proofs.cuts.fault_of_cut.Goals as goal

pub is_in_order-requires-clause-rising : goal.is_in_order-requires-clause-rising
is_in_order-requires-clause-rising c = subst (AllPairs AreInOrder) (sym (prefixes-take c.args.at c.args.evidence.now.cuts.now)) c.requires.before.rising

pub returns-then-not-is_in_order-clause-fails : goal.returns-then-not-is_in_order-clause-fails
returns-then-not-is_in_order-clause-fails c =
    let cuts = c.args.evidence.now.cuts.now in
    let cut = some-at cuts c.args.at c.requires.within in (
      cut.0,
      record { stands = cut.1; before = c.requires.before },
      λ order. false≢true (sym c.if-not-is_in_order.true ∙ (c.is_in_order.ensures (prefix_of cut.0) (prefix-stands cuts c.args.at cut.0 cut.1)).1 order),
    )

pub returns-in_default-clause-fails : goal.returns-in_default-clause-fails
returns-in_default-clause-fails c =
    let cuts = c.args.evidence.now.cuts.now in
    let cut = get_or cuts c.args.at c.index-evidence-at.result in
    let stands = slice_get-get_or cuts c.args.at c.index-evidence-at.result c.requires.within in (
      cut,
      record { stands = stands; before = c.requires.before },
      (c.is_in_order.ensures (prefix_of cut) (prefix-stands cuts c.args.at cut stands)).0 c.if-not-is_in_order.false,
      subst (λ p. CanBeCut c.args.partial.now.task p → ⊥) c.as_slice-prefix.ensures.value c.in_default.ensures.none,
    )

-- where the placement has moved to the prefix of the cut
moved : (t u : Problem) (cut : PricedCut) (prefix placed : List ℕ) → u ≡ t → placed ≡ prefix → prefix ≡ prefix_of cut → ArePricesOf u placed cut.prices → IsPriced t cut
moved t u cut prefix placed same is of_cut priced = subst (λ w. ArePricesOf w (prefix_of cut) cut.prices) same (subst (λ p. ArePricesOf u p cut.prices) (is ∙ of_cut) priced)

moved-back : (t u : Problem) (cut : PricedCut) (prefix placed : List ℕ) → u ≡ t → placed ≡ prefix → prefix ≡ prefix_of cut → IsPriced t cut → ArePricesOf u placed cut.prices
moved-back t u cut prefix placed same is of_cut priced = subst (λ w. ArePricesOf w placed cut.prices) (sym same) (subst (λ p. ArePricesOf t p cut.prices) (sym (is ∙ of_cut)) priced)

idle-moved : (t u w : Problem) (claim : Option (List ℕ)) (cut : PricedCut) (prefix placed : List ℕ) (ends : ℤ × ℤ) → w ≡ u → u ≡ t → placed ≡ prefix → prefix ≡ prefix_of cut
    → ends ≡ price_span u placed cut.prices → IsBeyond w claim prefix ends ↔ IsIdle t claim cut
idle-moved t u w claim cut prefix placed ends known same is of_cut are =
    let whole : ends ≡ price_span t (prefix_of cut) cut.prices = are ∙ ap₂ (λ v p. price_span v p cut.prices) same (is ∙ of_cut) in (
      λ beyond. subst (λ p. IsBeyond t claim p (price_span t (prefix_of cut) cut.prices)) of_cut (subst (IsBeyond t claim prefix) whole (subst (λ v. IsBeyond v claim prefix ends) (known ∙ same) beyond)),
      λ idle. subst (λ v. IsBeyond v claim prefix ends) (sym (known ∙ same)) (subst (IsBeyond t claim prefix) (sym whole) (subst (λ p. IsBeyond t claim p (price_span t (prefix_of cut) cut.prices)) (sym of_cut) idle)),
    )

pub returns-in_default-span-clause-fails : goal.returns-in_default-span-clause-fails
returns-in_default-span-clause-fails c =
    let cuts = c.args.evidence.now.cuts.now in
    let cut = get_or cuts c.args.at c.index-evidence-at.result in
    let t = c.args.partial.now.task in
    let stands = slice_get-get_or cuts c.args.at c.index-evidence-at.result c.requires.within in
    let of_cut = c.as_slice-prefix.ensures.value in (
      cut,
      record { stands = stands; before = c.requires.before },
      (c.is_in_order.ensures (prefix_of cut) (prefix-stands cuts c.args.at cut stands)).0 c.if-not-is_in_order.false,
      subst (CanBeCut t) of_cut c.in-Some.ensures.found.0,
      λ priced. c.in_default-span.ensures.none (moved-back t c.cut_bound.new.partial.task cut c.as_slice-prefix.result.now c.cut_bound.new.partial.prefix
          c.in-Some.ensures.task c.in-Some.ensures.placed of_cut priced),
    )

pub returns-then-not-is_beyond-clause-fails : goal.returns-then-not-is_beyond-clause-fails
returns-then-not-is_beyond-clause-fails c =
    let cuts = c.args.evidence.now.cuts.now in
    let cut = get_or cuts c.args.at c.index-evidence-at.result in
    let t = c.args.partial.now.task in
    let u = c.cut_bound.new.partial.task in
    let prefix = c.as_slice-prefix.result.now in
    let placed = c.cut_bound.new.partial.prefix in
    let stands = slice_get-get_or cuts c.args.at c.index-evidence-at.result c.requires.within in
    let of_cut = c.as_slice-prefix.ensures.value in
    let both = idle-moved t u c.task.result.now (claim_in c.args.evidence.now) cut prefix placed c.in-Some-span.ends c.task.ensures.value c.in-Some.ensures.task c.in-Some.ensures.placed of_cut c.in-Some-span.ensures.found.1 in (
      cut,
      record { stands = stands; before = c.requires.before },
      (c.is_in_order.ensures (prefix_of cut) (prefix-stands cuts c.args.at cut stands)).0 c.if-not-is_in_order.false,
      subst (CanBeCut t) of_cut c.in-Some.ensures.found.0,
      moved t u cut prefix placed c.in-Some.ensures.task c.in-Some.ensures.placed of_cut c.in-Some-span.ensures.found.0,
      λ idle. false≢true (sym c.if-not-is_beyond.true ∙ c.is_beyond.ensures.1 (both.1 idle)),
    )

pub returns-clause-holds : goal.returns-clause-holds
returns-clause-holds c =
    let cuts = c.args.evidence.now.cuts.now in
    let cut = get_or cuts c.args.at c.index-evidence-at.result in
    let t = c.args.partial.now.task in
    let u = c.cut_bound.new.partial.task in
    let prefix = c.as_slice-prefix.result.now in
    let placed = c.cut_bound.new.partial.prefix in
    let stands = slice_get-get_or cuts c.args.at c.index-evidence-at.result c.requires.within in
    let of_cut = c.as_slice-prefix.ensures.value in
    let both = idle-moved t u c.task.result.now (claim_in c.args.evidence.now) cut prefix placed c.in-Some-span.ends c.task.ensures.value c.in-Some.ensures.task c.in-Some.ensures.placed of_cut c.in-Some-span.ensures.found.1 in
    holds-next t (claim_in c.args.evidence.now) cuts c.args.at cut c.requires.within stands c.requires.before
    ((c.is_in_order.ensures (prefix_of cut) (prefix-stands cuts c.args.at cut stands)).0 c.if-not-is_in_order.false)
    (subst (CanBeCut t) of_cut c.in-Some.ensures.found.0)
    (moved t u cut prefix placed c.in-Some.ensures.task c.in-Some.ensures.placed of_cut c.in-Some-span.ensures.found.0)
    (both.0 (c.is_beyond.ensures.0 c.if-not-is_beyond.false))
