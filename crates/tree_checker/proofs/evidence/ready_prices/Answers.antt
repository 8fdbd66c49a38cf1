use Rattle.std.proofs.Common.{map, length, Some, sym, ap, ◌∙◌}
use Rattle.std.proofs.lemmas.Bool.{false≢true}
use Rattle.tree_certificate.specs.Listed.{ListedPrices, listed_prices}
use Rattle.choice_prices.specs.Listing.{ArePriced, prices_of}
use Rattle.choice_prices.specs.Pricing.{Pricing}
use Rattle.tree_checker.proofs.FirstPlaces.{at-place}
use Rattle.tree_checker.proofs.PlaceLemmas.{mapped-at, looked-up}
use Rattle.tree_checker.proofs.evidence.ready_prices.Goals as goal

pub unreachable-requires : goal.unreachable-requires
unreachable-requires c =
    let e = c.args.evidence.now in
    let found = looked-up e.prices.now c.args.place c.in_ok-list.list.now c.in_ok-list.ensures.lookup.0 c.in_ok-list.ensures.lookup.1 in
    let priced = at-place ListedPrices (ArePriced e.task.now.hold (length e.cliques.now)) (map listed_prices e.prices.now) c.args.place _ c.requires.ready.priced (mapped-at listed_prices e.prices.now c.args.place c.in_ok-list.list.now found) in
    false≢true (c.in-Err.ensures.right.1 priced)

pub returns : goal.returns
returns c =
    let e = c.args.evidence.now in
    let found = looked-up e.prices.now c.args.place c.in_ok-list.list.now c.in_ok-list.ensures.lookup.0 c.in_ok-list.ensures.lookup.1 in (
      ap (λ (p : Pricing). p.task) c.in-Ok.ensures.made,
      mapped-at (prices_of e.task.now.hold e.cliques.now) (map listed_prices e.prices.now) c.args.place _ (mapped-at listed_prices e.prices.now c.args.place c.in_ok-list.list.now found)
          ∙ ap (λ (p : Pricing). Some p.prices) (sym c.in-Ok.ensures.made),
    )
