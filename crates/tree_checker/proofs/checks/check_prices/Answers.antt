use Rattle.std.proofs.Common.{◌≡◌, false, map, Option, Some, None, refl, sym, ap, ◌∙◌, subst, arith}
use Rattle.std.proofs.lemmas.Bool.{false≢true}
use Rattle.std.proofs.lemmas.List.{take_all, length-map}
use Rattle.std.proofs.lemmas.Option.{slice_get-get_or}
use Rattle.std.specs.Prelude.{All, is_some}
use Rattle.tree_certificate.specs.Listed.{ListedPrices, listed_prices}
use Rattle.choice_prices.specs.Listing.{ArePriced}
use Rattle.tree_checker.proofs.FirstPlaces.{All-more}
use Rattle.tree_checker.proofs.PlaceLemmas.{mapped-at}
use Rattle.tree_checker.proofs.checks.check_prices.Goals as goal

is-none : {A : Type 0} (o : Option A) → is_some o ≡ false → o ≡ None
is-none None none = refl
is-none (Some x) none = absurd (false≢true (sym none))

pub loop-at-preserved : goal.loop-at-preserved
loop-at-preserved c =
    let prices = c.args.prices.now in
    let at = c.loop-at.at in
    let list = c.index-prices-at.result in
    let there = slice_get-get_or prices at list (omega (arith, c.loop-at-test.true)) ∙ ap (λ x. Some x) (sym c.index-prices-at.is) in
    All-more ListedPrices (ArePriced c.args.task.now.hold c.args.cliques) (map listed_prices prices) at (listed_prices list) (mapped-at listed_prices prices at list there) c.loop-at.invariant
    (c.price_fault.ensures.meaning.0 (is-none c.price_fault.result (sym c.is_some.ensures ∙ c.if-is_some.false)))

pub returns-clause-hold : goal.returns-clause-hold
returns-clause-hold c =
    let lists = map listed_prices c.args.prices.now in
    subst (All (ArePriced c.args.task.now.hold c.args.cliques)) (take_all c.loop-at.at lists (omega (arith, c.loop-at-test.false, length-map c.args.prices.now listed_prices))) c.loop-at.invariant
