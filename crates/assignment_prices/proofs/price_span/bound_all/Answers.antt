use Rattle.std.proofs.Common.{refl, sym, ◌∙◌, arith}
use Rattle.std.proofs.lemmas.Bool.{false≢true}
use Rattle.hold_reach.specs.Reach.{remaining}
use Rattle.assignment_prices.specs.Steps.{Bounds}
use Rattle.assignment_prices.proofs.SpanLemmas.{AllZip-from_places, AllZip-at, some-at}
use Rattle.std.proofs.lemmas.Option.{slice_get_within}
use Rattle.assignment_prices.proofs.price_span.bound_all.Goals as goal

pub returns-then-not-bounds : goal.returns-then-not-bounds
returns-then-not-bounds c =
    let t = c.args.partial.now.task in
    let prefix = c.args.partial.now.prefix in
    let items = c.args.half.now.items.now in
    let R = Bounds c.args.half.now.end t prefix c.args.half.now.places.now in
    let price = some-at items c.loop-at.at c.loop-at-test.true in
    let item = some-at (remaining t prefix) c.loop-at.at (omega (arith, c.loop-at-test.true, c.requires.one_each)) in (
      λ yes. absurd (false≢true yes),
      λ all. absurd (false≢true (sym c.if-not-bounds.true ∙ (c.bounds.ensures item.0 price.0 item.1 price.1).1 (AllZip-at R (remaining t prefix) items c.loop-at.at item.0 price.0 all item.1 price.1))),
    )

pub returns : goal.returns
returns c =
    let t = c.args.partial.now.task in
    let prefix = c.args.partial.now.prefix in
    let items = c.args.half.now.items.now in
    let R = Bounds c.args.half.now.end t prefix c.args.half.now.places.now in (
      λ yes. AllZip-from_places R (remaining t prefix) items c.requires.one_each
          (λ k item price there priced. c.loop-at.invariant k item price (omega (arith, slice_get_within items k price priced, c.loop-at-test.false)) there priced),
      λ all. refl,
    )
