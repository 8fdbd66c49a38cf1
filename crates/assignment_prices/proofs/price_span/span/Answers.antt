use Rattle.std.proofs.Common.{◌≡◌, ℤ, ◌++◌, w64, to_z, of_z, ap₂, sym, ◌∙◌, subst, arith}
use Rattle.std.proofs.lemmas.Int.{ints, to_z-of_z}
use Rattle.hold_limits.specs.Placement.{hold_index}
use Rattle.hold_reach.specs.Choices.{IsWithin}
use Rattle.assignment_prices.specs.Priced.{ArePricesOf, price_span}
use Rattle.assignment_prices.proofs.PriceLemmas.{lower-end, end-lower, upper-end, end-upper, allowed-priced}
use Rattle.assignment_prices.proofs.WayLemmas.{allows-path}
use Rattle.assignment_prices.proofs.price_span.span.Goals as goal

pub returns-in_err-low-clause-none : goal.returns-in_err-low-clause-none
returns-in_err-low-clause-none c =
    rw c.from_residual.ensures (λ are. c.in_err-low.ensures.none
    (rw (c.as_slice.ensures.value, c.as_slice-2.ensures.value) (end-lower _ _ _ _ are.lower_whole are.lower)))

pub returns-in_err-high-clause-none : goal.returns-in_err-high-clause-none
returns-in_err-high-clause-none c =
    rw c.from_residual-in_err-high.ensures (λ are. c.in_err-high.ensures.none
    (rw (c.as_slice-3.ensures.value, c.as_slice-4.ensures.value) (end-upper _ _ _ _ are.upper_whole are.upper)))

-- both ends, as prices and as numbers
pub both : (c : goal.In_ok-high) → ArePricesOf c.args.p.now.task c.args.p.now.prefix c.args.x.now
    × ((to_z w64 (of_z w64 c.in_ok-low.low), to_z w64 (of_z w64 c.in_ok-high.high)) ≡ price_span c.args.p.now.task c.args.p.now.prefix c.args.x.now)
both c =
    let t = c.args.p.now.task in
    let prefix = c.args.p.now.prefix in
    let x = c.args.x.now in
    let low = rw (c.as_slice.ensures.value, c.as_slice-2.ensures.value) at c.in_ok-low.ensures.found in
    let high = rw (c.as_slice-3.ensures.value, c.as_slice-4.ensures.value) at c.in_ok-high.ensures.found in (
      record {
        lower_whole = low.0.whole;
        lower = lower-end t prefix x.lower_items.items x.lower_places.items low.0;
        upper_whole = high.0.whole;
        upper = upper-end t prefix x.upper_items.items x.upper_places.items high.0;
      },
      ap₂ (λ (a b : ℤ). (a, b))
          (to_z-of_z w64 c.in_ok-low.low (omega (arith, ints, c.in_ok-low.ensures.bounded)) ∙ low.1)
          (to_z-of_z w64 c.in_ok-high.high (omega (arith, ints, c.in_ok-high.ensures.bounded)) ∙ high.1),
    )

pub returns-clause-found : goal.returns-clause-found
returns-clause-found c = both c

pub returns-clause-within : goal.returns-clause-within
returns-clause-within c rest admissible rising =
    let t = c.args.p.now.task in
    let prefix = c.args.p.now.prefix in
    let are = both c in
    subst (λ ends. IsWithin ends (hold_index t (prefix ++ rest))) (sym are.1) (allowed-priced t prefix c.args.x.now (hold_index t (prefix ++ rest)) are.0 (allows-path t prefix rest admissible rising))

pub returns-clause-bounded : goal.returns-clause-bounded
returns-clause-bounded c =
    let low = c.in_ok-low.ensures.bounded in
    let high = c.in_ok-high.ensures.bounded in
    rw (to_z-of_z w64 c.in_ok-low.low (omega (arith, ints, low)), to_z-of_z w64 c.in_ok-high.high (omega (arith, ints, high))) (low, high)
