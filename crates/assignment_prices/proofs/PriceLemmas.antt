-- what prices show of ways, and the two ends as one question
use Rattle.std.proofs.Common.{ℕ, ℤ, pos, ◌+ℤ◌, ◌-ℤ◌, ◌≤ℤ◌, List, arith}
use Rattle.std.proofs.lemmas.Int.{ints}
use Rattle.std.proofs.lemmas.List.Elements.{All-weaker}
use Rattle.hold_limits.specs.Problem.{Problem}
use Rattle.hold_limits.specs.Placement.{placed_moment}
use Rattle.hold_reach.specs.Reach.{remaining, IsOpen}
use Rattle.hold_reach.specs.Choices.{IsWithin}
use Rattle.assignment.specs.Prices.{AreLowerPrices, AreUpperPrices, price_at}
use Rattle.assignment.proofs.WeakDuality.{lower-bounds, upper-bounds}
use Rattle.assignment_prices.specs.TightReach.{AllowsTightly}
use Rattle.assignment_prices.specs.Priced.{AreWhole, ArePricesOf, price_span}
use Rattle.assignment_prices.specs.Steps.{Bounds, BoundEnd}
use Rattle.assignment_prices.specs.declared.end.End.TheVariants.{Low, High}
use Rattle.assignment_prices.specs.declared.prices.Prices.{Prices}
use Rattle.assignment_prices.proofs.WayLemmas.{AllZip-weaker}

-- every hold index that the prefix allows on positions of their own is in the span of prices
pub allowed-priced : (t : Problem) (prefix : List ℕ) (x : Prices) (index : ℤ) → ArePricesOf t prefix x → AllowsTightly t prefix index → IsWithin (price_span t prefix x) index
allowed-priced t prefix x index are given =
    let low = lower-bounds (IsOpen t prefix) (placed_moment t.hold) (remaining t prefix) x.lower_items.items x.lower_places.items given.0 are.lower given.1 in
    let high = upper-bounds (IsOpen t prefix) (placed_moment t.hold) (remaining t prefix) x.upper_items.items x.upper_places.items given.0 are.upper given.1 in
    (omega (arith, ints, given.2, low), omega (arith, ints, given.2, high))

-- Ends ------------------------------------------------------------------------------------------

negated : (a b : ℤ) → (pos 0 -ℤ a) ≤ℤ (pos 0 -ℤ b) → b ≤ℤ a
negated a b is = omega (arith, ints)

negate : (a b : ℤ) → b ≤ℤ a → (pos 0 -ℤ a) ≤ℤ (pos 0 -ℤ b)
negate a b is = omega (arith, ints)

pub lower-end : (t : Problem) (prefix : List ℕ) (items places : List ℤ) → BoundEnd Low t prefix items places → AreLowerPrices (IsOpen t prefix) (placed_moment t.hold) (remaining t prefix) items places
lower-end t prefix items places is = record { signs = is.signs; bound = is.bound }

pub end-lower : (t : Problem) (prefix : List ℕ) (items places : List ℤ) → AreWhole t prefix items places → AreLowerPrices (IsOpen t prefix) (placed_moment t.hold) (remaining t prefix) items places → BoundEnd Low t prefix items places
end-lower t prefix items places whole is = record { whole = whole; signs = is.signs; bound = is.bound }

pub upper-end : (t : Problem) (prefix : List ℕ) (items places : List ℤ) → BoundEnd High t prefix items places → AreUpperPrices (IsOpen t prefix) (placed_moment t.hold) (remaining t prefix) items places
upper-end t prefix items places is = record {
  signs = All-weaker (λ (price : ℤ). (pos 0 -ℤ price) ≤ℤ (pos 0 -ℤ pos 0)) (λ price. pos 0 ≤ℤ price) (λ price below. omega (arith, ints, below)) places is.signs;
  bound = AllZip-weaker (Bounds High t prefix places) (λ item price. (q : ℕ) → IsOpen t prefix item q → placed_moment t.hold (item, q) ≤ℤ (price +ℤ price_at places q))
      (λ item price bounds q may. negated _ _ (bounds q may)) (remaining t prefix) items is.bound;
}

pub end-upper : (t : Problem) (prefix : List ℕ) (items places : List ℤ) → AreWhole t prefix items places → AreUpperPrices (IsOpen t prefix) (placed_moment t.hold) (remaining t prefix) items places → BoundEnd High t prefix items places
end-upper t prefix items places whole is = record {
  whole = whole;
  signs = All-weaker (λ (price : ℤ). pos 0 ≤ℤ price) (λ price. (pos 0 -ℤ price) ≤ℤ pos 0) (λ price above. omega (arith, ints, above)) places is.signs;
  bound = AllZip-weaker (λ item price. (q : ℕ) → IsOpen t prefix item q → placed_moment t.hold (item, q) ≤ℤ (price +ℤ price_at places q)) (Bounds High t prefix places)
      (λ item price bounds q may. negate _ _ (bounds q may)) (remaining t prefix) items is.bound;
}
