use Rattle.std.proofs.Common.{◌≡◌, ◌≤◌, ◌*◌, unsigned_abs, take}
use Rattle.assignment.specs.Prices.{total}
use Rattle.assignment_prices.proofs.price_span.total_of.Given as goal

abbrev pub invariant-loop-price : goal.invariant-loop-price
invariant-loop-price l = record {
  value : l.sum ≡ total (take l.price-index l.prices);
  bounded : unsigned_abs l.sum ≤ l.price-index * 10000000000000;
}
