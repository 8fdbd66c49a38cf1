use Rattle.std.proofs.Common.{◌≡◌, ◌≤◌, ◌*◌, unsigned_abs, take, pos, ◌*ℤ◌}
use Rattle.choice_prices.specs.Listing.{limited_resource}
use Rattle.base_words.specs.Lists.{int_sum_by}
use Rattle.price_trees.specs.Prices.{Choice, stock}
use Rattle.tree_certificate.specs.declared.parts.Price.{Price}
use Rattle.choice_prices.proofs.worth.room_prices.Given as goal

abbrev pub invariant-loop-price : goal.invariant-loop-price
invariant-loop-price l = record {
  value : (choice : Choice) → l.sum ≡ int_sum_by (λ (p : Price). pos p.price *ℤ stock l.task choice (limited_resource l.task.hold p.of)) (take l.price-index l.prices);
  bounded : unsigned_abs l.sum ≤ l.price-index * 50000000000000000000000;
}
