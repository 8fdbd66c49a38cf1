use Rattle.std.proofs.Common.{◌≡◌, ◌≤◌, ◌*◌, unsigned_abs, take, pos, ◌*ℤ◌, if◌then◌else◌}
use Rattle.choice_prices.specs.Listing.{clique_places}
use Rattle.base_words.specs.Lists.{int_sum_by}
use Rattle.hold_parts.specs.Limits.{is_listed}
use Rattle.tree_certificate.specs.declared.parts.Price.{Price}
use Rattle.choice_prices.proofs.tariff.clique_prices.Given as goal

abbrev pub invariant-loop-price : goal.invariant-loop-price
invariant-loop-price l = record {
  value : l.sum ≡ int_sum_by (λ (p : Price). pos p.price *ℤ pos (if is_listed (clique_places l.cliques p.of) l.position then 1 else 0)) (take l.price-index l.prices);
  bounded : unsigned_abs l.sum ≤ l.price-index * 10000000000000;
}
