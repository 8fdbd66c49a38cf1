use Rattle.std.proofs.Common.{◌≡◌, ◌≤◌, ◌*◌, unsigned_abs, take, pos, ◌*ℤ◌}
use Rattle.choice_prices.specs.Listing.{limited_resource}
use Rattle.choice_prices.specs.Tariffs.{taken_by_mass}
use Rattle.base_words.specs.Lists.{int_sum_by}
use Rattle.tree_certificate.specs.declared.parts.Price.{Price}
use Rattle.choice_prices.proofs.tariff.limit_prices.Given as goal

abbrev pub invariant-loop-price : goal.invariant-loop-price
invariant-loop-price l = record {
  value : l.sum ≡ int_sum_by (λ (p : Price). pos p.price *ℤ taken_by_mass l.hold (limited_resource l.hold p.of) l.position) (take l.price-index l.prices);
  bounded : unsigned_abs l.sum ≤ l.price-index * 10000000000000;
}
