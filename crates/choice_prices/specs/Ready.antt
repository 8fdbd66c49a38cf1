-- what is prepared of a list of prices for a task
use Rattle.std.specs.Prelude.{◌≡◌, ◌≤◌, ℤ, pos, ◌-ℤ◌, ◌*ℤ◌, unsigned_abs, length, map, All}
use Rattle.std.specs.List.{range_with_len}
use Rattle.base_words.specs.Lists.{int_sum_by}
use Rattle.hold_limits.specs.Placement.{loose_moment}
use Rattle.hold_limits.specs.Problem.{Problem}
use Rattle.price_trees.specs.Prices.{Choice, Prices, stock, counted_from}
use Rattle.tree_certificate.specs.declared.parts.Price.{Price}
use Rattle.tree_certificate.specs.Listed.{ListedPrices, listed_prices}
use Rattle.choice_prices.specs.declared.prepared.Prepared.{Prepared}
use Rattle.choice_prices.specs.Listing.{IsClique, limited_resource, end_of, prices_of, ArePriced}
use Rattle.choice_prices.specs.Tariffs.{tariff_at, IsBoundedTariff}

-- the moment of the loose loads, counted from the end of the prices, less what they leave under the limits at its price
abbrev pub start_at : Problem → Choice → ListedPrices → ℤ
start_at t choice list = counted_from (end_of list.end) (int_sum_by (loose_moment t.hold) t.loose)
    -ℤ int_sum_by (λ (p : Price). pos p.price *ℤ stock t choice (limited_resource t.hold p.of)) list.limits

-- the prices that its list stands for
abbrev pub prices_in : Prepared → Prices
prices_in p = prices_of p.task.now.hold p.cliques.now (listed_prices p.list.now)

-- the list may stand in a certificate with its cliques, its tariffs are those of all positions, and every value begins with its start
pub record IsPrepared (p : Prepared) : Type 0 where
  pub right : All (IsClique p.task.now) p.cliques.now
  pub priced : ArePriced p.task.now.hold (length p.cliques.now) (listed_prices p.list.now)
  pub tariffs : p.tariffs.items ≡ map (tariff_at p.task.now.hold (prices_in p)) (range_with_len 0 64)
  pub tariffs_bounded : All IsBoundedTariff p.tariffs.items
  pub start : (choice : Choice) → p.start ≡ start_at p.task.now choice (listed_prices p.list.now)
  pub start_bounded : unsigned_abs p.start ≤ 10000000000000000000000000
