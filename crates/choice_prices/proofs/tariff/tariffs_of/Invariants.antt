use Rattle.std.proofs.Common.{◌≡◌, length, map}
use Rattle.std.specs.Prelude.{All}
use Rattle.std.specs.List.{range_with_len}
use Rattle.tree_certificate.specs.Listed.{listed_prices}
use Rattle.choice_prices.specs.Listing.{prices_of}
use Rattle.choice_prices.specs.Tariffs.{tariff_at, IsBoundedTariff}
use Rattle.choice_prices.proofs.tariff.tariffs_of.Given as goal

abbrev pub invariant-loop-position : goal.invariant-loop-position
invariant-loop-position l = record {
  count : length l.tariffs.items ≡ l.position;
  value : l.tariffs.items ≡ map (tariff_at l.fn.task.hold (prices_of l.fn.task.hold l.cliques (listed_prices l.list))) (range_with_len 0 l.position);
  bounded : All IsBoundedTariff l.tariffs.items;
}
