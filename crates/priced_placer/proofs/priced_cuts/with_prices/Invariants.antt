use Rattle.std.proofs.Common.{◌≡◌}
use Rattle.std.specs.Prelude.{All}
use Rattle.certificate.specs.Evidence.{paths_of}
use Rattle.priced_checker.specs.Good.{prefixes_of}
use Rattle.priced_placer.specs.PriceNear.{IsTightlyPriced}
use Rattle.priced_placer.proofs.priced_cuts.with_prices.Given as goal

abbrev pub invariant-loop-prefix : goal.invariant-loop-prefix
invariant-loop-prefix l = record {
  task : l.partial.task ≡ l.fn.task;
  prefixes : prefixes_of l.cuts.items ≡ paths_of l.yielded;
  priced : All (IsTightlyPriced l.fn.task) l.cuts.items;
}
