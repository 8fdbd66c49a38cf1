use Rattle.hold_limits.proofs.TwinLemmas.{is_rising-Decides}
use Rattle.hold_limits.proofs.SidesLemmas.{lateral_difference-sides}
use Rattle.hold_limits.proofs.ExchangeLemmas.{IsSound-exchange, hold_index-exchange, lateral_difference-exchange, best-rises, rising-exists}
use Rattle.hold_limits.proofs.laws.twin_laws.Goals as goal

pub returns : goal.returns
returns c = record {
  sound = IsSound-exchange;
  hold_index = hold_index-exchange;
  lateral = lateral_difference-exchange;
  best = best-rises;
  rising = rising-exists;
  tested = is_rising-Decides;
  sides = lateral_difference-sides;
}
