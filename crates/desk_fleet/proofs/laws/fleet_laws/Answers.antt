use Rattle.desk_fleet.proofs.OneFleet.{one-fleet, fleet-not_refused, one-refused}
use Rattle.desk_fleet.proofs.laws.fleet_laws.Goals as goal

pub returns : goal.returns
returns c = record {
  one_fleet = one-fleet;
  not_refused = fleet-not_refused;
  one_refused = one-refused;
}
