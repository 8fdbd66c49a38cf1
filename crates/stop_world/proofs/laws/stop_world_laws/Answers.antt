use Rattle.stop_world.proofs.WorldLemmas.{near-promising, searchable}
use Rattle.stop_world.proofs.laws.stop_world_laws.Goals as goal

pub returns : goal.returns
returns c = record {
  searchable = searchable;
  near = near-promising;
}
