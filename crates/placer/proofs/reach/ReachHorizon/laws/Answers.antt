use Rattle.placer.proofs.ReachLemmas.{reach-bounds}
use Rattle.placer.proofs.reach.ReachHorizon.laws.Goals as goal

pub returns : goal.returns
returns c = reach-bounds
