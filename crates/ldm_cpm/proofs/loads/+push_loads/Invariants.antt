use Rattle.std.proofs.Common.{length}
use Rattle.ldm_cpm.proofs.loads.+push_loads.Given as goal

abbrev pub decreases-push_loads : goal.decreases-push_loads
decreases-push_loads l = length l.parts.now
