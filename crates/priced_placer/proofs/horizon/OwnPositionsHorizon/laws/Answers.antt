use Rattle.priced_placer.proofs.TightBounds.{tight-bounds}
use Rattle.priced_placer.proofs.horizon.OwnPositionsHorizon.laws.Goals as goal

pub returns : goal.returns
returns c = tight-bounds
