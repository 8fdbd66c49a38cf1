use Rattle.std.proofs.Common.{◌∙◌, sym}
use Rattle.ldm_cpm.specs.Reading.{placing_said}
use Rattle.transit_tasks.proofs.AroundLemmas.{closed-by}
use Rattle.transit_tasks.proofs.around.is_closed.Goals as goal

pub returns : goal.returns
returns c = c.is_closed_by_any.ensures ∙ sym (closed-by placing_said c.args.hold.now c.args.number c.args.stay.now)
