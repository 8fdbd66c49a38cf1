use Rattle.std.proofs.Common.{◌∙◌, sym}
use Rattle.hold_limits.specs.Enumeration.{exclude}
use Rattle.ldm_cpm.specs.Messages.{Placing}
use Rattle.ldm_cpm.specs.Reading.{placing_said}
use Rattle.transit_tasks.specs.Staying.{place_number}
use Rattle.transit_tasks.proofs.PairLemmas.{list_any-map}
use Rattle.transit_tasks.proofs.places.clashes.Goals as goal

pub returns : goal.returns
returns c =
    let t = c.args.task.now in
    let number = place_number t.hold.positions in
    let told = rw c.number_on.ensures at c.is_excluded.ensures in
    told ∙ sym (list_any-map (λ (e : Placing). exclude t.hold (number e) (number (placing_said c.args.place.now))) placing_said c.args.earlier.now)
