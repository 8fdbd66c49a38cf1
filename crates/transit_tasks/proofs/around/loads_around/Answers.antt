use Rattle.std.proofs.Common.{◌++◌, ◌∙◌, map, ap, arith, refl}
use Rattle.std.proofs.lemmas.List.{take_all}
use Rattle.ldm_cpm.specs.Reading.{placing_said}
use Rattle.transit_tasks.specs.Staying.{lying}
use Rattle.transit_tasks.proofs.PlaceLemmas.{lies-more}
use Rattle.transit_tasks.proofs.around.loads_around.Goals as goal

pub loop-place-preserved : goal.loop-place-preserved
loop-place-preserved c =
    let t = c.args.task.now in
    c.in_ok-push.ensures.items
    ∙ lies-more placing_said t.hold.positions t.loose c.args.stay.now c.loop-place.place-index c.place-item.result c.loop-place.loads.items _
    c.loop-place-test.true c.place-item.is (rw c.number_on.ensures refl) c.loop-place.invariant

pub returns : goal.returns
returns c =
    let t = c.args.task.now in
    c.loop-place.invariant ∙ ap (λ xs. t.loose ++ map (lying t.hold.positions) (map placing_said xs)) (take_all c.loop-place.place-index c.args.stay.now (omega arith))
