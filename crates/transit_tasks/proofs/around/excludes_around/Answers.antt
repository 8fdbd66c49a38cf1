use Rattle.std.proofs.Common.{map, ◌∙◌, ap, arith}
use Rattle.std.proofs.lemmas.List.{take_all}
use Rattle.std.specs.Prelude.{filter}
use Rattle.ldm_cpm.specs.Reading.{placing_said}
use Rattle.transit_tasks.specs.NewTask.{is_open_pair}
use Rattle.transit_tasks.specs.Staying.{staying_containers}
use Rattle.transit_tasks.proofs.PairLemmas.{filter-next}
use Rattle.transit_tasks.proofs.around.excludes_around.Goals as goal

pub loop-pair-preserved : goal.loop-pair-preserved
loop-pair-preserved c =
    let hold = c.args.hold.now in
    let opens = is_open_pair hold (staying_containers hold.positions (map placing_said c.args.stay.now)) in
    c.in_ok-push_if_open.ensures
    ∙ filter-next opens c.excludes-excludes.result.now c.loop-pair.pair-index (0, 0) c.loop-pair.around.items c.loop-pair-test.true c.loop-pair.invariant

pub returns : goal.returns
returns c =
    let hold = c.args.hold.now in
    let opens = is_open_pair hold (staying_containers hold.positions (map placing_said c.args.stay.now)) in
    c.loop-pair.invariant ∙ ap (filter opens) (take_all c.loop-pair.pair-index c.excludes-excludes.result.now (omega arith) ∙ c.excludes-excludes.ensures.value)
