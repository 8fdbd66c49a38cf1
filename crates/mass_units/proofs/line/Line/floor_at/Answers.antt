use Rattle.std.proofs.Common.{rules, ◌-ℤ◌, ◌*ℤ◌, ◌-◌, pos}
use Rattle.std.specs.Int.{w128}
use Rattle.std.proofs.lemmas.Int.{to_z-of_z}
use Rattle.std.proofs.Common.{ℤ, ◌+ℤ◌}
use Rattle.mass_units.proofs.LineLemmas.{floor_between, rise_fits, floor_is, difference_is}
use Rattle.mass_units.proofs.line.Line.floor_at.Goals as goal

pub moved-requires : goal.moved-requires
moved-requires c =
    let line = c.args.self.now in
    let difference = difference_is line.at_to.0 line.at_from.0 c.difference.result (search rules) (search rules) (search rules) c.difference.ensures.value in
    let share = to_z-of_z w128 c.share_down-rise.result (search rules) in
    rw share (rise_fits line.at_from.0 line.at_to.0 c.share_down-rise.result (search rules) (search rules) (record {
      low = rw difference at c.share_down-rise.ensures.low;
      high = rw difference at c.share_down-rise.ensures.high;
    }))

pub returns-clause-greatest : goal.returns-clause-greatest
returns-clause-greatest c =
    let line = c.args.self.now in
    let difference = difference_is line.at_to.0 line.at_from.0 c.difference.result (search rules) (search rules) (search rules) c.difference.ensures.value in
    let share = to_z-of_z w128 c.share_down-rise.result (search rules) in
    rw (c.moved.ensures, share) (floor_is line.at_from.0 ((line.at_to.0 -ℤ line.at_from.0) *ℤ pos (c.args.mass.0 - line.from.0)) c.share_down-rise.result (line.to.0 - line.from.0) (rw difference at c.share_down-rise.ensures.down))

pub returns-clause-floor : goal.returns-clause-floor
returns-clause-floor c =
    let line = c.args.self.now in
    let difference = difference_is line.at_to.0 line.at_from.0 c.difference.result (search rules) (search rules) (search rules) c.difference.ensures.value in
    let share = to_z-of_z w128 c.share_down-rise.result (search rules) in
    let x : ℤ = (line.at_to.0 -ℤ line.at_from.0) *ℤ pos (c.args.mass.0 - line.from.0) in
    rw (c.moved.ensures, share) (floor_between line.at_from.0 x (line.at_from.0 +ℤ c.share_down-rise.result) (line.to.0 - line.from.0) (floor_is line.at_from.0 x c.share_down-rise.result (line.to.0 - line.from.0) (rw difference at c.share_down-rise.ensures.down)))
