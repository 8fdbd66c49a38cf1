use Rattle.std.proofs.Common.{rules, arith, ◌-ℤ◌, ◌-◌, pos}
use Rattle.std.specs.Int.{w128}
use Rattle.std.proofs.lemmas.Int.{ints, to_z-of_z, fits_signed_from_abs}
use Rattle.mass_units.proofs.LineLemmas.{fall_fits, ceil_is, difference_is, negated_is}
use Rattle.mass_units.proofs.line.Line.ceil_at.Goals as goal

pub overflow_sub-fall : goal.overflow_sub-fall
overflow_sub-fall c =
    let share = to_z-of_z w128 c.share_down-fall.result (search rules) in
    rw share (fits_signed_from_abs w128 (pos 0 -ℤ c.share_down-fall.result) (omega (arith, ints, c.share_down-fall.ensures.bound)))

pub moved-requires : goal.moved-requires
moved-requires c =
    let line = c.args.self.now in
    let difference = difference_is line.at_from.0 line.at_to.0 c.difference.result (search rules) (search rules) (search rules) c.difference.ensures.value in
    let fall = negated_is c.share_down-fall.result (search rules) c.share_down-fall.ensures.bound in
    rw fall (fall_fits line.at_from.0 line.at_to.0 c.share_down-fall.result (search rules) (search rules) (record {
      low = rw difference at c.share_down-fall.ensures.low;
      high = rw difference at c.share_down-fall.ensures.high;
    }))

pub returns : goal.returns
returns c =
    let line = c.args.self.now in
    let difference = difference_is line.at_from.0 line.at_to.0 c.difference.result (search rules) (search rules) (search rules) c.difference.ensures.value in
    let fall = negated_is c.share_down-fall.result (search rules) c.share_down-fall.ensures.bound in
    rw (c.moved.ensures, fall) (ceil_is line.at_from.0 line.at_to.0 c.share_down-fall.result (c.args.mass.0 - line.from.0) (line.to.0 - line.from.0) (rw difference at c.share_down-fall.ensures.down))
