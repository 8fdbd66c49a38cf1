use Rattle.aircraft_text.specs.AircraftText.{position_line}
use Rattle.aircraft_text.proofs.LineLemmas.{numbered_grow}
use Rattle.aircraft_text.proofs.hold_lines.push_positions.Goals as goal

pub loop-place-preserved : goal.loop-place-preserved
loop-place-preserved c =
    numbered_grow position_line c.args.positions.now c.loop-place.place c.index-positions-place.result c.args.out.now c.loop-place.out _
    c.loop-place-test.true c.index-positions-place.is c.loop-place.invariant c.in_ok-push_position.ensures
