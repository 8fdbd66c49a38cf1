use Rattle.aircraft_text.specs.AircraftText.{zone_line}
use Rattle.aircraft_text.proofs.LineLemmas.{numbered_grow_at}
use Rattle.aircraft_text.proofs.balance_lines.push_zones.Goals as goal

pub loop-place-preserved : goal.loop-place-preserved
loop-place-preserved c =
    numbered_grow_at zone_line c.args.zones.now c.loop-place.place _ c.args.out.now c.loop-place.out _
    c.loop-place-test.true c.loop-place.invariant c.in_ok-push_zone.ensures
