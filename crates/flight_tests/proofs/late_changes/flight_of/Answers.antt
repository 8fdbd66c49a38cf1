use Rattle.aircraft_file.specs.Craft.{Craft}
use Rattle.flight_state.specs.declared.state.FlightState.{FlightState}
use Rattle.flight_row.proofs.LoadLemmas.{only_aircraft}
use Rattle.last_minute.proofs.PlannedLemmas.{has_balance}
use Rattle.flight_tests.proofs.late_changes.flight_of.Goals as goal

pub returns : goal.returns
returns c =
    let aircraft : Craft = c.args.aircraft.now in
    let flight : FlightState = c.in_ok-flight.flight in
    let read = c.in_ok-flight.ensures in
    let found = only_aircraft c.from_ref.result.now aircraft c.as_bytes.result.now flight c.from_ref.ensures.value read.read in
    let kept = read.kept aircraft found in
    has_balance aircraft flight c.if-is_none.ensures kept.0 kept.1
