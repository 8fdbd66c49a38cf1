-- the aircraft of an office, and a flight as it is opened
use Rattle.std.specs.Prelude.{[], None}
use Rattle.aircraft_file.specs.Craft.{Craft}
use Rattle.trim.specs.declared.figures.Figures.{Figures}
use Rattle.flight_state.specs.declared.leg.Leg.{Leg}
use Rattle.flight_state.specs.declared.state.FlightState.{FlightState}
use Rattle.flight_state.specs.declared.state.Stage.TheVariants.{Working}

-- the figures of a flight that nothing is told of: the dry aircraft without a crew, no fuel, the certified masses as the
-- regulated ones, and nothing on board
abbrev pub first_figures : Craft → Figures
first_figures a = record {
  dry = record { mass = a.dry.mass; index = a.dry.index; cockpit = 0; attendants = 0 };
  fuel = record { taxi = record { 0 = 0 }; take_off = record { 0 = 0 }; trip = record { 0 = 0 } };
  regulated = record { take_off = a.certified.take_off; landing = a.certified.landing };
  cabin = [];
  containers = [];
  loose = [];
}

-- a flight as it is opened
abbrev pub new_flight : Craft → Leg → FlightState
new_flight a leg = record {
  leg = leg;
  edition = 1;
  stage = Working;
  base = first_figures a;
  plan = None;
  lmcs = [];
  releases = 0;
}
