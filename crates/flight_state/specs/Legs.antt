-- the leg of a flight
use Rattle.std.specs.Prelude.{◌≡◌, true, ℕ, List, ◌++◌, codes}
use Rattle.aircraft_file.specs.Spellings.{is_registration}
use Rattle.flight_state.specs.Spellings.{is_flight_name, is_day, is_station}
use Rattle.flight_state.specs.declared.leg.Leg.{Leg}

-- the key of a flight: its name, a hyphen, and its day
abbrev pub key_of : Leg → List ℕ
key_of leg = leg.flight ++ codes "-" ++ leg.day

-- each text of the leg is in its spelling
pub record IsSpelledLeg (leg : Leg) : Type 0 where
  pub flight : is_flight_name leg.flight ≡ true
  pub day : is_day leg.day ≡ true
  pub registration : is_registration leg.registration ≡ true
  pub origin : is_station leg.origin ≡ true
  pub destination : is_station leg.destination ≡ true
