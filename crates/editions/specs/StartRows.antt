-- the flights of the rows that a keeper loads
use Rattle.std.specs.Prelude.{◌≡◌, ◌≢◌, ℕ, ◌<◌, List, [], ◌∷◌, ◌++◌, length, take, slice_get, All, Some}
use Rattle.aircraft_file.specs.Craft.{Craft}
use Rattle.flight_state.specs.declared.state.FlightState.{FlightState}
use Rattle.flight_state.specs.Legs.{key_of}
use Rattle.flight_row.specs.Loading.{Reads}
use Rattle.keeper.specs.declared.row.KeptRow.{KeptRow}
use Rattle.editions.specs.Sound.{IsKeptFlight}
use Rattle.editions.specs.declared.flights.Flight.{Flight}
use Rattle.editions.specs.declared.starting.StartFault.{StartFault}
use Rattle.editions.specs.declared.starting.StartFault.TheVariants.{Keeper, BadTable, TooMany, NoMemory}

-- the flight that is loaded from a row: its bytes are a row of it, under its key
pub record IsFlightOf (fleet : List Craft) (row : KeptRow) (s : FlightState) : Type 0 where
  pub reads : Reads fleet row.bytes s
  pub key : row.key ≡ key_of s.leg

-- the row is that of a flight under its key
abbrev pub IsGoodRow : List Craft → KeptRow → Type 0
IsGoodRow fleet row = (s : FlightState) × IsFlightOf fleet row s

-- one flight for each row, in the order of the rows
abbrev pub AreFlightsOf : List Craft → List KeptRow → List FlightState → Type 0
AreFlightsOf fleet [] opening = opening ≡ []
AreFlightsOf fleet (row ∷ rows) [] = ⊥
AreFlightsOf fleet (row ∷ rows) (s ∷ opening) = IsFlightOf fleet row s × AreFlightsOf fleet rows opening

-- two flights with different keys
abbrev pub HaveOtherKeys : FlightState → FlightState → Type 0
HaveOtherKeys one other = key_of one.leg ≢ key_of other.leg

-- the flight stands behind the others
abbrev pub HasOneMore : List Craft → List Flight → List Flight → FlightState → Type 0
HasOneMore fleet old new s = (flight : Flight) × (flight.state ≡ s) × IsKeptFlight fleet flight × (new ≡ old ++ flight ∷ [])

-- the key is that of the first row that is not good
pub record IsFirstBad (fleet : List Craft) (rows : List KeptRow) (key : List ℕ) : Type 0 where
  pub at : ℕ
  pub row : KeptRow
  pub there : slice_get rows at ≡ Some row
  pub of_key : row.key ≡ key
  pub bad : ¬ (IsGoodRow fleet row)
  pub earlier : All (IsGoodRow fleet) (take at rows)

-- why the row makes no flight. Running out of memory has no cause
abbrev pub IsRowFault : List Craft → KeptRow → StartFault → Type 0
IsRowFault fleet row (BadTable key) = (row.key ≡ key) × ¬ (IsGoodRow fleet row)
IsRowFault fleet row NoMemory = Unit {0}
IsRowFault fleet row _ = ⊥

-- the first of these rows that makes none
abbrev pub IsFirstFault : List Craft → List KeptRow → StartFault → Type 0
IsFirstFault fleet rows (BadTable key) = IsFirstBad fleet rows key
IsFirstFault fleet rows NoMemory = Unit {0}
IsFirstFault fleet rows _ = ⊥

-- why these rows make no office
abbrev pub IsStartRefused : List Craft → List KeptRow → StartFault → Type 0
IsStartRefused fleet rows Keeper = ⊥
IsStartRefused fleet rows (BadTable key) = IsFirstBad fleet rows key
IsStartRefused fleet rows TooMany = All (IsGoodRow fleet) rows × (2000 < length rows)
IsStartRefused fleet rows NoMemory = Unit {0}
