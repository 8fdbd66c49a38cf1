-- what the bodies of requests say, each an object with exactly these keys
use Rattle.std.specs.Prelude.{ℕ, nat_le, if◌then◌else◌, List, [], ◌∷◌, length, codes, Option, Some, None}
use Rattle.serde_json.specs.Data.{Data}
use Rattle.serde_json.specs.Find.{as_array, get_member}
use Rattle.payload.specs.declared.figures.ZoneCount.{ZoneCount}
use Rattle.trim.specs.declared.figures.Dry.{Dry}
use Rattle.trim.specs.declared.figures.Fuel.{Fuel}
use Rattle.trim.specs.declared.figures.Regulated.{Regulated}
use Rattle.trim.specs.declared.figures.LooseFigure.{LooseFigure}
use Rattle.aircraft_file.specs.Spellings.{is_registration, is_name}
use Rattle.flight_state.specs.Spellings.{is_flight_name, is_station}
use Rattle.flight_state.specs.declared.leg.Leg.{Leg}
use Rattle.flight_state.specs.declared.change.Lmc.{Lmc}
use Rattle.flight_state.specs.declared.change.Lmc.TheVariants.{Cabin, Loose}
use Rattle.desk_bodies.specs.Values.{◌>>=◌, json_of, whole, signed, mass, day, text, index, object_of, at, each, triple}

-- Opening a flight ------------------------------------------------------------------------------

-- `{"flight":"XX210","day":12,"registration":"DAIAB","origin":"FRA","destination":"ARN"}`
abbrev pub leg_told : Data → Option Leg
leg_told body = do
  members ← object_of 5 body
  flight ← at (codes "flight") (text is_flight_name) members
  day ← at (codes "day") day members
  registration ← at (codes "registration") (text is_registration) members
  origin ← at (codes "origin") (text is_station) members
  destination ← at (codes "destination") (text is_station) members
  Some (record { flight = flight; day = day; registration = registration; origin = origin; destination = destination })

-- Figures ---------------------------------------------------------------------------------------

-- `{"mass":42000,"index":"50.00000","cockpit":2,"cabin":4}`: the dry aircraft has a mass, and up to 99 of its crew in each place
abbrev pub dry_told : Data → Option Dry
dry_told body = do
  members ← object_of 4 body
  mass ← at (codes "mass") (mass 1) members
  at_index ← at (codes "index") index members
  cockpit ← at (codes "cockpit") (whole 0 99) members
  attendants ← at (codes "cabin") (whole 0 99) members
  Some (record { mass = mass; index = at_index; cockpit = cockpit; attendants = attendants })

-- `{"taxi":200,"takeoff":9000,"trip":6000}`: the trip burns only fuel that is on board
abbrev pub fuel_told : Data → Option Fuel
fuel_told body = do
  members ← object_of 3 body
  taxi ← at (codes "taxi") (mass 0) members
  take_off ← at (codes "takeoff") (mass 0) members
  trip ← at (codes "trip") (mass 0) members
  if nat_le trip.0 take_off.0 then Some (record { taxi = taxi; take_off = take_off; trip = trip }) else None

-- `{"takeoff":73500,"landing":66000}`
abbrev pub limits_told : Data → Option Regulated
limits_told body = do
  members ← object_of 2 body
  take_off ← at (codes "takeoff") (mass 0) members
  landing ← at (codes "landing") (mass 0) members
  Some (record { take_off = take_off; landing = landing })

-- `[50,4,2]`: adults, children and infants of a zone, up to 999 of each
abbrev pub zone_told : Data → Option ZoneCount
zone_told d = do
  counts ← triple d
  adults ← whole 0 999 counts.0
  children ← whole 0 999 counts.1
  infants ← whole 0 999 counts.2
  Some (record { adults = adults; children = children; infants = infants })

-- `["51",200,8]`: the name of a bulk position, the mass of the load and its pieces, up to 999
abbrev pub load_told : Data → Option LooseFigure
load_told d = do
  parts ← triple d
  position ← text is_name parts.0
  mass ← mass 0 parts.1
  pieces ← whole 0 999 parts.2
  Some (record { position = position; mass = mass; pieces = pieces })

-- an array of at most this many values of a form
abbrev pub up_to : {A : Type 0} → ℕ → (Data → Option A) → Data → Option (List A)
up_to most form d = do
  items ← as_array d
  list ← each form items
  if nat_le (length list) most then Some list else None

-- the value at this key of an object that has no other
abbrev pub only : List ℕ → Data → Option Data
only name body = do
  members ← object_of 1 body
  get_member name members

-- `{"zones":[[50,4,2],[70,6,1]]}`
abbrev pub cabin_told : Data → Option (List ZoneCount)
cabin_told body = do
  zones ← only (codes "zones") body
  up_to 16 zone_told zones

-- `{"bulk":[["51",200,8]]}`
abbrev pub loose_told : Data → Option (List LooseFigure)
loose_told body = do
  loads ← only (codes "bulk") body
  up_to 64 load_told loads

-- Acts ------------------------------------------------------------------------------------------

-- `{"zone":2,"adults":5,"children":0,"infants":0}`: a change of up to 999 persons of each kind in a zone
abbrev pub zone_change_told : Data → Option Lmc
zone_change_told body = do
  members ← object_of 4 body
  zone ← at (codes "zone") (whole 1 16) members
  adults ← at (codes "adults") (signed 999) members
  children ← at (codes "children") (signed 999) members
  infants ← at (codes "infants") (signed 999) members
  Some (Cabin zone adults children infants)

-- `{"bulk":"51","mass":500,"pieces":0}`: a change of the load of a bulk position
abbrev pub bulk_change_told : Data → Option Lmc
bulk_change_told body = do
  members ← object_of 3 body
  position ← at (codes "bulk") (text is_name) members
  mass ← at (codes "mass") (signed 1000000) members
  pieces ← at (codes "pieces") (signed 999) members
  Some (Loose position mass pieces)

-- the first, or else the second
abbrev pub either : {A : Type 0} → Option A → Option A → Option A
either (Some a) b = Some a
either None b = b

abbrev pub change_told : Data → Option Lmc
change_told body = either (zone_change_told body) (bulk_change_told body)

-- `{"budget":500}`: how many prefixes a plan may look at, up to 5,000
abbrev pub budget_told : Data → Option ℕ
budget_told body = do
  members ← object_of 1 body
  at (codes "budget") (whole 1 5000) members

-- `{"looks":100000}`: how many times a search by trees may look, up to 1,000,000
abbrev pub looks_told : Data → Option ℕ
looks_told body = do
  members ← object_of 1 body
  at (codes "looks") (whole 1 1000000) members

-- Texts -----------------------------------------------------------------------------------------

-- what a body of JSON says
abbrev pub told_in : {A : Type 0} → (Data → Option A) → List ℕ → Option A
told_in told body = do
  d ← json_of body
  told d

-- the budget where the body is empty
abbrev pub usual_budget : ℕ
usual_budget = 2000

abbrev pub budget_in : List ℕ → Option ℕ
budget_in [] = Some usual_budget
budget_in (c ∷ body) = told_in budget_told (c ∷ body)

-- the looks where the body is empty
abbrev pub usual_looks : ℕ
usual_looks = 2000

abbrev pub looks_in : List ℕ → Option ℕ
looks_in [] = Some usual_looks
looks_in (c ∷ body) = told_in looks_told (c ∷ body)
