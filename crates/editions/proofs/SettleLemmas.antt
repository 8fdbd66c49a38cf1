-- a flight is kept
use Rattle.std.proofs.Common.{◌≡◌, ℕ, List, Option, None, Some, All, ◌∙◌, sym, ap, subst}
use Rattle.std.specs.Prelude.{option_map, slice_get, IfSome, Result, Ok, Err}
use Rattle.std.proofs.lemmas.Option.{slice_get-map}
use Rattle.hold_limits.specs.Problem.{Problem}
use Rattle.trim.specs.declared.fault.TrimFault.{TrimFault}
use Rattle.trim.specs.declared.figures.Figures.{Figures}
use Rattle.trim.specs.Refusals.{IsTaskOf, IsRefused}
use Rattle.aircraft_file.specs.Craft.{Craft}
use Rattle.aircraft_file.specs.Lawful.{IsLawfulCraft}
use Rattle.flight_state.specs.declared.state.FlightState.{FlightState}
use Rattle.flight_state.specs.Effective.{effective}
use Rattle.flight_state.specs.Legs.{key_of}
use Rattle.flight_row.specs.declared.row.Version.TheVariants.{Two}
use Rattle.flight_row.specs.Loading.{aircraft_of, row_of, Reads}
use Rattle.flight_row.specs.RowText.{row_text}
use Rattle.keeper.specs.declared.row.KeptRow.{KeptRow}
use Rattle.keeper.specs.Tables.{Tables, HoldsAfter}
use Rattle.editions.specs.declared.flights.Flight.{Flight}
use Rattle.editions.specs.Places.{Table, states, put_in, HasPlace, IsPlaceOf, IsPut}
use Rattle.editions.specs.Answers.{HasFiguresOf}
use Rattle.editions.specs.Settled.{IsKept}
use Rattle.editions.specs.Sound.{IsReady, IsSound, IsTaskAnswer, IsKeptFlight}
use Rattle.editions.proofs.AnswerLemmas.{kept-at}
use Rattle.editions.proofs.PlaceLemmas.{IsPut-in, All-put_in}

-- with its aircraft, however it was found
pub sound-as : (fleet : List Craft) (s : FlightState) (a : Craft) → IsSound fleet s → aircraft_of fleet s.leg ≡ Some a → IsReady a s
sound-as fleet s a sound found =
    let there = sound.found in
    let same : sound.aircraft ≡ a = cc (there, found) in
    subst (λ (b : Craft). IsReady b s) same sound.ready

lawful-as : (fleet : List Craft) (s : FlightState) (a : Craft) → IsSound fleet s → aircraft_of fleet s.leg ≡ Some a → IsLawfulCraft a
lawful-as fleet s a sound found =
    let there = sound.found in
    let same : sound.aircraft ≡ a = cc (there, found) in
    subst IsLawfulCraft same sound.lawful

-- the flight as it is kept
pub kept-flight : (fleet : List Craft) (a : Craft) (next : FlightState) (flight : Flight) → IsSound fleet next → aircraft_of fleet next.leg ≡ Some a → flight.state ≡ next → IsTaskAnswer a next flight.task → IsKeptFlight fleet flight
kept-flight fleet a next flight sound found is task =
    let ready = sound-as fleet next a sound found in
    let found' : aircraft_of fleet flight.state.leg ≡ Some a = ap (λ (s : FlightState). aircraft_of fleet s.leg) is ∙ found in
    record {
      sound = record { aircraft = a; found = found'; lawful = lawful-as fleet next a sound found; ready = subst (IsReady a) (sym is) ready };
      task = subst (λ (s : FlightState). IsTaskAnswer a s flight.task) (sym is) task;
    }

-- a flight with the effective figures of another has its task
task-as : (a b : Craft) (s next : FlightState) (task : Result Problem TrimFault) → a ≡ b → effective next ≡ effective s → IsTaskAnswer a s task → IsTaskAnswer b next task
task-as a b s next (Ok task) same figures is = subst (λ (c : Craft). IsTaskOf c (effective next) task) same (subst (λ (f : Figures). IsTaskOf a f task) (sym figures) is)
task-as a b s next (Err fault) same figures is = (subst (λ (c : Craft). IsRefused c (effective next) fault) same (subst (λ (f : Figures). IsRefused a f fault) (sym figures) is.0), is.1)

-- so one that is stated anew with the figures that it had keeps its task
pub task-stays : (fleet : List Craft) (a : Craft) (flights : List Flight) (i : ℕ) (flight : Flight) (next : FlightState) → slice_get flights i ≡ Some flight → HasFiguresOf next flight.state → aircraft_of fleet next.leg ≡ Some a
    → All (IsKeptFlight fleet) flights → IsTaskAnswer a next flight.task
task-stays fleet a flights i flight next held figures found all =
    let kept = kept-at fleet flights i flight all held in
    let there = kept.sound.found in
    let here : aircraft_of fleet flight.state.leg ≡ Some a = sym (ap (aircraft_of fleet) figures.0) ∙ found in
    let same : kept.sound.aircraft ≡ a = cc (there, here) in
    task-as kept.sound.aircraft a flight.state next flight.task same figures.1 kept.task

-- the flight at a place, by its state
pub figures-at : (flights : List Flight) (i : ℕ) (next : FlightState) → IfSome (slice_get (states flights) i) (HasFiguresOf next) → IfSome (slice_get flights i) (λ flight. HasFiguresOf next flight.state)
figures-at flights i next is = by_flight (slice_get flights i) (subst (λ (o : Option FlightState). IfSome o (HasFiguresOf next)) (slice_get-map (λ (f : Flight). f.state) flights i) is)
  where
    by_flight : (o : Option Flight) → IfSome (option_map (λ (f : Flight). f.state) o) (HasFiguresOf next) → IfSome o (λ flight. HasFiguresOf next flight.state)
    by_flight None is = tt
    by_flight (Some flight) is = is

-- what was done to keep it
pub record HasKept (fleet : List Craft) (a : Craft) (key : List ℕ) (place : Option ℕ) (next : FlightState) (flight : Flight) (row : KeptRow) (old new : List Flight) (held now : Option Tables) : Type 0 where
  pub sound : IsSound fleet next
  pub found : aircraft_of fleet next.leg ≡ Some a
  pub own : key_of next.leg ≡ key
  pub at : IsPlaceOf (states old) key place
  pub state : flight.state ≡ next
  pub task : All (IsKeptFlight fleet) old → IsTaskAnswer a next flight.task
  pub row_key : row.key ≡ key_of next.leg
  pub row_bytes : row.bytes ≡ row_text Two (row_of a next)
  pub reads : Reads fleet row.bytes next
  pub put : new ≡ put_in old place flight
  pub holds : HoldsAfter held now row

pub kept-is : (fleet : List Craft) (a : Craft) (key : List ℕ) (place : Option ℕ) (next : FlightState) (flight : Flight) (row : KeptRow) (old new : List Flight) (held now : Option Tables)
    → HasKept fleet a key place next flight row old new held now → IsKept fleet place next old new held now
kept-is fleet a key place next flight row old new held now k =
    let at : IsPlaceOf (states old) (key_of flight.state.leg) place = subst (λ (s : FlightState). IsPlaceOf (states old) (key_of s.leg) place) (sym k.state) (subst (λ (other : List ℕ). IsPlaceOf (states old) other place) (sym k.own) k.at) in
    record {
      put = subst (λ (fs : List Flight). IsPut (states old) (states fs) place next) (sym k.put)
          (subst (λ (s : FlightState). IsPut (states old) (states (put_in old place flight)) place s) k.state (IsPut-in old place flight at));
      sound = λ all. subst (All (IsKeptFlight fleet)) (sym k.put) (All-put_in (IsKeptFlight fleet) old place flight all (kept-flight fleet a next flight k.sound k.found k.state (k.task all)));
      committed = record {
        row = row;
        key = k.row_key;
        bytes = ap (option_map (λ (c : Craft). row_text Two (row_of c next))) k.found ∙ ap Some (sym k.row_bytes);
        reads = k.reads;
        holds = k.holds;
      };
    }

-- the place of the flight's key, among the same flights
pub place-kept : (old now : List Flight) (key : List ℕ) (place : Option ℕ) (next : FlightState) (flight : Flight) → now ≡ old → flight.state ≡ next → key_of next.leg ≡ key → IsPlaceOf (states old) key place → IsPlaceOf (states now) (key_of flight.state.leg) place
place-kept old now key place next flight same state own at =
    subst (λ (fs : List Flight). IsPlaceOf (states fs) (key_of flight.state.leg) place) (sym same)
    (subst (λ (k : List ℕ). IsPlaceOf (states old) k place) (sym (ap (λ (s : FlightState). key_of s.leg) state ∙ own)) at)

pub room-kept : (t : Table) (key : List ℕ) (place : Option ℕ) (next : FlightState) (flight : Flight) → flight.state ≡ next → key_of next.leg ≡ key → HasPlace t place key → HasPlace t place (key_of flight.state.leg)
room-kept t key place next flight state own room = subst (HasPlace t place) (sym (ap (λ (s : FlightState). key_of s.leg) state ∙ own)) room
