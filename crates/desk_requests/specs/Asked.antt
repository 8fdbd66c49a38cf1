-- what a request over HTTP asks of the office
use Rattle.std.specs.Prelude.{◌≡◌, ◌≢◌, ℕ, List, [], ◌∷◌, Bool, true, false, Option, None, Some, option_map, Result, Ok, Err}
use Rattle.hold_parts.specs.declared.parts.Item.{Item}
use Rattle.flight_state.specs.Spellings.{is_flight_key}
use Rattle.flight_history.specs.declared.request.FigurePart.{FigurePart}
use Rattle.flight_history.specs.declared.request.FigurePart.TheVariants as part
use Rattle.flight_history.specs.declared.request.Request.TheVariants as request
use Rattle.flight_history.specs.declared.request.What.TheVariants as what
use Rattle.desk_routes.specs.declared.route.Route.{Route}
use Rattle.desk_routes.specs.declared.route.Route.TheVariants as route
use Rattle.desk_routes.specs.Targets.{route_of, method_of, key_in, edition_in, IsEdition}
use Rattle.desk_bodies.specs.Bodies.{told_in, leg_told, dry_told, fuel_told, limits_told, cabin_told, loose_told, change_told, budget_in, looks_in}
use Rattle.desk_bodies.specs.Containers.{ListsContainers}
use Rattle.desk_answers.specs.declared.errors.PlainError.{PlainError}
use Rattle.desk_answers.specs.declared.errors.PlainError.TheVariants as error
use Rattle.desk_requests.specs.declared.wanted.Wanted.{Wanted}
use Rattle.desk_requests.specs.declared.wanted.Wanted.TheVariants.{Open, Show, Set, Plan, Best, Take, Release, Late, Reopen, Depart}
use Rattle.desk_requests.specs.declared.asked.Asked.{Asked}
use Rattle.desk_requests.specs.declared.asked.Asked.TheVariants as asked

-- What a route wants -------------------------------------------------------------------------------

-- a request that has no body
abbrev pub bare : List ℕ → Wanted → Option Wanted
bare [] wanted = Some wanted
bare (byte ∷ more) wanted = None

-- a part of the figures, where the body tells it
abbrev pub part_wanted : Option FigurePart → Option Wanted
part_wanted told = option_map Set told

-- the containers that the body lists
abbrev pub ListsWanted : List ℕ → Option Wanted → Type 0
ListsWanted body None = (items : List Item) → ListsContainers body items → ⊥
ListsWanted body (Some wanted) = (items : List Item) × ListsContainers body items × (wanted ≡ Set (part.Containers items))

-- what a route wants by its body, and None where the body is not in its form
abbrev pub Wants : Route → List ℕ → Option Wanted → Type 0
Wants route.Flights body wanted = wanted ≡ option_map Open (told_in leg_told body)
Wants route.Flight body wanted = wanted ≡ bare body (Show what.State)
Wants route.Dry body wanted = wanted ≡ part_wanted (option_map part.Dry (told_in dry_told body))
Wants route.Fuel body wanted = wanted ≡ part_wanted (option_map part.Fuel (told_in fuel_told body))
Wants route.Limits body wanted = wanted ≡ part_wanted (option_map part.Limits (told_in limits_told body))
Wants route.Cabin body wanted = wanted ≡ part_wanted (option_map part.Cabin (told_in cabin_told body))
Wants route.Containers body wanted = ListsWanted body wanted
Wants route.Loose body wanted = wanted ≡ part_wanted (option_map part.Loose (told_in loose_told body))
Wants route.Plan body wanted = wanted ≡ option_map Plan (budget_in body)
Wants route.Best body wanted = wanted ≡ option_map Best (looks_in body)
Wants route.Task body wanted = wanted ≡ bare body Take
Wants route.Release body wanted = wanted ≡ bare body Release
Wants route.Late body wanted = wanted ≡ option_map Late (told_in change_told body)
Wants route.Reopen body wanted = wanted ≡ bare body Reopen
Wants route.Depart body wanted = wanted ≡ bare body Depart
Wants route.Sheet body wanted = wanted ≡ bare body (Show what.Sheet)
Wants route.Ldm body wanted = wanted ≡ bare body (Show what.Ldm)
Wants route.Cpm body wanted = wanted ≡ bare body (Show what.Cpm)

-- What is asked ------------------------------------------------------------------------------------

-- the path of the route names an edition
abbrev pub names_edition : Route → Bool
names_edition route.Flights = false
names_edition route.Flight = false
names_edition route.Sheet = false
names_edition route.Ldm = false
names_edition route.Cpm = false
names_edition _ = true

-- the edition of a target; 0 where its path names none
abbrev pub HasEditionIf : Bool → List ℕ → ℕ → Type 0
HasEditionIf true target edition = IsEdition (edition_in target) edition
HasEditionIf false target edition = edition ≡ 0

abbrev pub HasEdition : Route → List ℕ → ℕ → Type 0
HasEdition route target edition = HasEditionIf (names_edition route) target edition

-- the target spells the key of a flight, or needs none
abbrev pub is_keyed : List ℕ → Wanted → Bool
is_keyed target (Open leg) = true
is_keyed target _ = is_flight_key (key_in target)

-- what is asked of the flight of this key, at this edition
abbrev pub asked_of : List ℕ → ℕ → Wanted → Asked
asked_of key edition (Open leg) = asked.Entry (request.NewFlight leg)
asked_of key edition (Show what) = asked.Entry (request.Show key what)
asked_of key edition (Set told) = asked.Entry (request.Set key edition told)
asked_of key edition (Plan budget) = asked.Plan key edition budget
asked_of key edition (Best looks) = asked.Best key edition looks
asked_of key edition Take = asked.Entry (request.Take key edition)
asked_of key edition Release = asked.Entry (request.Release key edition)
asked_of key edition (Late change) = asked.Entry (request.Late key edition change)
asked_of key edition Reopen = asked.Entry (request.Reopen key edition)
asked_of key edition Depart = asked.Entry (request.Depart key edition)

-- what a request of a route asks, or the first reason for which it asks nothing: its method, its edition, its body, its key
abbrev pub AsksOf : Route → List ℕ → List ℕ → List ℕ → Result Asked PlainError → Type 0
AsksOf route method target body (Ok it) =
    (method ≡ method_of route)
    × ((edition : ℕ) × HasEdition route target edition
    × ((wanted : Wanted) × Wants route body (Some wanted) × (is_keyed target wanted ≡ true) × (it ≡ asked_of (key_in target) edition wanted)))
AsksOf route method target body (Err error.Method) = method ≢ method_of route
AsksOf route method target body (Err error.Edition) =
    (method ≡ method_of route) × ((edition : ℕ) → HasEdition route target edition → ⊥)
AsksOf route method target body (Err error.Body) =
    (method ≡ method_of route) × ((edition : ℕ) × HasEdition route target edition) × Wants route body None
AsksOf route method target body (Err error.NoFlight) =
    (method ≡ method_of route) × ((edition : ℕ) × HasEdition route target edition)
    × ((wanted : Wanted) × Wants route body (Some wanted) × (is_keyed target wanted ≡ false))
AsksOf route method target body (Err _) = ⊥

-- the same for a target, which may have no route
abbrev pub AsksBy : Option Route → List ℕ → List ℕ → List ℕ → Result Asked PlainError → Type 0
AsksBy None method target body it = it ≡ Err error.NoRoute
AsksBy (Some route) method target body it = AsksOf route method target body it

-- what a request with this method, target and body asks
abbrev pub Asks : List ℕ → List ℕ → List ℕ → Result Asked PlainError → Type 0
Asks method target body it = AsksBy (route_of target) method target body it
