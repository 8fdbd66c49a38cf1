-- a flight that began with a mass has one after acts within the limits
use Rattle.std.proofs.Common.{◌≤◌, Bool, true, false, List, [], ◌∷◌, Option, None, Some, cond, sym, subst, arith, unwrap_or}
use Rattle.std.specs.Prelude.{bytes_eq, find, option_map, IfSome}
use Rattle.std.specs.Option.{option_or}
use Rattle.std.specs.List.{All}
use Rattle.std.proofs.lemmas.List.Elements.{All-head, All-tail}
use Rattle.aircraft_file.specs.Craft.{Craft}
use Rattle.aircraft_file.specs.Lawful.{IsLawfulCraft}
use Rattle.trim.specs.declared.figures.Dry.{Dry}
use Rattle.trim.specs.declared.figures.Figures.{Figures}
use Rattle.trim.specs.declared.figures.Fuel.{Fuel}
use Rattle.flight_state.specs.declared.change.Lmc.{Lmc}
use Rattle.flight_state.specs.declared.change.Lmc.TheVariants as change
use Rattle.flight_state.specs.declared.leg.Leg.{Leg}
use Rattle.flight_state.specs.declared.state.FlightState.{FlightState}
use Rattle.flight_state.specs.Effective.{effective, with_change, with_changes}
use Rattle.flight_row.specs.Loading.{aircraft_of}
use Rattle.flight_history.specs.declared.entry.Act.{Act}
use Rattle.flight_history.specs.declared.entry.Act.TheVariants.{NewFlight, Set, Take, Install, Release, Late, Reopen, Depart, Show}
use Rattle.flight_history.specs.declared.request.FigurePart.TheVariants as part
use Rattle.flight_history.specs.Fleet.{new_flight}
use Rattle.flight_history.specs.LastOnes.{last_told}
use Rattle.flight_history.specs.Standing.{dry_by, fuel_by, standing, standing_from}
use Rattle.flight_history.proofs.StandingLemmas.{says}
use Rattle.reply_laws.specs.Alike.{HasMass, IsActWithin, AreWithin}

-- The aircraft ------------------------------------------------------------------------------------------

found-all : (P : Craft → Type 0) (test : Craft → Bool) (xs : List Craft) → All P xs → IfSome (find test xs) P
found-all P test [] all = tt
found-all P test (x ∷ xs) all = by_case (test x) (All-head P x xs all) (found-all P test xs (All-tail P x xs all))
  where
    by_case : (b : Bool) → P x → IfSome (find test xs) P → IfSome (cond b (Some x) (find test xs)) P
    by_case true here rest = here
    by_case false here rest = rest

-- an aircraft of a lawful fleet is lawful
pub lawful-found : (fleet : List Craft) (leg : Leg) → All IsLawfulCraft fleet → IfSome (aircraft_of fleet leg) IsLawfulCraft
lawful-found fleet leg lawful = found-all IsLawfulCraft (λ (a : Craft). bytes_eq a.registration leg.registration) fleet lawful

-- The figures -------------------------------------------------------------------------------------------

changes-mass : (changes : List Lmc) (f : Figures) → HasMass f → HasMass (with_changes f changes)
changes-mass [] f mass = mass
changes-mass (change.Cabin zone adults children infants ∷ changes) f mass =
    changes-mass changes (with_change f (change.Cabin zone adults children infants)) (record { dry = mass.dry; trip = mass.trip })
changes-mass (change.Loose position weight pieces ∷ changes) f mass =
    changes-mass changes (with_change f (change.Loose position weight pieces)) (record { dry = mass.dry; trip = mass.trip })

or-some : {X : Type 0} (P : X → Type 0) (a b : Option X) → IfSome a P → IfSome b P → IfSome (option_or a b) P
or-some P None b h g = g
or-some P (Some x) b h g = h

told-all : {X : Type 0} (tells : Act → Option X) (P : X → Type 0) → ((act : Act) → IsActWithin act → IfSome (tells act) P) → (acts : List Act) → All IsActWithin acts → IfSome (last_told tells acts) P
told-all tells P each [] all = tt
told-all tells P each (act ∷ acts) all =
    or-some P (last_told tells acts) (tells act) (told-all tells P each acts (All-tail IsActWithin act acts all)) (each act (All-head IsActWithin act acts all))

some-or : {X : Type 0} (P : X → Type 0) (o : Option X) (x : X) → IfSome o P → P x → P (unwrap_or o x)
some-or P None x h g = g
some-or P (Some y) x h g = h

abbrev IsDry : Dry → Type 0
IsDry dry = 1 ≤ dry.mass.0

abbrev IsFuel : Fuel → Type 0
IsFuel fuel = fuel.trip.0 ≤ fuel.take_off.0

dry-told : (act : Act) → IsActWithin act → IfSome (dry_by act) IsDry
dry-told (Set edition (part.Dry dry)) within = within.0
dry-told (Set edition _) within = tt
dry-told _ within = tt

fuel-told : (act : Act) → IsActWithin act → IfSome (fuel_by act) IsFuel
fuel-told (Set edition (part.Fuel fuel)) within = within.2
fuel-told (Set edition _) within = tt
fuel-told _ within = tt

mass-after : (o : FlightState) (acts : List Act) → HasMass o.base → All IsActWithin acts → HasMass (effective (standing_from o acts))
mass-after o acts mass told =
    let began = changes-mass o.lmcs o.base mass in
    subst HasMass (sym (says o acts)) (record {
      dry = some-or IsDry (last_told dry_by acts) (effective o).dry (told-all dry_by IsDry dry-told acts told) began.dry;
      trip = some-or IsFuel (last_told fuel_by acts) (effective o).fuel (told-all fuel_by IsFuel fuel-told acts told) began.trip;
    })

abbrev pub IsHeavy : FlightState → Type 0
IsHeavy s = HasMass (effective s)

opened-mass : (leg : Leg) (acts : List Act) (c : Option Craft) → IfSome c IsLawfulCraft → All IsActWithin acts → IfSome (option_map (λ (o : FlightState). standing_from o acts) (option_map (λ (a : Craft). new_flight a leg) c)) IsHeavy
opened-mass leg acts None lawful told = tt
opened-mass leg acts (Some a) lawful told = mass-after (new_flight a leg) acts (record { dry = lawful.limits.figures.dry.mass.0; trip = omega arith }) told

-- the standing after these acts has a mass
pub standing-mass : (fleet : List Craft) (opened : Option FlightState) (acts : List Act) → All IsLawfulCraft fleet → AreWithin opened acts → IfSome (standing fleet opened acts) IsHeavy
standing-mass fleet (Some o) acts lawful within = mass-after o acts within.began within.told
standing-mass fleet None [] lawful within = tt
standing-mass fleet None (NewFlight leg ∷ acts) lawful within = opened-mass leg (NewFlight leg ∷ acts) (aircraft_of fleet leg) (lawful-found fleet leg lawful) within.told
standing-mass fleet None (Set edition told ∷ acts) lawful within = tt
standing-mass fleet None (Take edition ∷ acts) lawful within = tt
standing-mass fleet None (Install edition path same ∷ acts) lawful within = tt
standing-mass fleet None (Release edition ∷ acts) lawful within = tt
standing-mass fleet None (Late edition lmc ∷ acts) lawful within = tt
standing-mass fleet None (Reopen edition ∷ acts) lawful within = tt
standing-mass fleet None (Depart edition ∷ acts) lawful within = tt
standing-mass fleet None (Show what ∷ acts) lawful within = tt
