use Rattle.std.proofs.Common.{◌≤◌, ℕ, List, map, ap, ap₂, sym, ◌∙◌, subst, length, arith, refl, All}
use Rattle.std.proofs.lemmas.List.{length-map}
use Rattle.mass_units.specs.declared.chord.Chord.{Chord}
use Rattle.mass_limits.specs.declared.figures.Certified.{Certified}
use Rattle.mass_limits.specs.declared.figures.Masses.{Masses}
use Rattle.hold_parts.specs.declared.parts.Item.{Item}
use Rattle.hold_parts.specs.declared.parts.Loose.{Loose}
use Rattle.payload.specs.Load.{adults_in, children_in, infants_in, cabin_mass}
use Rattle.payload.specs.declared.figures.Load.{Load}
use Rattle.trim.specs.declared.figures.Figures.{Figures}
use Rattle.trim.specs.declared.figures.LooseFigure.{LooseFigure}
use Rattle.trim.specs.Balance.{IsBalance}
use Rattle.trim.specs.Limits.{KeepsLimits}
use Rattle.trim.specs.Loads.{container_mass, load_told, loose_mass, offer}
use Rattle.trim.specs.Refusals.{CanBeWeighed, HasCabin}
use Rattle.flight_state.specs.Effective.{IsLooseWithin}
use Rattle.flight_state.proofs.LimitLemmas.{effective_keeps, effective_within}
use Rattle.last_minute.specs.Planned.{path_of}
use Rattle.last_minute.specs.Sheets.{AreCentres, places_of}
use Rattle.last_minute.proofs.SheetLemmas.{path-is, heavy, complete-effective}
use Rattle.last_minute.proofs.issuing.sheet_with.Goals as goal

pub balance_of-balance-requires-clause-limits : goal.balance_of-balance-requires-clause-limits
balance_of-balance-requires-clause-limits c = subst KeepsLimits (sym c.requires.figures) (effective_keeps c.args.s.now c.requires.balance.limits)

pub balance_of-balance-requires-clause-complete : goal.balance_of-balance-requires-clause-complete
balance_of-balance-requires-clause-complete c =
    complete-effective c.args.a.now c.args.s.now c.in-Some.path c.requires.balance c.in-Some.is ∙ sym (ap (λ (f : Figures). length f.containers) c.requires.figures)

pub balance_of-balance-requires-clause-weighed : goal.balance_of-balance-requires-clause-weighed
balance_of-balance-requires-clause-weighed c = subst (CanBeWeighed c.args.a.now) (sym c.requires.figures) c.requires.balance.weighed

pub cabin_of-cabin-requires-clause-limits : goal.cabin_of-cabin-requires-clause-limits
cabin_of-cabin-requires-clause-limits c = subst KeepsLimits (sym c.requires.figures) (effective_keeps c.args.s.now c.requires.balance.limits)

pub cabin_of-cabin-requires-clause-cabin : goal.cabin_of-cabin-requires-clause-cabin
cabin_of-cabin-requires-clause-cabin c = subst (HasCabin c.args.a.now) (sym c.requires.figures) c.requires.balance.weighed.cabin

pub loads_told-requires : goal.loads_told-requires
loads_told-requires c =
    let within = effective_within c.args.s.now c.requires.balance.limits in
    subst (λ (loads : List LooseFigure). All IsLooseWithin loads) (sym (c.as_slice.ensures ∙ ap (λ (f : Figures). f.loose) c.requires.figures)) within.loose

pub mass_of_containers-requires-clause-few : goal.mass_of_containers-requires-clause-few
mass_of_containers-requires-clause-few c =
    let keeps = effective_keeps c.args.s.now c.requires.balance.limits in
    subst (λ (items : List Item). length items ≤ 64) (sym (c.as_slice-2.ensures ∙ ap (λ (f : Figures). f.containers) c.requires.figures)) keeps.containers

pub mass_of_containers-requires-clause-light : goal.mass_of_containers-requires-clause-light
mass_of_containers-requires-clause-light c =
    let keeps = effective_keeps c.args.s.now c.requires.balance.limits in
    subst (λ (items : List Item). All (λ (item : Item). item.mass.0 ≤ 1000000) items) (sym (c.as_slice-2.ensures ∙ ap (λ (f : Figures). f.containers) c.requires.figures)) keeps.masses

pub mass_of_loads-requires-clause-few : goal.mass_of_loads-requires-clause-few
mass_of_loads-requires-clause-few c =
    let keeps = effective_keeps c.args.s.now c.requires.balance.limits in
    let told = ap length (c.as_slice-3.ensures.value ∙ c.in_ok-loads.ensures.told) in
    let listed = ap length (c.as_slice.ensures ∙ ap (λ (f : Figures). f.loose) c.requires.figures) in
    omega (arith, told, length-map c.as_slice.result.now (load_told c.args.a.now), listed, keeps.loose)

pub mass_of_loads-requires-clause-light : goal.mass_of_loads-requires-clause-light
mass_of_loads-requires-clause-light c =
    subst (λ (loads : List Loose). All (λ (load : Loose). load.mass.0 ≤ 1300000) loads) (sym c.as_slice-3.ensures.value) c.in_ok-loads.ensures.light

pub centres_of-requires-clause-zero_fuel : goal.centres_of-requires-clause-zero_fuel
centres_of-requires-clause-zero_fuel c =
    let dry = subst (λ (f : Figures). 1 ≤ f.dry.mass.0) (sym c.requires.figures) (heavy c.args.s.now c.requires.balance.limits) in
    omega (arith, ap (λ (masses : Masses). masses.zero_fuel.0) c.balance_of-balance.ensures.masses, dry)

pub centres_of-requires-clause-take_off : goal.centres_of-requires-clause-take_off
centres_of-requires-clause-take_off c =
    let dry = subst (λ (f : Figures). 1 ≤ f.dry.mass.0) (sym c.requires.figures) (heavy c.args.s.now c.requires.balance.limits) in
    omega (arith, ap (λ (masses : Masses). masses.take_off.0) c.balance_of-balance.ensures.masses, dry)

pub centres_of-requires-clause-landing : goal.centres_of-requires-clause-landing
centres_of-requires-clause-landing c =
    let dry = subst (λ (f : Figures). 1 ≤ f.dry.mass.0) (sym c.requires.figures) (heavy c.args.s.now c.requires.balance.limits) in
    let keeps = subst KeepsLimits (sym c.requires.figures) (effective_keeps c.args.s.now c.requires.balance.limits) in
    omega (arith, ap (λ (masses : Masses). masses.landing.0) c.balance_of-balance.ensures.masses, dry, keeps.trip)

pub centres_of-requires-clause-chord : goal.centres_of-requires-clause-chord
centres_of-requires-clause-chord c =
    let chord = c.chord.ensures.lawful.limits.figures.chord in
    omega (arith, ap (λ (chord : Chord). chord.mac_mm) c.chord.ensures.value, chord.mac.0)

pub places_of-requires-clause-limits : goal.places_of-requires-clause-limits
places_of-requires-clause-limits c = subst KeepsLimits (sym c.requires.figures) (effective_keeps c.args.s.now c.requires.balance.limits)

pub places_of-requires-clause-complete : goal.places_of-requires-clause-complete
places_of-requires-clause-complete c =
    complete-effective c.args.a.now c.args.s.now c.in-Some.path c.requires.balance c.in-Some.is ∙ sym (ap (λ (f : Figures). length f.containers) c.requires.figures)

pub places_of-requires-clause-loose : goal.places_of-requires-clause-loose
places_of-requires-clause-loose c = c.as_slice-4.ensures.value ∙ c.in_ok-loads.ensures.told ∙ ap (map (load_told c.args.a.now)) c.as_slice.ensures

pub places_of-requires-clause-light : goal.places_of-requires-clause-light
places_of-requires-clause-light c =
    subst (λ (loads : List Loose). All (λ (load : Loose). load.mass.0 ≤ 1300000) loads) (sym c.as_slice-4.ensures.value) c.in_ok-loads.ensures.light

pub returns : goal.returns
returns c =
    let a = c.args.a.now in
    let s = c.args.s.now in
    let is = c.requires.figures in
    let path = path-is s c.in-Some.path c.in-Some.is in
    let balance = c.balance_of-balance.result in
    record {
      leg = refl;
      version = c.version.ensures.value;
      edition = refl;
      dry = ap (λ (f : Figures). f.dry) is;
      fuel = ap (λ (f : Figures). f.fuel) is;
      regulated = ap (λ (f : Figures). f.regulated) is;
      max_zero_fuel = ap (λ (limits : Certified). limits.zero_fuel) c.certified.ensures.value;
      adults = ap (λ (load : Load). load.adults) c.cabin_of-cabin.ensures ∙ ap (λ (f : Figures). adults_in f.cabin) is;
      children = ap (λ (load : Load). load.children) c.cabin_of-cabin.ensures ∙ ap (λ (f : Figures). children_in f.cabin) is;
      infants = ap (λ (load : Load). load.infants) c.cabin_of-cabin.ensures ∙ ap (λ (f : Figures). infants_in f.cabin) is;
      cabin_mass = ap (λ (load : Load). load.mass.0) c.cabin_of-cabin.ensures ∙ ap (λ (f : Figures). cabin_mass a.averages f.cabin) is;
      container_mass = c.mass_of_containers.ensures ∙ ap container_mass c.as_slice-2.ensures ∙ ap (λ (f : Figures). container_mass f.containers) is;
      loose_mass = c.mass_of_loads.ensures.sum
          ∙ ap loose_mass (c.as_slice-3.ensures.value ∙ c.in_ok-loads.ensures.told ∙ ap (map (load_told a)) (c.as_slice.ensures ∙ ap (λ (f : Figures). f.loose) is));
      balance = subst (λ (f : Figures). IsBalance a f (path_of s) balance) is (subst (λ (p : List ℕ). IsBalance a c.args.figures.now p balance) (sym path) c.balance_of-balance.ensures);
      mac = subst (λ (chord : Chord). AreCentres chord balance c.centres_of.result) c.chord.ensures.value c.centres_of.ensures;
      places = c.in_ok-places_of.ensures ∙ ap₂ (λ (f : Figures) (p : List ℕ). places_of (offer a f) p) is (sym path);
      lmcs = c.in_ok-clone.ensures.cases;
    }
