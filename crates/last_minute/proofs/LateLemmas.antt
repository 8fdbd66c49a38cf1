-- the figures of a flight with a late change, and what the tests of the change find
use Rattle.std.proofs.Common.{◌≡◌, ◌≢◌, ◌↔◌, ⊎_elim, ℕ, ◌<◌, ◌≤◌, ◌==◌, ℤ, pos, ◌-ℤ◌, ◌≤ℤ◌, unsigned_abs, Bool, true, false, ◌&&◌, ◌||◌, nat_lt, nat_le, IsTrue, List, [], ◌∷◌, length, position, Option, Some, None, Result, Ok, Err, IfOk, IfErr, Contains, ap, ap₂, sym, ◌∙◌, subst, refl, arith, All}
use Rattle.std.proofs.lemmas.Bool.{and_parts, cases_Bool, cases_lt}
use Rattle.std.proofs.lemmas.Bool.Decides.{nat_tests}
use Rattle.std.proofs.lemmas.List.Elements.{All-set, All-push}
use Rattle.std.specs.Prelude.{is_some, is_none}
use Rattle.std.specs.Result.{IsErrAnd}
use Rattle.payload.specs.Load.{most_loose}
use Rattle.payload.specs.PayFault.{IsFirstFault}
use Rattle.payload.specs.declared.figures.PayFault.{PayFault}
use Rattle.payload.specs.declared.figures.Zone.{Zone}
use Rattle.hold_limits.proofs.FaultLemmas.{position-none}
use Rattle.aircraft_file.specs.Craft.{Craft}
use Rattle.aircraft_file.specs.Lawful.{IsLawfulCraft}
use Rattle.trim.specs.declared.figures.Dry.{Dry}
use Rattle.trim.specs.declared.figures.Figures.{Figures}
use Rattle.trim.specs.declared.figures.LooseFigure.{LooseFigure}
use Rattle.trim.specs.declared.rules.Rule.{Rule}
use Rattle.trim.specs.Limits as figures
use Rattle.trim.specs.Loads.{bulk_number, figure_mass, is_no_load}
use Rattle.trim.specs.Refusals.{CanBeWeighed, HasCabin}
use Rattle.trim.specs.Rules.{Keeps, AreBroken}
use Rattle.trim.proofs.CabinLemmas.{zones-from_cabin}
use Rattle.trim.proofs.LawLemmas.{listed-is}
use Rattle.trim.proofs.LooseLemmas.{first-none}
use Rattle.trim.proofs.RuleLemmas.{is-true}
use Rattle.flight_state.specs.Effective.{effective, with_change, can_add, put_load, place_at, load_at, changed_load, KeepsLimits}
use Rattle.flight_state.specs.declared.change.Lmc.{Lmc}
use Rattle.flight_state.specs.declared.change.Lmc.TheVariants.{Cabin, Loose}
use Rattle.flight_state.specs.declared.state.FlightState.{FlightState}
use Rattle.flight_state.proofs.LimitLemmas.{AreSameParts, AreWithin, same_parts, within_change, effective_within, effective_keeps, cabin_longer}
use Rattle.last_minute.specs.Planned.{HasBalance, path_of}
use Rattle.last_minute.specs.LateChange.{next_figures, is_there, mass_change, index_change, IsThere, IsSeated, IsTolerated, IsAllowed, IsRefused, IsOver}
use Rattle.last_minute.specs.declared.fault.LmcFault.{LmcFault}
use Rattle.last_minute.specs.declared.fault.LmcFault.TheVariants.{TooMany, NotThere, Pay, MassOver, IndexOver, Breaks, NoMemory}
use Rattle.last_minute.proofs.NamedLoads.{named-load}
use Rattle.last_minute.proofs.NetLemmas.{moved_mass, moved_index, net_mass, net_index}

-- The figures with the change -------------------------------------------------------------------------

pub can-add_there : (a : Craft) (f : Figures) (l : Lmc) → is_there a f l ≡ true → can_add f l ≡ true
can-add_there a f (Cabin zone adults children infants) there =
    let parts = and_parts (nat_le zone (length a.zones)) (can_add f (Cabin zone adults children infants)) there in
    parts.1
can-add_there a f (Loose position mass pieces) there =
    let light = nat_le (figure_mass a (changed_load (load_at position f.loose) mass pieces)) most_loose in
    let parts = and_parts (is_some (bulk_number a.hold position)) (can_add f (Loose position mass pieces) && light) there in
    let others = and_parts (can_add f (Loose position mass pieces)) light parts.1 in
    others.0

-- a flight whose base figures are those that count, with this one change
abbrev one_change : FlightState → Lmc → FlightState
one_change s l = record s { base = effective s; lmcs = l ∷ [] }

one-keeps : (s : FlightState) (l : Lmc) → KeepsLimits s → can_add (effective s) l ≡ true → KeepsLimits (one_change s l)
one-keeps s l k can =
    let same = same_parts s.base s.lmcs in
    let within = effective_within s k in
    record {
      figures = effective_keeps s k;
      dry = subst (λ (dry : Dry). 1 ≤ dry.mass.0) (sym same.dry) k.dry;
      loose = within.loose;
      changes = ap (λ (b : Bool). b && true) can;
      edition = k.edition;
    }

next-same : (s : FlightState) (l : Lmc) → AreSameParts s.base (next_figures s l)
next-same s l =
    let before = same_parts s.base s.lmcs in
    let one = same_parts (effective s) (l ∷ []) in
    record { dry = one.dry ∙ before.dry; fuel = one.fuel ∙ before.fuel; regulated = one.regulated ∙ before.regulated; containers = one.containers ∙ before.containers }

put-right : (P : LooseFigure → Type 0) (place : Option ℕ) (load : LooseFigure) (loose : List LooseFigure) → P load → All P loose → All P (put_load place load loose)
put-right P (Some at) load loose right each = All-set P loose at load right each
put-right P None load loose right each = All-push P loose load each right

is-load : (none : Bool) (mass : ℕ) → none ≡ false → nat_le mass most_loose ≡ true → (none || nat_lt most_loose mass) ≡ false
is-load none mass some light = grind (arith, nat_tests)

some-none : {X : Type 0} (x : Option X) → is_some x ≡ true → is_none x ≡ false
some-none (Some x) some = refl
some-none None some = cc

-- a change that can be made leaves figures that can be weighed, where the cabin has no fault
weighed-with : (a : Craft) (f : Figures) (l : Lmc) → CanBeWeighed a f → is_there a f l ≡ true → HasCabin a (with_change f l) → CanBeWeighed a (with_change f l)
weighed-with a f (Cabin zone adults children infants) w there cabin =
    record { fuel = record { take_off = w.fuel.take_off; landing = w.fuel.landing }; cabin = cabin; loose = w.loose }
weighed-with a f (Loose position mass pieces) w there cabin =
    let load = changed_load (load_at position f.loose) mass pieces in
    let light = nat_le (figure_mass a load) most_loose in
    let parts = and_parts (is_some (bulk_number a.hold position)) (can_add f (Loose position mass pieces) && light) there in
    let others = and_parts (can_add f (Loose position mass pieces)) light parts.1 in
    let known : is_none (bulk_number a.hold load.position) ≡ false =
    ap (λ (name : List ℕ). is_none (bulk_number a.hold name)) (named-load position f.loose) ∙ some-none (bulk_number a.hold position) parts.0 in
    let right : is_no_load a load ≡ false = is-load (is_none (bulk_number a.hold load.position)) (figure_mass a load) known others.1 in
    let P : LooseFigure → Type 0 = λ figure. is_no_load a figure ≡ false in
    record {
      fuel = record { take_off = w.fuel.take_off; landing = w.fuel.landing };
      cabin = cabin;
      loose = first-none (is_no_load a) (put_load (place_at position f.loose) load f.loose) (put-right P (place_at position f.loose) load f.loose right (position-none (is_no_load a) f.loose w.loose));
    }

-- figures with a change that can be made to what is there
pub record AreNext (a : Craft) (s : FlightState) (l : Lmc) (next : Figures) : Type 0 where
  pub there : IsThere a s l
  pub is : next ≡ next_figures s l

unkept : (b : Bool) → b ≡ false → IsTrue b → ⊥
unkept true is h = cc
unkept false is h = cc

pub has-room : (full : Bool) (n : ℕ) → (IsTrue full ↔ (10 ≤ n)) → full ≡ false → n < 10
has-room full n told fails = ⊎_elim (λ (less : n < 10). less) (λ (many : 10 ≤ n). absurd (unkept full fails (told.1 many))) (cases_lt n 10)

pub are-next : (a : Craft) (s : FlightState) (l : Lmc) (before next : Figures) (full there : Bool) → (IsTrue full ↔ (10 ≤ length s.lmcs)) → full ≡ false → before ≡ effective s → there ≡ is_there a before l → there ≡ true → next ≡ with_change before l
    → AreNext a s l next
are-next a s l before next full there told room before_is there_is holds next_is = record {
  there = (has-room full (length s.lmcs) told room, ap (λ (f : Figures). is_there a f l) (sym before_is) ∙ sym there_is ∙ holds);
  is = next_is ∙ ap (λ (f : Figures). with_change f l) before_is;
}

pub next-keeps : (a : Craft) (s : FlightState) (l : Lmc) (next : Figures) → HasBalance a s → AreNext a s l next → figures.KeepsLimits next
next-keeps a s l next has n =
    let can = can-add_there a (effective s) l n.there.1 in
    subst (λ (f : Figures). figures.KeepsLimits f) (sym n.is) (effective_keeps (one_change s l) (one-keeps s l has.limits can))

pub next-within : (a : Craft) (s : FlightState) (l : Lmc) (next : Figures) → HasBalance a s → AreNext a s l next → AreWithin next
next-within a s l next has n =
    let can = can-add_there a (effective s) l n.there.1 in
    subst AreWithin (sym n.is) (within_change (effective s) l can (effective_within s has.limits))

pub next-weighed : (a : Craft) (s : FlightState) (l : Lmc) (next : Figures) → HasBalance a s → AreNext a s l next → HasCabin a next → CanBeWeighed a next
next-weighed a s l next has n cabin =
    subst (CanBeWeighed a) (sym n.is) (weighed-with a (effective s) l has.weighed n.there.1 (subst (HasCabin a) n.is cabin))

pub next-complete : (a : Craft) (s : FlightState) (l : Lmc) (next : Figures) → HasBalance a s → AreNext a s l next → length (path_of s) ≡ length next.containers
next-complete a s l next has n =
    let same = next-same s l in
    has.complete ∙ sym (ap length same.containers) ∙ sym (ap (λ (f : Figures). length f.containers) n.is)

-- a cabin of at most 16 zones, before the changes and with them
pub base-zones : (a : Craft) (s : FlightState) → IsLawfulCraft a → HasBalance a s → length s.base.cabin ≤ 16
base-zones a s lawful has =
    omega (arith, cabin_longer s.base s.lmcs, zones-from_cabin a (effective s) has.weighed.cabin, lawful.limits.zones.few)

pub next-zones : (a : Craft) (next : Figures) → IsLawfulCraft a → HasCabin a next → length next.cabin ≤ 16
next-zones a next lawful cabin = omega (arith, zones-from_cabin a next cabin, lawful.limits.zones.few)

-- The tests -------------------------------------------------------------------------------------------

pub has-cabin : {X : Type 0} (a : Craft) (next : Figures) (zones : List Zone) (load : Result X PayFault) → zones ≡ a.zones → ((fault : PayFault) → (load ≡ Err fault) ↔ IsFirstFault zones next.cabin fault)
    → ((fault : PayFault) → load ≡ Err fault → ⊥) → HasCabin a next
has-cabin a next zones load same told right fault first =
    right fault ((told fault).1 (subst (λ (z : List Zone). IsFirstFault z next.cabin fault) (sym same) first))

pub refused-cabin : (a : Craft) (s : FlightState) (l : Lmc) (next : Figures) (zones : List Zone) (fault : PayFault) → AreNext a s l next → zones ≡ a.zones → IsFirstFault zones next.cabin fault
    → IsRefused a s l (Pay fault)
refused-cabin a s l next zones fault n same first =
    (n.there, subst (λ (f : Figures). IsFirstFault a.zones f.cabin fault) n.is (subst (λ (z : List Zone). IsFirstFault z next.cabin fault) same first))

-- what passengers and loose loads weigh before the changes and with them
pub record AreTold (a : Craft) (s : FlightState) (next : Figures) (base_mass next_mass : ℕ) (base_index next_index : ℤ) : Type 0 where
  pub base_mass_is : base_mass ≡ moved_mass a s.base
  pub next_mass_is : next_mass ≡ moved_mass a next
  pub base_index_is : base_index ≡ moved_index a s.base
  pub next_index_is : next_index ≡ moved_index a next

mass-told : (a : Craft) (s : FlightState) (l : Lmc) (next : Figures) (m n : ℕ) (i j : ℤ) → AreNext a s l next → AreTold a s next m n i j → pos n -ℤ pos m ≡ mass_change a s l
mass-told a s l next m n i j are told =
    ap₂ (λ (x y : ℕ). pos x -ℤ pos y) (told.next_mass_is ∙ ap (moved_mass a) are.is) told.base_mass_is
    ∙ sym (net_mass a s.base (next_figures s l) (next-same s l))

index-told : (a : Craft) (s : FlightState) (l : Lmc) (next : Figures) (m n : ℕ) (i j : ℤ) → AreNext a s l next → AreTold a s next m n i j → j -ℤ i ≡ index_change a s l
index-told a s l next m n i j are told =
    ap₂ (λ (x y : ℤ). x -ℤ y) (told.next_index_is ∙ ap (moved_index a) are.is) told.base_index_is
    ∙ sym (net_index a s.base (next_figures s l) (path_of s) (next-same s l))

seated : (a : Craft) (s : FlightState) (l : Lmc) (next : Figures) → AreNext a s l next → HasCabin a next → IsSeated a s l
seated a s l next n cabin = (n.there, subst (HasCabin a) n.is cabin)

over-refused : (a : Craft) (s : FlightState) (l : Lmc) (mass index : ℤ) (fault : LmcFault) → IsSeated a s l → mass ≡ mass_change a s l → index ≡ index_change a s l → IsOver a mass index fault → IsRefused a s l fault
over-refused a s l mass index (MassOver over) sits mass_is index_is h = (sits, h.0 ∙ ap unsigned_abs mass_is, h.1)
over-refused a s l mass index (IndexOver over) sits mass_is index_is h =
    ((sits, subst (λ (z : ℤ). unsigned_abs z ≤ a.tolerance.mass.0) mass_is h.0), h.1 ∙ ap (λ (z : ℤ). pos (unsigned_abs z)) index_is, h.2)
over-refused a s l mass index TooMany sits mass_is index_is h = absurd h
over-refused a s l mass index NotThere sits mass_is index_is h = absurd h
over-refused a s l mass index (Pay fault) sits mass_is index_is h = absurd h
over-refused a s l mass index (Breaks rules) sits mass_is index_is h = absurd h
over-refused a s l mass index NoMemory sits mass_is index_is h = absurd h

pub refused-tolerance : (a : Craft) (s : FlightState) (l : Lmc) (next : Figures) (m n : ℕ) (i j : ℤ) (fault : LmcFault) → AreNext a s l next → HasCabin a next → AreTold a s next m n i j → IsOver a (pos n -ℤ pos m) (j -ℤ i) fault
    → IsRefused a s l fault
refused-tolerance a s l next m n i j fault are cabin told over =
    over-refused a s l (pos n -ℤ pos m) (j -ℤ i) fault (seated a s l next are cabin) (mass-told a s l next m n i j are told) (index-told a s l next m n i j are told) over

pub tolerated : (a : Craft) (s : FlightState) (l : Lmc) (next : Figures) (m n : ℕ) (i j : ℤ) → AreNext a s l next → HasCabin a next → AreTold a s next m n i j
    → unsigned_abs (pos n -ℤ pos m) ≤ a.tolerance.mass.0 → pos (unsigned_abs (j -ℤ i)) ≤ℤ a.tolerance.index.0 → IsTolerated a s l
tolerated a s l next m n i j are cabin told mass index = (
  (seated a s l next are cabin, subst (λ (z : ℤ). unsigned_abs z ≤ a.tolerance.mass.0) (mass-told a s l next m n i j are told) mass),
  subst (λ (z : ℤ). pos (unsigned_abs z) ≤ℤ a.tolerance.index.0) (index-told a s l next m n i j are told) index,
)

-- Rules -----------------------------------------------------------------------------------------------

is-empty : (n : ℕ) (b : Bool) → b ≡ (n == 0) → b ≡ true → n ≡ 0
is-empty n b is holds = grind (arith, nat_tests)

is-some : (n : ℕ) (b : Bool) → b ≡ (n == 0) → b ≡ false → n ≡ 0 → ⊥
is-some n b is fails zero = grind (arith, nat_tests)

kept-each : (a : Craft) (f : Figures) (path : List ℕ) (found : List Rule) → AreBroken a f path found → length found ≡ 0 → (rule : Rule) → Keeps a f path rule
kept-each a f path found are none rule = ⊎_elim
    (λ (holds : are.keeps rule ≡ true). (are.tells rule).0 (is-true (are.keeps rule) holds))
    (λ (fails : are.keeps rule ≡ false).
    let listed : Contains found rule = (listed-is a f path found rule are).1 (λ (keeps : Keeps a f path rule). unkept (are.keeps rule) fails ((are.tells rule).1 keeps)) in
    absurd (omega (arith, none, listed.1)))
    (cases_Bool (are.keeps rule))

pub refused-rules : (a : Craft) (s : FlightState) (l : Lmc) (next : Figures) (rules : List Rule) (empty : Bool) → AreNext a s l next → IsTolerated a s l → AreBroken a next (path_of s) rules
    → empty ≡ (length rules == 0) → empty ≡ false → IsTolerated a s l × AreBroken a (next_figures s l) (path_of s) rules × (rules ≢ [])
refused-rules a s l next rules empty n within are told fails =
    (within, subst (λ (f : Figures). AreBroken a f (path_of s) rules) n.is are, λ (none : rules ≡ []). is-some (length rules) empty told fails (ap length none))

pub allowed : (a : Craft) (s : FlightState) (l : Lmc) (next : Figures) (rules : List Rule) (empty : Bool) → AreNext a s l next → IsTolerated a s l → AreBroken a next (path_of s) rules
    → empty ≡ (length rules == 0) → empty ≡ true → IsAllowed a s l
allowed a s l next rules empty n within are told holds = record {
  tolerated = within;
  kept = kept-each a (next_figures s l) (path_of s) rules (subst (λ (f : Figures). AreBroken a f (path_of s) rules) n.is are) (is-empty (length rules) empty told holds);
}

-- Answers ---------------------------------------------------------------------------------------------

pub out-of-memory : (a : Craft) (s : FlightState) (l : Lmc) (answer : Result FlightState LmcFault) → IsErrAnd answer (λ fault. fault ≡ NoMemory) → IfErr answer (IsRefused a s l)
out-of-memory a s l (Ok next) is = tt
out-of-memory a s l (Err fault) is = subst (IsRefused a s l) (sym is) tt

pub only-memory : (a : Craft) (s : FlightState) (l : Lmc) (answer : Result FlightState LmcFault) → IfErr answer (λ fault. fault ≡ NoMemory) → IfErr answer (IsRefused a s l)
only-memory a s l (Ok next) is = tt
only-memory a s l (Err fault) is = subst (IsRefused a s l) (sym is) tt

pub where-made : (P : Type 0) (answer : Result FlightState LmcFault) → P → IfOk answer (λ _. P)
where-made P (Ok next) p = p
where-made P (Err fault) p = tt
