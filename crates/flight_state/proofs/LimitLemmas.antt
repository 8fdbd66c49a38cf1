-- the figures that count keep the limits of the figures before the late changes
use Rattle.std.proofs.Common.{◌≡◌, ℕ, ◌-◌, ◌≤◌, true, ◌&&◌, ℤ, pos, negsuc, ◌+ℤ◌, List, [], ◌∷◌, length, set, replicate, refl, sym, ◌∙◌, subst, arith, All, Option, Some, None}
use Rattle.std.specs.Prelude.{int_le, nat_le, unsigned_abs}
use Rattle.std.proofs.lemmas.Bool.{true≢false, and_parts, leb-true}
use Rattle.std.proofs.lemmas.List.{length-set, length-append}
use Rattle.std.proofs.lemmas.List.Elements.{All-append, All-replicate, All-set, All-push}
use Rattle.payload.specs.declared.figures.ZoneCount.{ZoneCount}
use Rattle.trim.specs.Limits.{HasFewPassengers}
use Rattle.trim.specs.declared.figures.LooseFigure.{LooseFigure}
use Rattle.trim.specs.declared.figures.Figures.{Figures}
use Rattle.trim.specs.Limits as figures
use Rattle.flight_state.specs.Effective.{changed, stays_within, nobody, up_to_zone, count_in, changed_count, put_load, count_by, count_with, load_at, place_at, changed_load, with_change, with_changes, effective, can_add, can_add_all, IsLooseWithin, KeepsLimits}
use Rattle.flight_state.specs.declared.change.Lmc.{Lmc}
use Rattle.flight_state.specs.declared.change.Lmc.TheVariants.{Cabin, Loose}
use Rattle.flight_state.specs.declared.state.FlightState.{FlightState}

within-abs : (most : ℕ) (s : ℤ) → int_le (pos 0) s ≡ true → int_le s (pos most) ≡ true → unsigned_abs s ≤ most
within-abs most (pos a) low high = leb-true a most high
within-abs most (negsuc a) low high = absurd (true≢false (sym low))

pub changed-within : (most n : ℕ) (z : ℤ) → stays_within most n z ≡ true → changed n z ≤ most
changed-within most n z e =
    let parts = and_parts (int_le (pos 0) (pos n +ℤ z)) (int_le (pos n +ℤ z) (pos most)) e in
    within-abs most (pos n +ℤ z) parts.0 parts.1

-- what a change keeps --------------------------------------------------------------------------------

-- the parts that no late change touches
pub record AreSameParts (f g : Figures) : Type 0 where
  pub dry : g.dry ≡ f.dry
  pub fuel : g.fuel ≡ f.fuel
  pub regulated : g.regulated ≡ f.regulated
  pub containers : g.containers ≡ f.containers

one_same : (f : Figures) (l : Lmc) → AreSameParts f (with_change f l)
one_same f (Cabin zone adults children infants) = record { dry = refl; fuel = refl; regulated = refl; containers = refl }
one_same f (Loose position mass pieces) = record { dry = refl; fuel = refl; regulated = refl; containers = refl }

pub same_parts : (f : Figures) (changes : List Lmc) → AreSameParts f (with_changes f changes)
same_parts f [] = record { dry = refl; fuel = refl; regulated = refl; containers = refl }
same_parts f (l ∷ changes) =
    let one = one_same f l in
    let rest = same_parts (with_change f l) changes in
    record { dry = rest.dry ∙ one.dry; fuel = rest.fuel ∙ one.fuel; regulated = rest.regulated ∙ one.regulated; containers = rest.containers ∙ one.containers }

-- the limits that a change keeps
pub record AreWithin (f : Figures) : Type 0 where
  pub passengers : All HasFewPassengers f.cabin
  pub few : length f.loose ≤ 64
  pub loose : All IsLooseWithin f.loose

count_few : (count : ZoneCount) (adults children infants : ℤ) → stays_within 999 count.adults adults ≡ true → stays_within 999 count.children children ≡ true → stays_within 999 count.infants infants ≡ true → HasFewPassengers (changed_count count adults children infants)
count_few count adults children infants a c i = (changed-within 999 count.adults adults a, changed-within 999 count.children children c, changed-within 999 count.infants infants i)

cabin_kept : (zone : ℕ) (count : ZoneCount) (cabin : List ZoneCount) → HasFewPassengers count → All HasFewPassengers cabin → All HasFewPassengers (set (up_to_zone zone cabin) (zone - 1) count)
cabin_kept zone count cabin few each =
    All-set HasFewPassengers (up_to_zone zone cabin) (zone - 1) count few
    (All-append HasFewPassengers cabin (replicate (zone - length cabin) nobody) each (All-replicate HasFewPassengers (zone - length cabin) nobody (omega arith, omega arith, omega arith)))

load_kept : (place : Option ℕ) (load : LooseFigure) (loose : List LooseFigure) → IsLooseWithin load → All IsLooseWithin loose → All IsLooseWithin (put_load place load loose)
load_kept (Some at) load loose within each = All-set IsLooseWithin loose at load within each
load_kept None load loose within each = All-push IsLooseWithin loose load each within

load_count : (place : Option ℕ) (load : LooseFigure) (loose : List LooseFigure) → length (put_load place load loose) ≡ count_by place (length loose)
load_count (Some at) load loose = length-set loose at load
load_count None load loose = length-append loose (load ∷ [])

pub within_change : (f : Figures) (l : Lmc) → can_add f l ≡ true → AreWithin f → AreWithin (with_change f l)
within_change f (Cabin zone adults children infants) e w =
    let count = count_in zone f.cabin in
    let parts = and_parts (nat_le 1 zone && nat_le zone 16) (stays_within 999 count.adults adults && (stays_within 999 count.children children && stays_within 999 count.infants infants)) e in
    let counts = and_parts (stays_within 999 count.adults adults) (stays_within 999 count.children children && stays_within 999 count.infants infants) parts.1 in
    let others = and_parts (stays_within 999 count.children children) (stays_within 999 count.infants infants) counts.1 in
    record {
      passengers = cabin_kept zone (changed_count count adults children infants) f.cabin (count_few count adults children infants counts.0 others.0 others.1) w.passengers;
      few = w.few;
      loose = w.loose;
    }
within_change f (Loose position mass pieces) e w =
    let load = load_at position f.loose in
    let parts = and_parts (stays_within 1000000 load.mass.0 mass) (stays_within 999 load.pieces pieces && nat_le (count_with position f.loose) 64) e in
    let others = and_parts (stays_within 999 load.pieces pieces) (nat_le (count_with position f.loose) 64) parts.1 in
    let next = changed_load load mass pieces in
    let long = load_count (place_at position f.loose) next f.loose in
    let few : count_with position f.loose ≤ 64 = leb-true (count_with position f.loose) 64 others.1 in
    record {
      passengers = w.passengers;
      few = omega (arith, long, few);
      loose = load_kept (place_at position f.loose) next f.loose
          (changed-within 1000000 load.mass.0 mass parts.0, changed-within 999 load.pieces pieces others.0) w.loose;
    }

pub within_changes : (f : Figures) (changes : List Lmc) → can_add_all f changes ≡ true → AreWithin f → AreWithin (with_changes f changes)
within_changes f [] e w = w
within_changes f (l ∷ changes) e w =
    let parts = and_parts (can_add f l) (can_add_all (with_change f l) changes) e in
    within_changes (with_change f l) changes parts.1 (within_change f l parts.0 w)

-- the cabin of the figures that count is at least as long as the one before
pub cabin_longer : (f : Figures) (changes : List Lmc) → length f.cabin ≤ length (with_changes f changes).cabin
cabin_longer f [] = omega arith
cabin_longer f (Cabin zone adults children infants ∷ changes) =
    let l : Lmc = Cabin zone adults children infants in
    let rest = cabin_longer (with_change f l) changes in
    let long = length-set (up_to_zone zone f.cabin) (zone - 1) (changed_count (count_in zone f.cabin) adults children infants) in
    let all = length-append f.cabin (replicate (zone - length f.cabin) nobody) in
    omega (arith, rest, long, all)
cabin_longer f (Loose position mass pieces ∷ changes) = cabin_longer (with_change f (Loose position mass pieces)) changes

-- a state that keeps its limits has figures that keep them, with its late changes too
pub effective_within : (s : FlightState) → KeepsLimits s → AreWithin (effective s)
effective_within s k = within_changes s.base s.lmcs k.changes (record { passengers = k.figures.passengers; few = k.figures.loose; loose = k.loose })

pub effective_keeps : (s : FlightState) → KeepsLimits s → figures.KeepsLimits (effective s)
effective_keeps s k =
    let same = same_parts s.base s.lmcs in
    let within = effective_within s k in
    let k' = k.figures in
    record {
      dry = subst (λ d. d.mass.0 ≤ 1000000) (sym same.dry) k'.dry;
      at = subst (λ d. unsigned_abs d.index.0 ≤ 1000000000) (sym same.dry) k'.at;
      taxi = subst (λ fuel. fuel.taxi.0 ≤ 1000000) (sym same.fuel) k'.taxi;
      take_off = subst (λ fuel. fuel.take_off.0 ≤ 1000000) (sym same.fuel) k'.take_off;
      trip = subst (λ fuel. fuel.trip.0 ≤ fuel.take_off.0) (sym same.fuel) k'.trip;
      passengers = within.passengers;
      containers = subst (λ items. length items ≤ 64) (sym same.containers) k'.containers;
      masses = subst (λ items. All (λ item. item.mass.0 ≤ 1000000) items) (sym same.containers) k'.masses;
      loose = within.few;
    }
