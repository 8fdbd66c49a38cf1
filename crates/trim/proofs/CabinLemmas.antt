-- how heavy a cabin is, and how far its index reaches
use Rattle.std.proofs.Common.{◌+◌, ◌*◌, ◌<◌, ◌≤◌, ⊎_elim, refl, length, get_or, All, arith, sym, subst, unsigned_abs, zip, pos}
use Rattle.std.proofs.lemmas.Bool.{cases_lt}
use Rattle.std.proofs.lemmas.Int.{unsigned_abs-mul}
use Rattle.std.proofs.lemmas.List.Sums.{sum_by-le}
use Rattle.std.proofs.lemmas.Nat.{mul-le}
use Rattle.std.proofs.lemmas.Slice.Zip.{get_or-zip, length-zip}
use Rattle.std.proofs.Math.Nat.{mul-le-mul}
use Rattle.hold_limits.proofs.MomentLemmas.{int_sum_by-bound}
use Rattle.payload.specs.Load.{FitsLoad, zone_mass, zone_index, cabin_mass, cabin_index}
use Rattle.payload.specs.PayFault.{HasZones}
use Rattle.payload.specs.declared.figures.PayFault.TheVariants.{ZoneUnknown}
use Rattle.payload.specs.declared.figures.Averages.{Averages}
use Rattle.payload.specs.declared.figures.Zone.{Zone}
use Rattle.payload.specs.declared.figures.ZoneCount.{ZoneCount}
use Rattle.payload.proofs.FitsLoadLemmas.{FitsLoad-within_limits}
use Rattle.aircraft_file.specs.Craft.{Craft}
use Rattle.aircraft_file.specs.Lawful.{IsLawfulCraft, AreAverages, IsZone}
use Rattle.trim.specs.declared.figures.Figures.{Figures}
use Rattle.trim.specs.Limits.{HasFewPassengers, KeepsLimits}
use Rattle.trim.specs.Refusals.{HasCabin}

-- a cabin without a fault has a zone for each count
pub zones-from_cabin : (a : Craft) (f : Figures) → HasCabin a f → HasZones a.zones f.cabin
zones-from_cabin a f right = ⊎_elim
    (λ (more : length a.zones < length f.cabin). absurd (right (ZoneUnknown (length a.zones + 1)) (more, refl)))
    (λ (within : length f.cabin ≤ length a.zones). within)
    (cases_lt (length a.zones) (length f.cabin))

pub cabin-fits : (a : Craft) (f : Figures) → IsLawfulCraft a → KeepsLimits f → HasZones a.zones f.cabin → FitsLoad a.averages f.cabin
cabin-fits a f lawful keeps zones = FitsLoad-within_limits a.averages f.cabin (record {
  zones = omega (arith, zones, lawful.limits.zones.few);
  adults = λ k d within. (keeps.passengers k d within).0;
  children = λ k d within. (keeps.passengers k d within).1;
  infants = λ k d within. (keeps.passengers k d within).2;
  adult = lawful.limits.figures.averages.adult;
  child = lawful.limits.figures.averages.child;
  infant = lawful.limits.figures.averages.infant;
})

zone-light : (averages : Averages) (count : ZoneCount) → AreAverages averages → HasFewPassengers count → zone_mass averages count ≤ 899100
zone-light averages count most few =
    let a = mul-le _ averages.adult.0 999 300 few.0 most.adult in
    let b = mul-le _ averages.child.0 999 300 few.1 most.child in
    let c = mul-le _ averages.infant.0 999 300 few.2 most.infant in
    omega arith

pub cabin-light : (a : Craft) (f : Figures) → IsLawfulCraft a → KeepsLimits f → HasZones a.zones f.cabin → cabin_mass a.averages f.cabin ≤ 1000000000
cabin-light a f lawful keeps zones =
    let most = sum_by-le (zone_mass a.averages) 899100 f.cabin (λ k d within. zone-light a.averages _ lawful.limits.figures.averages (keeps.passengers k d within)) in
    omega (arith, most, zones, lawful.limits.zones.few)

zone-near : (averages : Averages) (p : ZoneCount × Zone) → zone_mass averages p.0 ≤ 899100 → IsZone p.1 → unsigned_abs (zone_index averages p) ≤ 89910000000
zone-near averages (count, zone) light within =
    let product : zone_mass averages count * unsigned_abs zone.influence ≤ 899100 * 100000 = mul-le-mul light within.1 in
    omega (arith, unsigned_abs-mul (pos (zone_mass averages count)) zone.influence, product)

pub cabin-near : (a : Craft) (f : Figures) → IsLawfulCraft a → KeepsLimits f → HasZones a.zones f.cabin → unsigned_abs (cabin_index a.averages a.zones f.cabin) ≤ 100000000000000
cabin-near a f lawful keeps zones =
    let counted = length-zip f.cabin a.zones in
    let P : ZoneCount × Zone → Type 0 = λ p. unsigned_abs (zone_index a.averages p) ≤ 89910000000 in
    let each : All P (zip f.cabin a.zones) = λ k d within.
    let in_cabin : k < length f.cabin = omega (arith, counted) in
    let in_zones : k < length a.zones = omega (arith, counted) in
    let count : ZoneCount = get_or f.cabin k d.0 in
    let zone : Zone = get_or a.zones k d.1 in
    subst P (sym (get_or-zip f.cabin a.zones k d in_cabin in_zones))
    (zone-near a.averages (count, zone)
    (zone-light a.averages count lawful.limits.figures.averages (keeps.passengers k d.0 in_cabin))
    (lawful.limits.zones.each k d.1 in_zones)) in
    let most = int_sum_by-bound (zone_index a.averages) 89910000000 (zip f.cabin a.zones) each in
    omega (arith, most, counted, zones, lawful.limits.zones.few)
