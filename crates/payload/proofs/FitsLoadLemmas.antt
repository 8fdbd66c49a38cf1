-- cabins whose load fits its numbers
use Rattle.std.proofs.Common.{ℕ, ◌*◌, ◌^◌, ◌<◌, ◌≤◌, List, length, All, sum_by, arith}
use Rattle.std.proofs.lemmas.List.Sums.{sum_by-le}
use Rattle.std.proofs.lemmas.Nat.{mul-le}
use Rattle.payload.specs.Load.{FitsLoad, zone_mass}
use Rattle.payload.specs.declared.figures.Averages.{Averages}
use Rattle.payload.specs.declared.figures.ZoneCount.{ZoneCount}

-- at most 16 zones, 999 passengers of a kind in each, and averages of at most 300 kilograms
pub record IsWithinLimits (average : Averages) (cabin : List ZoneCount) : Type 0 where
  pub zones : length cabin ≤ 16
  pub adults : All (λ count. count.adults ≤ 999) cabin
  pub children : All (λ count. count.children ≤ 999) cabin
  pub infants : All (λ count. count.infants ≤ 999) cabin
  pub adult : average.adult.0 ≤ 300
  pub child : average.child.0 ≤ 300
  pub infant : average.infant.0 ≤ 300

-- a sum over at most 16 zones, of at most 899,100 in each
sum_fits : (f : ZoneCount → ℕ) (cabin : List ZoneCount) → length cabin ≤ 16 → All (λ count. f count ≤ 899100) cabin → sum_by f cabin < 2 ^ 32
sum_fits f cabin short small =
    let total : sum_by f cabin ≤ length cabin * 899100 = sum_by-le f 899100 cabin small in
    omega arith

-- the load of such a cabin fits
pub FitsLoad-within_limits : (average : Averages) (cabin : List ZoneCount) → IsWithinLimits average cabin → FitsLoad average cabin
FitsLoad-within_limits average cabin h = record {
  mass = sum_fits (zone_mass average) cabin h.zones (λ k d within.
      let adults = mul-le _ average.adult.0 999 300 (h.adults k d within) h.adult in
      let children = mul-le _ average.child.0 999 300 (h.children k d within) h.child in
      let infants = mul-le _ average.infant.0 999 300 (h.infants k d within) h.infant in
      omega arith);
  adults = sum_fits (λ count. count.adults) cabin h.zones (λ k d within. let few = h.adults k d within in omega arith);
  children = sum_fits (λ count. count.children) cabin h.zones (λ k d within. let few = h.children k d within in omega arith);
  infants = sum_fits (λ count. count.infants) cabin h.zones (λ k d within. let few = h.infants k d within in omega arith);
}
