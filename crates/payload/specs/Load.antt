-- The load of a cabin, and of loose pieces: passengers and bags at the operator's averages.
use Rattle.std.specs.Prelude.{ℕ, ◌+◌, ◌*◌, ◌^◌, ◌<◌, ℤ, pos, ◌*ℤ◌, List, sum_by}
use Rattle.std.specs.List.{zip}
use Rattle.base_words.specs.Lists.{int_sum_by}
use Rattle.payload.specs.declared.figures.Averages.{Averages}
use Rattle.payload.specs.declared.figures.Load.{Load}
use Rattle.payload.specs.declared.figures.Zone.{Zone}
use Rattle.payload.specs.declared.figures.ZoneCount.{ZoneCount}

-- the mass of the passengers of a zone, each at the average of their kind
abbrev pub zone_mass : Averages → ZoneCount → ℕ
zone_mass average count =
    count.adults * average.adult.0 + count.children * average.child.0 + count.infants * average.infant.0

-- the index of a zone: its mass times its influence
abbrev pub zone_index : Averages → ZoneCount × Zone → ℤ
zone_index average (count, zone) = pos (zone_mass average count) *ℤ zone.influence

-- the mass of a cabin: that of its zones
abbrev pub cabin_mass : Averages → List ZoneCount → ℕ
cabin_mass average cabin = sum_by (zone_mass average) cabin

-- the index of a cabin: that of its zones, each at its own influence
abbrev pub cabin_index : Averages → List Zone → List ZoneCount → ℤ
cabin_index average zones cabin = int_sum_by (zone_index average) (zip cabin zones)

-- the adults of a cabin
abbrev pub adults_in : List ZoneCount → ℕ
adults_in cabin = sum_by (λ count. count.adults) cabin

-- the children of a cabin
abbrev pub children_in : List ZoneCount → ℕ
children_in cabin = sum_by (λ count. count.children) cabin

-- the infants of a cabin
abbrev pub infants_in : List ZoneCount → ℕ
infants_in cabin = sum_by (λ count. count.infants) cabin

-- the load of a cabin
abbrev pub load_of : Averages → List Zone → List ZoneCount → Load
load_of average zones cabin = record {
  mass = record { 0 = cabin_mass average cabin };
  index = record { 0 = cabin_index average zones cabin };
  adults = adults_in cabin;
  children = children_in cabin;
  infants = infants_in cabin;
}

-- the mass of a cabin and the number of its passengers of each kind are numbers of 32 bits
pub record FitsLoad (average : Averages) (cabin : List ZoneCount) : Type 0 where
  pub mass : cabin_mass average cabin < 2 ^ 32
  pub adults : adults_in cabin < 2 ^ 32
  pub children : children_in cabin < 2 ^ 32
  pub infants : infants_in cabin < 2 ^ 32

-- the greatest mass of a loose load, in kilograms
abbrev pub most_loose : ℕ
most_loose = 20000

-- the mass of a loose load: what was weighed, and its pieces at the average of a bag
abbrev pub loose_mass_of : ℕ → ℕ → Averages → ℕ
loose_mass_of mass pieces average = mass + pieces * average.bag.0
