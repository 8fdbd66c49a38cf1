-- What is wrong with a cabin, and which of several faults is reported.
use Rattle.std.specs.Prelude.{◌≡◌, ℕ, ◌+◌, ◌<◌, ◌≤◌, Bool, nat_lt, Option, Some, None, List, length, find, option_map}
use Rattle.std.specs.List.{zip, enumerate_from}
use Rattle.payload.specs.Load.{adults_in, infants_in}
use Rattle.payload.specs.declared.figures.PayFault.{PayFault}
use Rattle.payload.specs.declared.figures.PayFault.TheVariants.{ZoneUnknown, ZoneFull, InfantsOverAdults}
use Rattle.payload.specs.declared.figures.Zone.{Zone}
use Rattle.payload.specs.declared.figures.ZoneCount.{ZoneCount}

-- adults and children are more than the zone's seats; infants take none
abbrev pub is_overfull : ZoneCount → Zone → Bool
is_overfull count zone = nat_lt zone.capacity (count.adults + count.children)

-- the first overfull zone: its number, from 1, and its seats
abbrev pub first_overfull : List Zone → List ZoneCount → Option (ℕ × ℕ)
first_overfull zones cabin =
    option_map (λ (at, (count, zone)). (at + 1, zone.capacity))
    (find (λ (at, (count, zone)). is_overfull count zone) (enumerate_from 0 (zip cabin zones)))

-- the aircraft has a zone for each count
abbrev pub HasZones : List Zone → List ZoneCount → Type 0
HasZones zones cabin = length cabin ≤ length zones

-- the cabin has this fault, and none that comes before it
abbrev pub IsFirstFault : List Zone → List ZoneCount → PayFault → Type 0
IsFirstFault zones cabin (ZoneUnknown n) = (length zones < length cabin) × (n ≡ length zones + 1)
IsFirstFault zones cabin (ZoneFull n capacity) =
    HasZones zones cabin × (first_overfull zones cabin ≡ Some (n, capacity))
IsFirstFault zones cabin InfantsOverAdults =
    HasZones zones cabin × (first_overfull zones cabin ≡ None) × (adults_in cabin < infants_in cabin)
