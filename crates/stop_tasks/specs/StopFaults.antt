-- what is wrong with a load over several sectors: the first kind of fault that there is, at its first place
use Rattle.std.specs.Prelude.{◌≡◌, ◌≢◌, ◌⊎◌, ℕ, ◌+◌, ◌<◌, ◌≤◌, List, length, All, slice_get, Some}
use Rattle.hold_limits.specs.Layout.{Layout}
use Rattle.hold_limits.specs.Problem.{Problem}
use Rattle.stop_tasks.specs.Stops.{Stops, aboard}
use Rattle.stop_tasks.specs.declared.fault.StopFault.{StopFault}
use Rattle.stop_tasks.specs.declared.fault.StopFault.TheVariants.{Sectors, Holds, Leaves, Aboard, Behind}

-- there are two or three sectors
abbrev pub HasSectors : List Problem → Type 0
HasSectors sectors = (length sectors ≡ 2) ⊎ (length sectors ≡ 3)

-- P holds of the first sector, and of the sector at this place, counted from 0
abbrev pub OfSector : (Problem → Problem → Type 0) → List Problem → ℕ → Type 0
OfSector P sectors place = (first sector : Problem) → slice_get sectors 0 ≡ Some first → slice_get sectors place ≡ Some sector → P first sector

-- the sector has the hold of the first one
abbrev pub HasSameHold : List Problem → ℕ → Type 0
HasSameHold = OfSector (λ first sector. sector.hold ≡ first.hold)

-- one number from 1 to the number of sectors for each container of the first sector
pub record HasLeaves (sectors : List Problem) (leaves : List ℕ) : Type 0 where
  pub one_each : (first : Problem) → slice_get sectors 0 ≡ Some first → length leaves ≡ length first.items
  pub known : All (λ number. (1 ≤ number) × (number ≤ length sectors)) leaves

-- the containers of the sector are those of the first one that are still aboard
abbrev pub HasItemsAboard : List Problem → List ℕ → ℕ → Type 0
HasItemsAboard sectors leaves place = OfSector (λ first sector. sector.items ≡ aboard first.items leaves (place + 1)) sectors place

-- two different positions of the hold
abbrev pub ArePlaces : Layout → ℕ × ℕ → Type 0
ArePlaces hold pair = (pair.0 ≢ pair.1) × (pair.0 < length hold.positions) × (pair.1 < length hold.positions)

-- the pair at this place has two different positions
abbrev pub IsPair : List Problem → List (ℕ × ℕ) → ℕ → Type 0
IsPair sectors behind place = (first : Problem) (pair : ℕ × ℕ) → slice_get sectors 0 ≡ Some first → slice_get behind place ≡ Some pair → ArePlaces first.hold pair

-- P holds below this number, and not of it
abbrev pub IsFirstWithout : (ℕ → Type 0) → ℕ → ℕ → Type 0
IsFirstWithout P end place = (place < end) × ((earlier : ℕ) → earlier < place → P earlier) × (P place → ⊥)

-- P holds of each place below this number
abbrev pub AtEach : (ℕ → Type 0) → ℕ → Type 0
AtEach P end = (place : ℕ) → place < end → P place

-- there is nothing wrong
pub record AreLawfulStops (t : Stops) : Type 0 where
  pub sectors : HasSectors t.sectors
  pub holds : AtEach (HasSameHold t.sectors) (length t.sectors)
  pub leaves : HasLeaves t.sectors t.leaves
  pub aboard : AtEach (HasItemsAboard t.sectors t.leaves) (length t.sectors)
  pub behind : AtEach (IsPair t.sectors t.behind) (length t.behind)

-- the fault is there, and none that comes before it. Sectors are numbered from 1, pairs from 0
abbrev pub IsStopFault : Stops → StopFault → Type 0
IsStopFault t (Sectors number) = (number ≡ length t.sectors) × (HasSectors t.sectors → ⊥)
IsStopFault t (Holds number) = HasSectors t.sectors × ((place : ℕ) × (number ≡ place + 1) × IsFirstWithout (HasSameHold t.sectors) (length t.sectors) place)
IsStopFault t Leaves = HasSectors t.sectors × AtEach (HasSameHold t.sectors) (length t.sectors) × (HasLeaves t.sectors t.leaves → ⊥)
IsStopFault t (Aboard number) = HasSectors t.sectors × AtEach (HasSameHold t.sectors) (length t.sectors) × HasLeaves t.sectors t.leaves
    × ((place : ℕ) × (number ≡ place + 1) × IsFirstWithout (HasItemsAboard t.sectors t.leaves) (length t.sectors) place)
IsStopFault t (Behind number) = HasSectors t.sectors × AtEach (HasSameHold t.sectors) (length t.sectors) × HasLeaves t.sectors t.leaves
    × AtEach (HasItemsAboard t.sectors t.leaves) (length t.sectors) × IsFirstWithout (IsPair t.sectors t.behind) (length t.behind) number
