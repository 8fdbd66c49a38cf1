-- placements of containers in a hold (the index method of FAA-H-8083-1B under the limits of a hold)
--
-- A prefix is a list of position numbers for the first containers of branch order, one for each.
-- It is complete, and is then called a path, where it has a number for every container.
use Rattle.std.specs.Prelude.{◌≡◌, ◌≢◌, ℕ, ◌+◌, ◌≤◌, ◌⊎◌, ℤ, pos, ◌+ℤ◌, ◌-ℤ◌, ◌*ℤ◌, ◌≤ℤ◌, int_lt, unsigned_abs, Bool, false, if◌then◌else◌, List, length, zip, All, AllPairs, Any, sum_by, slice_get, IsSomeAnd}
use Rattle.std.specs.Option.{option_map_or}
use Rattle.std.specs.Ordering.{nat_cmp, ordering_then, is_gt}
use Rattle.std.specs.Cmp.Lexicographic.{slice_cmp}
use Rattle.std.specs.declared.cmp.Ordering.{Ordering}
use Rattle.base_words.specs.Lists.{int_sum_by}
use Rattle.hold_parts.specs.declared.parts.Position.{Position}
use Rattle.hold_parts.specs.declared.parts.Item.{Item}
use Rattle.hold_parts.specs.declared.parts.Loose.{Loose}
use Rattle.hold_parts.specs.Accepting.{Accepts}
use Rattle.hold_parts.specs.Limits.{is_listed, is_counted}
use Rattle.hold_limits.specs.Layout.{Layout}
use Rattle.hold_limits.specs.Lateral.{side_at, IsWithinLateral}
use Rattle.hold_limits.specs.Problem.{Problem}
use Rattle.hold_limits.specs.BranchOrder.{ordered}

-- a container with the number of its position
abbrev pub Placed : Type 0
Placed = Item × ℕ

-- the containers of a prefix with their positions: the i-th of branch order with the i-th number
abbrev pub placed : Problem → List ℕ → List Placed
placed t prefix = zip (ordered t.items) prefix

-- the number is that of a position, and the position accepts the container
abbrev pub IsAccepted : Layout → Placed → Type 0
IsAccepted hold p = IsSomeAnd (slice_get hold.positions p.1) (Accepts p.0)

-- the two positions are an excluding pair, in either order
abbrev pub Exclude : Layout → ℕ → ℕ → Type 0
Exclude hold a b = Any (λ (pair : ℕ × ℕ). ((pair.0 ≡ a) × (pair.1 ≡ b)) ⊎ ((pair.0 ≡ b) × (pair.1 ≡ a))) hold.excludes

-- the mass of a prefix's containers on a set of positions, and that of loose loads on it
abbrev pub placed_load : (ℕ → Bool) → List Placed → ℕ
placed_load is_in containers = sum_by (λ (p : Placed). if is_in p.1 then p.0.mass.0 else 0) containers

abbrev pub loose_load : (ℕ → Bool) → List Loose → ℕ
loose_load is_in loose = sum_by (λ (l : Loose). if is_in l.position then l.mass.0 else 0) loose

-- the load of a set of positions: the masses of the placed containers and of the loose loads on them
abbrev pub load_of : (ℕ → Bool) → Problem → List ℕ → ℕ
load_of is_in t prefix = placed_load is_in (placed t prefix) + loose_load is_in t.loose

-- each container of the prefix has a position of its own that accepts it, and no limit of the hold is broken
pub record IsSound (t : Problem) (prefix : List ℕ) : Type 0 where
  pub short : length prefix ≤ length t.items
  pub accepted : All (IsAccepted t.hold) (placed t prefix)
  pub apart : AllPairs (λ a b. a ≢ b) prefix
  pub compatible : AllPairs (λ a b. Exclude t.hold a b → ⊥) prefix
  pub combined : All (λ c. load_of (is_listed c.places) t prefix ≤ c.most.0) t.hold.combined
  pub cumulative : All (λ c. load_of (is_counted c) t prefix ≤ c.most.0) t.hold.cumulative

-- the influence of a position, in ticks per kilogram
abbrev pub influence_at : Layout → ℕ → ℤ
influence_at hold q = option_map_or (λ (position : Position). position.influence) (slice_get hold.positions q) (pos 0)

-- mass times influence of a container on its position, and of a loose load on its own, in ticks
abbrev pub placed_moment : Layout → Placed → ℤ
placed_moment hold p = pos p.0.mass.0 *ℤ influence_at hold p.1

abbrev pub loose_moment : Layout → Loose → ℤ
loose_moment hold l = pos l.mass.0 *ℤ influence_at hold l.position

-- the hold index: mass times influence, summed over the placed containers and the loose loads
abbrev pub hold_index : Problem → List ℕ → ℤ
hold_index t prefix = int_sum_by (placed_moment t.hold) (placed t prefix) +ℤ int_sum_by (loose_moment t.hold) t.loose

abbrev pub take_off_index : Problem → List ℕ → ℤ
take_off_index t prefix = t.base +ℤ hold_index t prefix

-- mass times side of a container on its position, and of a loose load on its own, in kilograms
abbrev pub placed_lateral : Layout → Placed → ℤ
placed_lateral hold p = pos p.0.mass.0 *ℤ side_at hold p.1

abbrev pub loose_lateral : Layout → Loose → ℤ
loose_lateral hold l = pos l.mass.0 *ℤ side_at hold l.position

-- the lateral difference: mass times side, summed over the placed containers and the loose loads
abbrev pub lateral_difference : Problem → List ℕ → ℤ
lateral_difference t prefix = int_sum_by (placed_lateral t.hold) (placed t prefix) +ℤ int_sum_by (loose_lateral t.hold) t.loose

-- the lateral difference is at most the lateral limit of the hold, if it has one
abbrev pub KeepsLateralLimit : Problem → List ℕ → Type 0
KeepsLateralLimit t path = IsWithinLateral t.hold (lateral_difference t path)

-- a sound path whose hold index is in the window and whose lateral difference is within the limit
pub record IsAdmissible (t : Problem) (path : List ℕ) : Type 0 where
  pub sound : IsSound t path
  pub complete : length path ≡ length t.items
  pub low : t.low ≤ℤ hold_index t path
  pub high : hold_index t path ≤ℤ t.high
  pub lateral : KeepsLateralLimit t path

-- the ticks from an index to the nearer end of a band, and 0 inside the band
abbrev pub distance_to : ℤ → ℤ → ℤ → ℕ
distance_to low high index =
    if int_lt index low then unsigned_abs (low -ℤ index)
    else if int_lt high index then unsigned_abs (index -ℤ high)
    else 0

-- the distance of a path from the ideal
abbrev pub distance : Problem → List ℕ → ℕ
distance t path = distance_to t.ideal_low t.ideal_high (take_off_index t path)

-- a distance and a path. Keys are compared by distance, then by path as lists; a list precedes its extensions
abbrev pub Key : Type 0
Key = ℕ × List ℕ

abbrev pub key : Problem → List ℕ → Key
key t path = (distance t path, path)

abbrev pub key_cmp : Key → Key → Ordering
key_cmp a b = ordering_then (nat_cmp a.0 b.0) (slice_cmp nat_cmp a.1 b.1)

abbrev pub IsAtMost : Key → Key → Type 0
IsAtMost a b = is_gt (key_cmp a b) ≡ false

-- an admissible path, and no admissible path has a smaller key
pub record IsBest (t : Problem) (path : List ℕ) : Type 0 where
  pub admissible : IsAdmissible t path
  pub least : (other : List ℕ) → IsAdmissible t other → IsAtMost (key t path) (key t other)
