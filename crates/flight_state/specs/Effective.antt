-- the figures of a flight with its late changes
use Rattle.std.specs.Prelude.{◌≡◌, ℕ, ◌+◌, ◌-◌, ◌≤◌, ℤ, pos, ◌+ℤ◌, unsigned_abs, int_le, nat_le, Bool, true, ◌&&◌, List, [], ◌∷◌, ◌++◌, length, set, replicate, slice_index_or, find, position, fold, All, bytes_eq, unwrap_or, Option, Some, None}
use Rattle.payload.specs.declared.figures.ZoneCount.{ZoneCount}
use Rattle.trim.specs.declared.figures.LooseFigure.{LooseFigure}
use Rattle.trim.specs.declared.figures.Figures.{Figures}
use Rattle.trim.specs.Limits as figures
use Rattle.flight_state.specs.declared.change.Lmc.{Lmc}
use Rattle.flight_state.specs.declared.change.Lmc.TheVariants.{Cabin, Loose}
use Rattle.flight_state.specs.declared.state.FlightState.{FlightState}

-- Numbers ---------------------------------------------------------------------------------------

-- a number changed up or down. No lawful change takes it below zero
abbrev pub changed : ℕ → ℤ → ℕ
changed n change = unsigned_abs (pos n +ℤ change)

-- the change leaves the number from 0 to this limit
abbrev pub stays_within : ℕ → ℕ → ℤ → Bool
stays_within most n change = int_le (pos 0) (pos n +ℤ change) && int_le (pos n +ℤ change) (pos most)

-- The cabin -------------------------------------------------------------------------------------

abbrev pub nobody : ZoneCount
nobody = record { adults = 0; children = 0; infants = 0 }

-- the counts of a cabin up to this zone at least. Nobody is in a zone that had no count yet
abbrev pub up_to_zone : ℕ → List ZoneCount → List ZoneCount
up_to_zone zone cabin = cabin ++ replicate (zone - length cabin) nobody

-- the count of a zone, which counts from 1
abbrev pub count_in : ℕ → List ZoneCount → ZoneCount
count_in zone cabin = slice_index_or cabin (zone - 1) nobody

abbrev pub changed_count : ZoneCount → ℤ → ℤ → ℤ → ZoneCount
changed_count count adults children infants = record {
  adults = changed count.adults adults;
  children = changed count.children children;
  infants = changed count.infants infants;
}

-- the cabin with the counts of one zone changed
abbrev pub with_passengers : ℕ → ℤ → ℤ → ℤ → List ZoneCount → List ZoneCount
with_passengers zone adults children infants cabin =
    set (up_to_zone zone cabin) (zone - 1) (changed_count (count_in zone cabin) adults children infants)

-- The loose loads -------------------------------------------------------------------------------

abbrev pub is_at : List ℕ → LooseFigure → Bool
is_at name figure = bytes_eq figure.position name

abbrev pub nothing_at : List ℕ → LooseFigure
nothing_at name = record { position = name; mass = record { 0 = 0 }; pieces = 0 }

-- the first loose load of this name, or nothing there
abbrev pub load_at : List ℕ → List LooseFigure → LooseFigure
load_at name loose = unwrap_or (find (is_at name) loose) (nothing_at name)

-- the place of the first loose load of this name
abbrev pub place_at : List ℕ → List LooseFigure → Option ℕ
place_at name loose = position (is_at name) loose

abbrev pub changed_load : LooseFigure → ℤ → ℤ → LooseFigure
changed_load figure mass pieces = record {
  position = figure.position;
  mass = record { 0 = changed figure.mass.0 mass };
  pieces = changed figure.pieces pieces;
}

-- a load put in the place of an earlier one, or added as the last one
abbrev pub put_load : Option ℕ → LooseFigure → List LooseFigure → List LooseFigure
put_load (Some at) load loose = set loose at load
put_load None load loose = loose ++ load ∷ []

-- the loose loads with the first one of this name changed; where none has it, with a new last one, of nothing, changed
abbrev pub with_load : List ℕ → ℤ → ℤ → List LooseFigure → List LooseFigure
with_load name mass pieces loose =
    put_load (place_at name loose) (changed_load (load_at name loose) mass pieces) loose

-- how many loose loads there are then
abbrev pub count_by : Option ℕ → ℕ → ℕ
count_by (Some at) count = count
count_by None count = count + 1

abbrev pub count_with : List ℕ → List LooseFigure → ℕ
count_with name loose = count_by (place_at name loose) (length loose)

-- Late changes ----------------------------------------------------------------------------------

-- the figures with a late change added
abbrev pub with_change : Figures → Lmc → Figures
with_change f (Cabin zone adults children infants) =
    record f { cabin = with_passengers zone adults children infants f.cabin }
with_change f (Loose position mass pieces) = record f { loose = with_load position mass pieces f.loose }

-- the figures with late changes added in their order
abbrev pub with_changes : Figures → List Lmc → Figures
with_changes f changes = fold with_change f changes

-- the figures that count: the base figures with the late changes
abbrev pub effective : FlightState → Figures
effective s = with_changes s.base s.lmcs

-- the change leaves up to 1,000,000 kg and 999 pieces on its bulk position, and 64 loose loads in all
abbrev pub can_add_load : List ℕ → ℤ → ℤ → List LooseFigure → Bool
can_add_load name mass pieces loose =
    stays_within 1000000 (load_at name loose).mass.0 mass
    && (stays_within 999 (load_at name loose).pieces pieces && nat_le (count_with name loose) 64)

-- A late change can be added to figures where it names one of 16 zones and leaves up to 999 persons of each kind there, or
-- where the loose loads can be changed so.
abbrev pub can_add : Figures → Lmc → Bool
can_add f (Cabin zone adults children infants) =
    (nat_le 1 zone && nat_le zone 16)
    && (stays_within 999 (count_in zone f.cabin).adults adults
    && (stays_within 999 (count_in zone f.cabin).children children && stays_within 999 (count_in zone f.cabin).infants infants))
can_add f (Loose position mass pieces) = can_add_load position mass pieces f.loose

-- each can be added to the figures with those before it
abbrev pub can_add_all : Figures → List Lmc → Bool
can_add_all f [] = true
can_add_all f (change ∷ changes) = can_add f change && can_add_all (with_change f change) changes

-- The limits of a state -------------------------------------------------------------------------

-- a loose load within the limits of what is told
abbrev pub IsLooseWithin : LooseFigure → Type 0
IsLooseWithin figure = (figure.mass.0 ≤ 1000000) × (figure.pieces ≤ 999)

-- The figures of a state and its late changes are within the limits that no fault tests.
pub record KeepsLimits (s : FlightState) : Type 0 where
  pub figures : figures.KeepsLimits s.base
  pub dry : 1 ≤ s.base.dry.mass.0
  pub loose : All IsLooseWithin s.base.loose
  pub changes : can_add_all s.base s.lmcs ≡ true
  pub edition : s.edition ≤ 1000000000
