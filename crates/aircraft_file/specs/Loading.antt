-- the keys 22 to 37 of an aircraft file: its zones, its hold, its fuel table, its envelopes, and the lateral limit of its hold
use Rattle.std.specs.Prelude.{ℕ, zero, suc, ◌+◌, ◌==◌, nat_le, min, Bool, ◌&&◌, true, false, if◌then◌else◌, List, [], ◌∷◌, ◌++◌, length, find, codes, Option, Some, None, is_some, Result, Ok, Err}
use Rattle.base_words.specs.Lists.{first_repeat}
use Rattle.toml.specs.Data.{Data}
use Rattle.envelope.specs.Outline.{Outline}
use Rattle.fuel_table.specs.declared.row.FuelRow.{FuelRow}
use Rattle.payload.specs.declared.figures.Zone.{Zone}
use Rattle.hold_parts.specs.declared.parts.Position.{Position}
use Rattle.hold_parts.specs.declared.parts.Combined.{Combined}
use Rattle.hold_parts.specs.declared.parts.Cumulative.{Cumulative}
use Rattle.hold_parts.specs.declared.parts.Lateral.{Lateral}
use Rattle.hold_limits.specs.Layout.{Layout, layout_of, layout_under}
use Rattle.aircraft_file.specs.declared.fault.FileFault.{FileFault}
use Rattle.aircraft_file.specs.declared.fault.FileFault.TheVariants.{Wrong}
use Rattle.aircraft_file.specs.declared.side_keys.NamedSide.{NamedSide}
use Rattle.aircraft_file.specs.Document.{Contents, section_at, value_at, in_form, key, optional, ◌>>=◌}
use Rattle.aircraft_file.specs.Forms.{array_of, mass, zone, position_of, exclude, combined, cumulative, named_side, fuel_row, corner}

-- `zone`: 1 to 16 zones of the cabin
abbrev pub zones_of : Contents → Result (List Zone) FileFault
zones_of document = do
  zones ← key 22 (array_of zone) (codes "zone") document
  if nat_le 1 (length zones) && nat_le (length zones) 16 then Ok zones else Err (Wrong 22)

-- the limits on the positions of a hold
pub record LimitLists : Type 0 where
  pub excludes : List (ℕ × ℕ)
  pub combined : List Combined
  pub cumulative : List Cumulative

abbrev pub layout_with : List Position → LimitLists → Layout
layout_with positions limits = layout_of positions limits.excludes limits.combined limits.cumulative

-- `hold`: the limits, each list empty where its key is absent; of the cumulative limits the forward ones, then the aft ones
abbrev pub limits_of : List Position → Contents → Result LimitLists FileFault
limits_of positions hold = do
  excludes ← optional 24 (array_of (exclude positions)) (value_at (codes "exclude") hold)
  combined ← optional 25 (array_of (combined positions)) (value_at (codes "combined") hold)
  forward ← optional 26 (array_of (cumulative true positions)) (value_at (codes "forward") hold)
  aft ← optional 27 (array_of (cumulative false positions)) (value_at (codes "aft") hold)
  Ok (record { excludes = excludes; combined = combined; cumulative = forward ++ aft })

-- `position` and `hold`: the positions from nose to tail, and the limits on them
abbrev pub hold_of : Contents → Result Layout FileFault
hold_of document = do
  positions ← key 23 (array_of position_of) (codes "position") document
  limits ← limits_of positions (section_at (codes "hold") document)
  Ok (layout_with positions limits)

-- `fuel`: the rows of the fuel table
abbrev pub fuel_of : Contents → Result (List FuelRow) FileFault
fuel_of fuel = key 28 (array_of fuel_row) (codes "rows") fuel

-- the two sides of an envelope; their keys have this number and the next
abbrev pub outline_of : ℕ → Contents → Result Outline FileFault
outline_of number sides = do
  forward ← key number (array_of corner) (codes "forward") sides
  aft ← key (number + 1) (array_of corner) (codes "aft") sides
  Ok (record { forward = forward; aft = aft })

-- two sides of one position
abbrev pub same_number : NamedSide → NamedSide → Bool
same_number a b = a.number == b.number

-- the sides where no two are of one position, or else that the key with this number is wrong
abbrev pub apart : ℕ → List NamedSide → Result (List NamedSide) FileFault
apart number sides = if is_some (first_repeat same_number sides) then Err (Wrong number) else Ok sides

-- `hold`: the positions on the left, and then those on the right; a position named twice is wrong in the array of the second name
abbrev pub sides_of : List Position → Contents → Result (List NamedSide) FileFault
sides_of positions hold = do
  named ← optional 36 (array_of (named_side false positions)) (value_at (codes "left") hold)
  left ← apart 36 named
  right ← optional 37 (array_of (named_side true positions)) (value_at (codes "right") hold)
  apart 37 (left ++ right)

-- one side more, where there is one; its number is kept as in a limit
abbrev pub and_side : List (ℕ × Bool) → Option NamedSide → List (ℕ × Bool)
and_side before None = before
and_side before (Some side) = before ++ (min side.number 255, side.right) ∷ []

-- the sides of the first positions, as many as the number says, in the order of the positions
abbrev pub in_order : List NamedSide → ℕ → List (ℕ × Bool)
in_order sides zero = []
in_order sides (suc n) = and_side (in_order sides n) (find (λ (side : NamedSide). side.number == n) sides)

-- the lateral limit by its value, with the sides, which are read only where the value is there
abbrev pub lateral_with : List Position → Contents → Option Data → Result (Option Lateral) FileFault
lateral_with positions hold None = Ok None
lateral_with positions hold (Some d) = do
  most ← in_form 35 (mass 0 1000000 d)
  sides ← sides_of positions hold
  Ok (Some (record { most = most; sides = in_order sides (length positions) }))

-- `hold`: its lateral limit, and no limit where the key is absent
abbrev pub lateral_of : List Position → Contents → Result (Option Lateral) FileFault
lateral_of positions hold = lateral_with positions hold (value_at (codes "lateral") hold)

-- the same hold under this lateral limit, or under none
abbrev pub under : Option Lateral → Layout → Layout
under lateral hold = layout_under lateral hold.positions hold.excludes hold.combined hold.cumulative
