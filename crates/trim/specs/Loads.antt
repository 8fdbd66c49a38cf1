-- what stands in the hold of a flight: its containers, and its loose loads on the bulk positions that they name
use Rattle.std.specs.Prelude.{ℕ, Bool, ◌&&◌, ◌||◌, bytes_eq, nat_lt, is_none, unwrap_or, Option, position, List, map, sum_by, pos}
use Rattle.hold_parts.specs.declared.parts.Position.{Position}
use Rattle.hold_parts.specs.declared.parts.Item.{Item}
use Rattle.hold_parts.specs.declared.parts.Loose.{Loose}
use Rattle.hold_limits.specs.Layout.{Layout}
use Rattle.hold_limits.specs.Problem.{Problem}
use Rattle.payload.specs.Load.{loose_mass_of, most_loose}
use Rattle.aircraft_file.specs.Craft.{Craft}
use Rattle.trim.specs.declared.figures.LooseFigure.{LooseFigure}
use Rattle.trim.specs.declared.figures.Figures.{Figures}

-- a bulk position of this name
abbrev pub is_bulk_named : List ℕ → Position → Bool
is_bulk_named name p = p.bulk && bytes_eq p.name name

-- the number of the bulk position of this name, where the hold has one
abbrev pub bulk_number : Layout → List ℕ → Option ℕ
bulk_number hold name = position (is_bulk_named name) hold.positions

-- the mass of a loose figure, its pieces at the average of a bag
abbrev pub figure_mass : Craft → LooseFigure → ℕ
figure_mass a figure = loose_mass_of figure.mass.0 figure.pieces a.averages

-- no bulk position has the figure's name, or its mass is over 20,000 kg
abbrev pub is_no_load : Craft → LooseFigure → Bool
is_no_load a figure = is_none (bulk_number a.hold figure.position) || nat_lt most_loose (figure_mass a figure)

-- the load that the figure tells of. It has a position where it is a load; 0 stands for none
abbrev pub load_told : Craft → LooseFigure → Loose
load_told a figure = record { position = unwrap_or (bulk_number a.hold figure.position) 0; mass = record { 0 = figure_mass a figure } }

-- the loose loads of a flight
abbrev pub loose_loads : Craft → Figures → List Loose
loose_loads a f = map (load_told a) f.loose

-- the masses of all containers, and of all loose loads
abbrev pub container_mass : List Item → ℕ
container_mass items = sum_by (λ (item : Item). item.mass.0) items

abbrev pub loose_mass : List Loose → ℕ
loose_mass loads = sum_by (λ (l : Loose). l.mass.0) loads

-- the containers of a flight, to be placed in its hold beside its loose loads. No index plays a part in where they may
-- stand, and each is 0 here
abbrev pub offer : Craft → Figures → Problem
offer a f = record {
  hold = a.hold;
  items = f.containers;
  loose = loose_loads a f;
  base = pos 0;
  low = pos 0;
  high = pos 0;
  ideal_low = pos 0;
  ideal_high = pos 0;
}
