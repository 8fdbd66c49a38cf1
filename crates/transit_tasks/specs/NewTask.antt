-- The task of placing the offer around what stays. It differs in four things alone: the position of each container that
-- stays is a bulk position with the container's mass as a loose load; each position that is an excluding pair with one
-- of these is a bulk position without a load; no excluding pair has any of these positions; and each loose load that
-- stays is one on its position.
use Rattle.std.specs.Prelude.{ℕ, Bool, true, false, not, ◌&&◌, ◌||◌, ◌==◌, if◌then◌else◌, List, [], ◌++◌, map, filter}
use Rattle.std.specs.List.{list_any, enumerate_from}
use Rattle.std.specs.Option.{option_map_or}
use Rattle.hold_parts.specs.declared.parts.Loose.{Loose}
use Rattle.hold_parts.specs.declared.parts.Position.{Position}
use Rattle.hold_limits.specs.Enumeration.{exclude}
use Rattle.hold_limits.specs.Layout.{Layout, layout_under}
use Rattle.hold_limits.specs.Placement.{Placed}
use Rattle.hold_limits.specs.Problem.{Problem}
use Rattle.ldm_cpm.specs.Messages.{Placing}
use Rattle.transit_tasks.specs.Staying.{standing, lying, staying_containers}

-- the container stands on the position, or on one that excludes it
abbrev pub closes : Layout → ℕ → Placed → Bool
closes hold q p = (p.1 == q) || exclude hold p.1 q

-- the container on the place does, if one stands there
abbrev pub is_closed_by : Layout → ℕ → Placing → Bool
is_closed_by hold q p = option_map_or (λ (id : List ℕ). closes hold q (standing hold.positions p id)) p.id false

-- one of the containers does
abbrev pub is_closed : Layout → List Placed → ℕ → Bool
is_closed hold containers q = list_any (closes hold q) containers

-- the same position, which takes loose loads alone
abbrev pub closed : Position → Position
closed p = record { name = p.name; compartment = p.compartment; influence = p.influence; bulk = true; fits = [] }

-- the position with this number, closed where one of the containers closes it
abbrev pub position_around : Layout → List Placed → ℕ × Position → Position
position_around hold containers numbered = if is_closed hold containers numbered.0 then closed numbered.1 else numbered.1

abbrev pub positions_around : Layout → List Placed → List Position
positions_around hold containers = map (position_around hold containers) (enumerate_from 0 hold.positions)

-- neither position of the pair is closed
abbrev pub is_open_pair : Layout → List Placed → ℕ × ℕ → Bool
is_open_pair hold containers pair = not (is_closed hold containers pair.0) && not (is_closed hold containers pair.1)

-- the excluding pairs without a closed position
abbrev pub excludes_around : Layout → List Placed → List (ℕ × ℕ)
excludes_around hold containers = filter (is_open_pair hold containers) hold.excludes

abbrev pub hold_around : Layout → List Placed → Layout
hold_around hold containers =
    layout_under hold.lateral (positions_around hold containers) (excludes_around hold containers) hold.combined hold.cumulative

-- the loose loads of the task, and then what stays, container or loose, as a loose load on its position
abbrev pub loads_around : Problem → List Placing → List Loose
loads_around t stay = t.loose ++ map (lying t.hold.positions) stay

abbrev pub task_around : Problem → List Placing → Problem
task_around t stay = record {
  hold = hold_around t.hold (staying_containers t.hold.positions stay);
  items = t.items;
  loose = loads_around t stay;
  base = t.base;
  low = t.low;
  high = t.high;
  ideal_low = t.ideal_low;
  ideal_high = t.ideal_high;
}
