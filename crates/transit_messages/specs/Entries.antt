-- what the writer of the onward message goes by, and what it says of a position
use Rattle.std.specs.Prelude.{◌≡◌, ◌≤◌, ℕ, true, List, length, map, option_map, All}
use Rattle.std.specs.Borrow.{Bor}
use Rattle.hold_parts.specs.declared.parts.Position.{Position}
use Rattle.hold_limits.specs.Placement.{Placed, placed}
use Rattle.flight_state.specs.Spellings.{is_station}
use Rattle.ldm_cpm.specs.Messages.{Placing, IsSpelledPlacing}
use Rattle.ldm_cpm.specs.Reading.{placing_said}
use Rattle.transit_messages.specs.Onward.{onward_placing}
use Rattle.transit_messages.specs.declared.entries.Entry.{Entry}
use Rattle.transit_messages.specs.declared.onward.Aboard.{Aboard}

-- what an entry says
abbrev pub entry_said : Entry → Placing
entry_said e = record {
  name = e.name.now;
  id = option_map (λ (s : Bor (List ℕ)). s.now) e.id;
  destination = option_map (λ (s : Bor (List ℕ)). s.now) e.destination;
  mass = e.mass;
}

-- the containers of the path with their positions
abbrev pub placed_aboard : Aboard → List Placed
placed_aboard a = placed a.task.now a.path.now

-- what the message says of a position with this number
abbrev pub placing_aboard : Aboard → ℕ × Position → Placing
placing_aboard a = onward_placing a.next.now (map placing_said a.stay.now) (placed_aboard a) a.task.now.loose

-- no more containers are placed than are offered, and what stays and the next station can be spelled
pub record IsSpelledAboard (a : Aboard) : Type 0 where
  pub short : length a.path.now ≤ length a.task.now.items
  pub stay : All IsSpelledPlacing (map placing_said a.stay.now)
  pub next : is_station a.next.now ≡ true
