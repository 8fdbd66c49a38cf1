-- position numbers: by name, and as bytes
use Rattle.std.specs.Prelude.{ℕ, map, Bool, option_map}
use Rattle.hold_parts.specs.declared.parts.Combined.{Combined}
use Rattle.hold_parts.specs.declared.parts.Cumulative.{Cumulative}
use Rattle.hold_parts.specs.declared.parts.Lateral.{Lateral}
use Rattle.hold_parts.specs.declared.parts.Loose.{Loose}
use Rattle.hold_limits.specs.Layout.{layout_under}
use Rattle.hold_limits.specs.Problem.{Problem}
use Rattle.text_lines.specs.Names.{byte_of}

abbrev pub keep_pair : ℕ × ℕ → ℕ × ℕ
keep_pair pair = (byte_of pair.0, byte_of pair.1)

abbrev pub keep_combined : Combined → Combined
keep_combined limit = record { places = map byte_of limit.places; most = limit.most }

abbrev pub keep_cumulative : Cumulative → Cumulative
keep_cumulative limit = record { forward = limit.forward; place = byte_of limit.place; most = limit.most }

abbrev pub keep_side : ℕ × Bool → ℕ × Bool
keep_side side = (byte_of side.0, side.1)

abbrev pub keep_lateral : Lateral → Lateral
keep_lateral limit = record { most = limit.most; sides = map keep_side limit.sides }

abbrev pub keep_loose : Loose → Loose
keep_loose load = record { position = byte_of load.position; mass = load.mass }

-- the task with its position numbers as bytes
abbrev pub keep_problem : Problem → Problem
keep_problem t = record {
  hold = layout_under (option_map keep_lateral t.hold.lateral) t.hold.positions (map keep_pair t.hold.excludes)
      (map keep_combined t.hold.combined) (map keep_cumulative t.hold.cumulative);
  items = t.items;
  loose = map keep_loose t.loose;
  base = t.base;
  low = t.low;
  high = t.high;
  ideal_low = t.ideal_low;
  ideal_high = t.ideal_high;
}
