-- a loading task as contracts see it
use Rattle.std.specs.Prelude.{ℤ, List}
use Rattle.mass_units.specs.declared.Ticks.{Ticks}
use Rattle.hold_limits.specs.Layout.{Layout}
use Rattle.hold_parts.specs.declared.parts.Indices.{Indices}
use Rattle.hold_parts.specs.declared.parts.Item.{Item}
use Rattle.hold_parts.specs.declared.parts.Loose.{Loose}

-- a hold, the containers in the order of the offer, the loose loads, the base index, the window for the hold index, and the ideal band for the take-off index, all indices in ticks
pub record Problem : Type 0 where
  pub hold : Layout
  pub items : List Item
  pub loose : List Loose
  pub base : ℤ
  pub low : ℤ
  pub high : ℤ
  pub ideal_low : ℤ
  pub ideal_high : ℤ

-- the indices that these ticks are
abbrev pub indices_of : Ticks → Ticks → Ticks → Ticks → Ticks → Indices
indices_of base low high ideal_low ideal_high =
    record {
      base = base;
      window = record { low = low; high = high };
      ideal = record { low = ideal_low; high = ideal_high };
    }

-- the task with these parts
abbrev pub problem_of : Layout → List Item → List Loose → Indices → Problem
problem_of hold items loose at = record {
  hold = hold;
  items = items;
  loose = loose;
  base = at.base.0;
  low = at.window.low.0;
  high = at.window.high.0;
  ideal_low = at.ideal.low.0;
  ideal_high = at.ideal.high.0;
}
