-- what the keys of a file say, as their reader keeps it
use Rattle.hold_limits.specs.Layout.{Layout}
use Rattle.envelope.specs.Outline.{Outline}
use Rattle.aircraft_file.specs.declared.parts.HoldParts.{HoldParts}
use Rattle.aircraft_file.specs.declared.parts.Limits.{Limits}
use Rattle.aircraft_file.specs.declared.parts.Sides.{Sides}
use Rattle.aircraft_file.specs.declared.parts.AllSides.{AllSides}
use Rattle.aircraft_file.specs.declared.parts.Envelopes.{Envelopes}
use Rattle.aircraft_file.specs.declared.parts.Parts.{Parts}
use Rattle.aircraft_file.specs.Loading.{LimitLists, layout_with, under}
use Rattle.aircraft_file.specs.Craft.{Craft, craft_with}

abbrev pub limits_in : Limits → LimitLists
limits_in limits = record { excludes = limits.excludes.items; combined = limits.combined.items; cumulative = limits.cumulative.items }

abbrev pub hold_in : HoldParts → Layout
hold_in hold = layout_with hold.positions.items (limits_in hold.limits)

abbrev pub outline_in : Sides → Outline
outline_in sides = record { forward = sides.forward.items; aft = sides.aft.items }

abbrev pub outlines_in : AllSides → Envelopes
outlines_in sides = record {
  zero_fuel = outline_in sides.zero_fuel;
  take_off = outline_in sides.take_off;
  landing = outline_in sides.landing;
}

abbrev pub craft_in_parts : Parts → Craft
craft_in_parts parts = craft_with parts.figures parts.zones.items (under parts.lateral (hold_in parts.hold)) parts.fuel.items (outlines_in parts.sides)
