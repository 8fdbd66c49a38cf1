-- a hold as contracts see it
use Rattle.std.specs.Prelude.{ℕ, List, [], Option, Some, None, slice_get}
use Rattle.std.specs.Option.{option_map_or}
use Rattle.hold_parts.specs.declared.parts.Position.{Position}
use Rattle.hold_parts.specs.declared.parts.Combined.{Combined}
use Rattle.hold_parts.specs.declared.parts.Cumulative.{Cumulative}
use Rattle.hold_parts.specs.declared.parts.Lateral.{Lateral}

-- the positions from nose to tail, and the limits on them; a position's number is its place in the list
pub record Layout : Type 0 where
  pub positions : List Position
  pub excludes : List (ℕ × ℕ)
  pub combined : List Combined
  pub cumulative : List Cumulative
  pub lateral : Option Lateral

-- the hold with these parts, under a lateral limit or under none
abbrev pub layout_under : Option Lateral → List Position → List (ℕ × ℕ) → List Combined → List Cumulative → Layout
layout_under l p e c u = record { positions = p; excludes = e; combined = c; cumulative = u; lateral = l }

-- the hold with these parts and without a lateral limit
abbrev pub layout_of : List Position → List (ℕ × ℕ) → List Combined → List Cumulative → Layout
layout_of = layout_under None

-- the same hold under this lateral limit
abbrev pub with_lateral : Layout → Lateral → Layout
with_lateral h l = layout_under (Some l) h.positions h.excludes h.combined h.cumulative

-- the name of the position with this number, and nothing where there is none
abbrev pub name_at : List Position → ℕ → List ℕ
name_at positions q = option_map_or (λ (position : Position). position.name) (slice_get positions q) []
