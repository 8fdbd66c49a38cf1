-- holds and tasks with other parts in place of some of their own
use Rattle.std.specs.Prelude.{ℕ, ℤ, List, set, remove, option_map, slice_get}
use Rattle.std.specs.Option.{option_map_or}
use Rattle.mass_units.specs.declared.Kg.{Kg}
use Rattle.hold_parts.specs.declared.parts.Combined.{Combined}
use Rattle.hold_parts.specs.declared.parts.Cumulative.{Cumulative}
use Rattle.hold_parts.specs.declared.parts.Item.{Item}
use Rattle.hold_parts.specs.declared.parts.Lateral.{Lateral}
use Rattle.hold_limits.specs.Layout.{Layout, layout_under}
use Rattle.hold_limits.specs.Problem.{Problem}

-- Of a hold -------------------------------------------------------------------------------------

-- the list with what f makes of the element at the place
abbrev pub changed_at : {X : Type 0} → (X → X) → List X → ℕ → List X
changed_at f xs at = option_map_or (λ x. set xs at (f x)) (slice_get xs at) xs

-- the same limit with this greatest mass
abbrev pub combined_of : Kg → Combined → Combined
combined_of most limit = record { places = limit.places; most = most }

abbrev pub cumulative_of : Kg → Cumulative → Cumulative
cumulative_of most limit = record { forward = limit.forward; place = limit.place; most = most }

abbrev pub lateral_of : Kg → Lateral → Lateral
lateral_of most limit = record { most = most; sides = limit.sides }

-- the hold with these limits in place of its own
abbrev pub with_limits : Layout → List (ℕ × ℕ) → List Combined → List Cumulative → Layout
with_limits h excludes combined cumulative = layout_under h.lateral h.positions excludes combined cumulative

-- the hold without the excluding pair at the place
abbrev pub without_exclude : Layout → ℕ → Layout
without_exclude h at = with_limits h (remove h.excludes at) h.combined h.cumulative

-- the hold with this greatest mass of the combined limit at the place, of the cumulative one, and of the lateral limit
abbrev pub with_combined : Layout → ℕ → Kg → Layout
with_combined h at most = with_limits h h.excludes (changed_at (combined_of most) h.combined at) h.cumulative

abbrev pub with_cumulative : Layout → ℕ → Kg → Layout
with_cumulative h at most = with_limits h h.excludes h.combined (changed_at (cumulative_of most) h.cumulative at)

abbrev pub with_lateral_most : Layout → Kg → Layout
with_lateral_most h most = layout_under (option_map (lateral_of most) h.lateral) h.positions h.excludes h.combined h.cumulative

-- Of a task -------------------------------------------------------------------------------------

-- the task with this hold, this offer and this window
abbrev pub with_parts : Problem → Layout → List Item → ℤ → ℤ → Problem
with_parts t hold items low high = record {
  hold = hold;
  items = items;
  loose = t.loose;
  base = t.base;
  low = low;
  high = high;
  ideal_low = t.ideal_low;
  ideal_high = t.ideal_high;
}

abbrev pub in_hold : Problem → Layout → Problem
in_hold t hold = with_parts t hold t.items t.low t.high

abbrev pub in_window : Problem → ℤ → ℤ → Problem
in_window t low high = with_parts t t.hold t.items low high

-- the task without the container at the place of the offer
abbrev pub without_item : Problem → ℕ → Problem
without_item t at = with_parts t t.hold (remove t.items at) t.low t.high
