-- all that lies in a hold, each a mass on a position: the placed containers, and the loose loads beside them
use Rattle.std.specs.Prelude.{ℕ, ◌≢◌, ◌≤◌, zip, AllPairs, List, ◌++◌, map, All}
use Rattle.hold_parts.specs.declared.parts.Combined.{Combined}
use Rattle.hold_parts.specs.declared.parts.Cumulative.{Cumulative}
use Rattle.hold_parts.specs.declared.parts.Item.{Item}
use Rattle.hold_parts.specs.declared.parts.Loose.{Loose}
use Rattle.hold_parts.specs.Limits.{is_listed, is_counted}
use Rattle.hold_limits.specs.Layout.{Layout}
use Rattle.hold_limits.specs.BranchOrder.{ordered}
use Rattle.hold_limits.specs.Placement.{Placed, IsAccepted, Exclude, loose_load}

-- a placed container as a load on its position
abbrev pub as_load : Placed → Loose
as_load p = record { position = p.1; mass = p.0.mass }

-- the containers of a prefix, in branch order, and then the loose loads
abbrev pub stowed : List Item → List ℕ → List Loose → List Loose
stowed items prefix loose = map as_load (zip (ordered items) prefix) ++ loose

-- no combined and no cumulative limit is broken by what is stowed
pub record KeepsHoldLimits (hold : Layout) (loads : List Loose) : Type 0 where
  pub combined : All (λ (c : Combined). loose_load (is_listed c.places) loads ≤ c.most.0) hold.combined
  pub cumulative : All (λ (c : Cumulative). loose_load (is_counted c) loads ≤ c.most.0) hold.cumulative

-- each container of a prefix has a position that accepts it, each two positions may both be used, and the limits are kept:
-- what the plain test asks of the parts of a task, where `IsSound` speaks of the task
pub record StandsSoundly (hold : Layout) (items : List Item) (prefix : List ℕ) (loads : List Loose) : Type 0 where
  pub accepted : All (IsAccepted hold) (zip (ordered items) prefix)
  pub compatible : AllPairs (λ a b. (a ≢ b) × (Exclude hold a b → ⊥)) prefix
  pub limits : KeepsHoldLimits hold loads
