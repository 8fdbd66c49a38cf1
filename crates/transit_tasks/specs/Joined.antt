-- A path of a task, joined with what stays aboard: the containers that it places and those that stay, each with its
-- position, and the loose loads of the task and those that stay.
use Rattle.std.specs.Prelude.{◌≡◌, ◌≢◌, Bool, ℕ, ◌+◌, ◌≤◌, ℤ, ◌+ℤ◌, ◌≤ℤ◌, List, ◌++◌, length, All, AllPairs}
use Rattle.base_words.specs.Lists.{int_sum_by}
use Rattle.hold_parts.specs.declared.parts.Loose.{Loose}
use Rattle.hold_parts.specs.Limits.{is_listed, is_counted}
use Rattle.hold_limits.specs.Layout.{Layout}
use Rattle.hold_limits.specs.Lateral.{IsWithinLateral}
use Rattle.hold_limits.specs.Placement.{Placed, placed, IsAccepted, Exclude, placed_load, loose_load, placed_moment, loose_moment, placed_lateral, loose_lateral}
use Rattle.hold_limits.specs.Problem.{Problem}
use Rattle.ldm_cpm.specs.Messages.{Placing}
use Rattle.transit_tasks.specs.Staying.{staying_containers, staying_loads}

abbrev pub joined_containers : Problem → List Placing → List ℕ → List Placed
joined_containers t stay path = placed t path ++ staying_containers t.hold.positions stay

abbrev pub joined_loads : Problem → List Placing → List Loose
joined_loads t stay = t.loose ++ staying_loads t.hold.positions stay

-- the mass of all that is in a set of positions
abbrev pub aboard_on : (ℕ → Bool) → List Placed → List Loose → ℕ
aboard_on is_in containers loads = placed_load is_in containers + loose_load is_in loads

-- each container has a position of its own that accepts it, no two of these are an excluding pair, and limits are kept
pub record AreStowedSoundly (hold : Layout) (containers : List Placed) (loads : List Loose) : Type 0 where
  pub accepted : All (IsAccepted hold) containers
  pub apart : AllPairs (λ (a b : Placed). a.1 ≢ b.1) containers
  pub compatible : AllPairs (λ (a b : Placed). Exclude hold a.1 b.1 → ⊥) containers
  pub combined : All (λ c. aboard_on (is_listed c.places) containers loads ≤ c.most.0) hold.combined
  pub cumulative : All (λ c. aboard_on (is_counted c) containers loads ≤ c.most.0) hold.cumulative

-- mass times influence of all that is aboard, and mass times side
abbrev pub index_of : Layout → List Placed → List Loose → ℤ
index_of hold containers loads = int_sum_by (placed_moment hold) containers +ℤ int_sum_by (loose_moment hold) loads

abbrev pub difference_of : Layout → List Placed → List Loose → ℤ
difference_of hold containers loads = int_sum_by (placed_lateral hold) containers +ℤ int_sum_by (loose_lateral hold) loads

-- the hold index of a path joined with what stays, in ticks
abbrev pub joined_index : Problem → List Placing → List ℕ → ℤ
joined_index t stay path = index_of t.hold (joined_containers t stay path) (joined_loads t stay)

-- The path places each container of the offer, all that is then aboard stands soundly, its hold index is in the window,
-- and the lateral limit is kept.
pub record IsJoinedAdmissible (t : Problem) (stay : List Placing) (path : List ℕ) : Type 0 where
  pub complete : length path ≡ length t.items
  pub sound : AreStowedSoundly t.hold (joined_containers t stay path) (joined_loads t stay)
  pub low : t.low ≤ℤ joined_index t stay path
  pub high : joined_index t stay path ≤ℤ t.high
  pub lateral : IsWithinLateral t.hold (difference_of t.hold (joined_containers t stay path) (joined_loads t stay))
