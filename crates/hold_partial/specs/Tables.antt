-- what is looked up of a container, of a position and of the sides of a hold, and what each stands for
use Rattle.std.specs.Prelude.{◌≡◌, ℕ, ◌<◌, ℤ, pos, negsuc, int_lt, true, false, ◌&&◌, ◌||◌, ◌==◌, nat_lt, nat_le, if◌then◌else◌, List, length, slice_get, slice_index_or, Some}
use Rattle.hold_parts.specs.declared.parts.Item.{Item}
use Rattle.hold_limits.specs.Layout.{Layout}
use Rattle.hold_limits.specs.Lateral.{side_at}
use Rattle.hold_limits.specs.Problem.{Problem}
use Rattle.hold_limits.specs.BranchOrder.{ordered}
use Rattle.hold_limits.specs.Twins.{first_twin}
use Rattle.hold_limits.specs.Placement.{influence_at}
use Rattle.hold_limits.specs.Enumeration.{is_accepted, exclude}
use Rattle.hold_partial.specs.declared.demand.Demand.{Demand}
use Rattle.hold_partial.specs.declared.position_table.PositionEntry.{PositionEntry}
use Rattle.hold_partial.specs.declared.sides.Sides.{Sides}
use Rattle.hold_partial.specs.Arrangement.{Ranked, ranked_of, at_rank}
use Rattle.hold_reach.specs.Rules.{has_kind_at}
use Rattle.position_set.specs.Sets.{has, Stands}

-- a container's mass, the positions that accept its kind, those that accept it, by number and by rank, and its class of twins
pub record IsDemand (t : Problem) (ranks : List Ranked) (item : Item) (d : Demand) : Type 0 where
  pub mass : d.mass.0 ≡ item.mass.0
  pub of_kind : Stands d.of_kind (has_kind_at t.hold item)
  pub accepting : Stands d.accepting (λ q. is_accepted t.hold (item, q))
  pub accepting_ranks : Stands d.accepting_ranks (at_rank (λ q. is_accepted t.hold (item, q)) ranks)
  pub twins : d.twins ≡ first_twin t item

-- one for each container, in branch order
pub record AreDemands (t : Problem) (ranks : List Ranked) (demands : List Demand) : Type 0 where
  pub count : length demands ≡ length t.items
  pub each : (k : ℕ) (d : Demand) (item : Item) → slice_get (ordered t.items) k ≡ Some item → IsDemand t ranks item (slice_index_or demands k d)

-- a position's influence, side and rank, the positions that exclude it, the ranks that a container on it blocks for the others, which
-- are its own and those that it excludes, and the ranks that the container closes to its twins, which are those with no greater number
pub record IsPositionEntry (hold : Layout) (ranks : List Ranked) (q : ℕ) (entry : PositionEntry) : Type 0 where
  pub influence : entry.influence ≡ influence_at hold q
  pub side : entry.side ≡ side_at hold q
  pub rank : slice_get ranks entry.rank ≡ Some (ranked_of hold q)
  pub excluding : Stands entry.excluding (λ a. nat_lt a (length hold.positions) && exclude hold a q)
  pub blocked_ranks : Stands entry.blocked_ranks (at_rank (λ a. (q == a) || exclude hold q a) ranks)
  pub closed_ranks : Stands entry.closed_ranks (at_rank (λ a. nat_le a q) ranks)

-- one for each position
pub record IsPositionTable (hold : Layout) (ranks : List Ranked) (entries : List PositionEntry) : Type 0 where
  pub count : length entries ≡ length hold.positions
  pub each : (q : ℕ) (d : PositionEntry) → q < length hold.positions → IsPositionEntry hold ranks q (slice_index_or entries q d)

-- the ranks of the positions on the right and on the left
pub record IsSides (hold : Layout) (ranks : List Ranked) (sides : Sides) : Type 0 where
  pub right : Stands sides.right (at_rank (λ q. int_lt (pos 0) (side_at hold q)) ranks)
  pub left : Stands sides.left (at_rank (λ q. int_lt (side_at hold q) (pos 0)) ranks)

-- no rank is on both sides
abbrev pub AreApart : Sides → Type 0
AreApart sides = (r : ℕ) → has sides.left r ≡ true → has sides.right r ≡ false

-- the side of the position of a rank
abbrev pub side_in : Sides → ℕ → ℤ
side_in sides r = if has sides.right r then pos 1 else if has sides.left r then negsuc 0 else pos 0
