-- prices of what a hold has little of, and what they say at once of the hold indices of many placements
use Rattle.std.specs.Prelude.{◌≡◌, ◌⊎◌, ℕ, ℤ, pos, ◌+ℤ◌, ◌-ℤ◌, ◌*ℤ◌, Bool, if◌then◌else◌, List, map, zip, IsTrue, All, Contains, Some}
use Rattle.std.specs.List.{AllZip, list_any}
use Rattle.std.specs.Option.{option_map_or}
use Rattle.base_words.specs.Lists.{int_sum_by}
use Rattle.hold_parts.specs.declared.parts.Combined.{Combined}
use Rattle.hold_parts.specs.declared.parts.Cumulative.{Cumulative}
use Rattle.hold_parts.specs.declared.parts.Item.{Item}
use Rattle.hold_parts.specs.declared.parts.Lateral.{Lateral}
use Rattle.hold_parts.specs.Limits.{is_listed, is_counted}
use Rattle.hold_limits.specs.BranchOrder.{ordered}
use Rattle.hold_limits.specs.Layout.{Layout}
use Rattle.hold_limits.specs.Placement.{Placed, Exclude, loose_load, placed_moment, loose_moment, placed_lateral, loose_lateral}
use Rattle.hold_limits.specs.Problem.{Problem}
use Rattle.hold_reach.specs.Reach.{least}

-- Choices ---------------------------------------------------------------------------------------

-- for each container, in branch order, the positions that it may have
abbrev pub Choice : Type 0
Choice = List (List ℕ)

-- a container with the positions that it may have
abbrev pub Candidate : Type 0
Candidate = Item × List ℕ

abbrev pub candidates : Problem → Choice → List Candidate
candidates t choice = zip (ordered t.items) choice

-- the path has for each container one of its positions
abbrev pub IsAmong : List ℕ → Choice → Type 0
IsAmong path choice = AllZip (λ q set. IsTrue (is_listed set q)) path choice

-- What there is little of -----------------------------------------------------------------------

-- mass under a combined or a cumulative limit; under a lateral limit, mass on the right more than on the left, or the reverse;
-- one place among positions that exclude each other
pub data Resource : Type 0 where
  UnderCombined : Combined → Resource
  UnderCumulative : Cumulative → Resource
  RightOverLeft : Resource
  LeftOverRight : Resource
  OneOf : List ℕ → Resource

-- the task has the limit, or any two of the positions are the same or exclude each other
abbrev pub IsOf : Problem → Resource → Type 0
IsOf t (UnderCombined c) = Contains t.hold.combined c
IsOf t (UnderCumulative c) = Contains t.hold.cumulative c
IsOf t RightOverLeft = (limit : Lateral) × (t.hold.lateral ≡ Some limit)
IsOf t LeftOverRight = (limit : Lateral) × (t.hold.lateral ≡ Some limit)
IsOf t (OneOf places) = (a b : ℕ) → IsTrue (is_listed places a) → IsTrue (is_listed places b) → (a ≡ b) ⊎ Exclude t.hold a b

-- what a container takes of it on its position
abbrev pub taken : Layout → Resource → Placed → ℤ
taken hold (UnderCombined c) p = pos (if is_listed c.places p.1 then p.0.mass.0 else 0)
taken hold (UnderCumulative c) p = pos (if is_counted c p.1 then p.0.mass.0 else 0)
taken hold RightOverLeft p = placed_lateral hold p
taken hold LeftOverRight p = pos 0 -ℤ placed_lateral hold p
taken hold (OneOf places) p = pos (if is_listed places p.1 then 1 else 0)

-- the greatest difference that a lateral limit allows
abbrev pub lateral_most : Layout → ℕ
lateral_most hold = option_map_or (λ (limit : Lateral). limit.most.0) hold.lateral 0

-- whether a container may have one of the positions
abbrev pub meets : List ℕ → Choice → Bool
meets places choice = list_any (λ set. list_any (is_listed places) set) choice

-- how much of it the loose loads leave for the containers
abbrev pub stock : Problem → Choice → Resource → ℤ
stock t choice (UnderCombined c) = pos c.most.0 -ℤ pos (loose_load (is_listed c.places) t.loose)
stock t choice (UnderCumulative c) = pos c.most.0 -ℤ pos (loose_load (is_counted c) t.loose)
stock t choice RightOverLeft = pos (lateral_most t.hold) -ℤ int_sum_by (loose_lateral t.hold) t.loose
stock t choice LeftOverRight = pos (lateral_most t.hold) +ℤ int_sum_by (loose_lateral t.hold) t.loose
stock t choice (OneOf places) = pos (if meets places choice then 1 else 0)

-- Prices ----------------------------------------------------------------------------------------

-- from which end hold indices are counted: up from the low one, or down from the high one
pub data End : Type 0 where
  Low : End
  High : End

abbrev pub counted_from : End → ℤ → ℤ
counted_from Low index = index
counted_from High index = pos 0 -ℤ index

-- a resource and its price for each kilogram or place
pub record Priced : Type 0 where
  pub resource : Resource
  pub price : ℕ

pub record Prices : Type 0 where
  pub end : End
  pub priced : List Priced

-- the prices are of what the task's own hold has little of
abbrev pub AreOf : Problem → Prices → Type 0
AreOf t v = All (λ (r : Priced). IsOf t r.resource) v.priced

-- what a container costs on its position: its moment, counted from that end, and the price of all that it takes
abbrev pub cost : Layout → Prices → Placed → ℤ
cost hold v p = counted_from v.end (placed_moment hold p) +ℤ int_sum_by (λ (r : Priced). pos r.price *ℤ taken hold r.resource p) v.priced

-- the least that a container costs on one of its positions
abbrev pub least_cost : Layout → Prices → Candidate → ℤ
least_cost hold v c = least (map (λ q. cost hold v (c.0, q)) c.1)

-- all that there is, at its price
abbrev pub worth : Problem → Choice → Prices → ℤ
worth t choice v = int_sum_by (λ (r : Priced). pos r.price *ℤ stock t choice r.resource) v.priced

-- the least costs of all containers with the moments of the loose loads, less what all that there is is worth: no placement among
-- the choice has a hold index that is nearer to that end
abbrev pub value : Problem → Choice → Prices → ℤ
value t choice v =
    counted_from v.end (int_sum_by (loose_moment t.hold) t.loose)
    +ℤ int_sum_by (least_cost t.hold v) (candidates t choice)
    -ℤ worth t choice v
