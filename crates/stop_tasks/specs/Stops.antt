-- a load over several sectors, as contracts see it
use Rattle.std.specs.Prelude.{ℕ, List, map, zip, nat_le, slice_index_or}
use Rattle.std.specs.List.{filter}
use Rattle.hold_parts.specs.declared.parts.Item.{Item}
use Rattle.hold_limits.specs.Problem.{Problem}
use Rattle.hold_limits.specs.BranchOrder.{Offered, branch_order}

-- A task for each sector, in the order in which they are flown. For each container of the first one, in the order of
-- the offer, the number of its last sector, from 1: at the end of that sector it leaves. And pairs of positions, by
-- number: what stands on the second one is behind what stands on the first one, seen from the door.
pub record Stops : Type 0 where
  pub sectors : List Problem
  pub leaves : List ℕ
  pub behind : List (ℕ × ℕ)

-- the load with these parts
abbrev pub stops_of : List Problem → List ℕ → List (ℕ × ℕ) → Stops
stops_of sectors leaves behind = record { sectors = sectors; leaves = leaves; behind = behind }

-- of elements, each with a last sector, those that stay until the sector with this number: whose last sector is no
-- earlier
abbrev pub staying : {X : Type 0} → List X → List ℕ → ℕ → List X
staying {X} xs last number = map (λ (p : X × ℕ). p.0) (filter (λ (p : X × ℕ). nat_le number p.1) (zip xs last))

-- the containers that are aboard on the sector with this number, in the order of the offer
abbrev pub aboard : List Item → List ℕ → ℕ → List Item
aboard items leaves number = staying items leaves number

-- the last sectors of containers in branch order
abbrev pub leaves_in_order : List Item → List ℕ → List ℕ
leaves_in_order items leaves = map (λ (a : Offered). slice_index_or leaves a.0 0) (branch_order items)
