-- the positions that a candidate can reach, and how prices move until it gets one
use Rattle.std.specs.Prelude.{◌≡◌, true, false, ℕ, ◌<◌, ℤ, pos, ◌+ℤ◌, ◌-ℤ◌, ◌≤ℤ◌, List, All, IfSome, length, slice_index_or}
use Rattle.position_set.specs.declared.set.PositionSet.{PositionSet}
use Rattle.position_set.specs.Sets.{has}
use Rattle.assignment.specs.Prices.{price_at}
use Rattle.assignment.specs.Tables.{IsWithin, MayTake, cost_at}
use Rattle.assignment_draft.specs.declared.prices.Prices.{Prices}
use Rattle.assignment_draft.specs.declared.search.Tree.{Tree}
use Rattle.assignment_draft.specs.Drafts.{AreMoved, item_span, place_span, table}

-- what gaps are within
abbrev pub gap_span : ℕ
gap_span = 8000000000000

-- the most that prices move
abbrev pub most_moved : ℕ
most_moved = 2004000000000

-- the set has only numbers below so many
abbrev pub AreBelow : ℕ → PositionSet → Type 0
AreBelow count set = (q : ℕ) → has set q ≡ true → q < count

-- the position is open for the candidate
abbrev pub IsOpen : Prices → ℕ → ℕ → Type 0
IsOpen prices number position = MayTake (table prices.candidates.items prices.influences.items) number position

-- how much more the position costs the candidate than their prices are
abbrev pub gap_of : Prices → ℕ → ℕ → ℤ
gap_of prices number position =
    cost_at (table prices.candidates.items prices.influences.items) number position -ℤ (price_at prices.items.items number +ℤ price_at prices.places.items position)

-- the gap that was kept of the position
abbrev pub gap_at : List ℤ → ℕ → ℤ
gap_at gaps position = slice_index_or gaps position (pos 0)

-- the candidate's gap of the position is not below both what was kept of it and the goal's
abbrev pub IsMeasured : Prices → Tree → ℕ → ℕ → Type 0
IsMeasured prices tree number position = (least : ℤ) → least ≤ℤ gap_at tree.gaps position → least ≤ℤ tree.limit → least ≤ℤ (tree.moved +ℤ gap_of prices number position)

-- a tree of candidates and positions that are known, whose prices have room to move; it has measured what its members do
-- not reach
pub record IsTree (prices : Prices) (tree : Tree) : Type 0 where
  pub gaps : All (IsWithin gap_span) tree.gaps
  pub from : All (λ number. number < length prices.candidates.items) tree.from
  pub members : AreBelow (length prices.candidates.items) tree.members
  pub ahead : AreBelow (length prices.influences.items) tree.ahead
  pub reached : AreBelow (length prices.influences.items) tree.reached
  pub goal : IfSome tree.goal (λ position. position < length prices.influences.items)
  pub limit : IsWithin gap_span tree.limit
  pub unseen : (position : ℕ) → position < 64 → has tree.ahead position ≡ false → has tree.reached position ≡ false → tree.limit ≤ℤ gap_at tree.gaps position
  pub measured : (number position : ℕ) → has tree.members number ≡ true → has tree.reached position ≡ false → IsOpen prices number position
      → IsMeasured prices tree number position
  pub moved_low : pos 0 ≤ℤ tree.moved
  pub room_low : pos 0 ≤ℤ tree.room
  pub room_high : (tree.moved +ℤ tree.room) ≤ℤ pos most_moved
  pub item_room : (number : ℕ) → has tree.members number ≡ true → (price_at prices.items.items number +ℤ tree.room) ≤ℤ pos item_span
  pub place_room : (position : ℕ) → has tree.reached position ≡ true → tree.room ≤ℤ (price_at prices.places.items position +ℤ pos place_span)

-- the tree has seen more, and nothing else
pub record IsCloser (old new : Tree) : Type 0 where
  pub gaps : (position : ℕ) → gap_at new.gaps position ≤ℤ gap_at old.gaps position
  pub limit : new.limit ≤ℤ old.limit
  pub moved : new.moved ≡ old.moved
  pub reached : new.reached ≡ old.reached
  pub members : new.members ≡ old.members

-- prices of positions in the set fell by so much
pub record AreLowered (by : ℤ) (set : PositionSet) (old new : Prices) : Type 0 where
  pub moved : AreMoved old new
  pub items : new.items ≡ old.items
  pub fallen : (position : ℕ) → has set position ≡ true → price_at new.places.items position ≡ price_at old.places.items position -ℤ by
  pub others : (position : ℕ) → has set position ≡ false → price_at new.places.items position ≡ price_at old.places.items position

-- prices of candidates in the set rose by so much
pub record AreLifted (by : ℤ) (set : PositionSet) (old new : Prices) : Type 0 where
  pub moved : AreMoved old new
  pub places : new.places ≡ old.places
  pub risen : (number : ℕ) → has set number ≡ true → price_at new.items.items number ≡ price_at old.items.items number +ℤ by
  pub others : (number : ℕ) → has set number ≡ false → price_at new.items.items number ≡ price_at old.items.items number
