-- choices that lose no placement: where positions that no placement can use are taken away, or a choice is split in two
use Rattle.std.specs.Prelude.{ℕ, zero, suc, nat_lt, ℤ, pos, ◌+ℤ◌, ◌-ℤ◌, ◌≤ℤ◌, int_le, Bool, true, false, not, ◌&&◌, ◌||◌, ◌==◌, List, [], ◌∷◌, ◌++◌, length, map, IsTrue}
use Rattle.std.specs.List.{filter, list_all, list_any, range_with_len}
use Rattle.std.specs.Int.{int_max, int_min}
use Rattle.hold_parts.specs.declared.parts.Item.{Item}
use Rattle.hold_parts.specs.Twins.{are_twins}
use Rattle.hold_limits.specs.BranchOrder.{ordered}
use Rattle.hold_limits.specs.Enumeration.{is_accepted, exclude}
use Rattle.hold_limits.specs.Layout.{Layout}
use Rattle.hold_limits.specs.Placement.{IsSound, KeepsLateralLimit}
use Rattle.hold_limits.specs.Problem.{Problem}
use Rattle.hold_limits.specs.Twins.{IsRising}
use Rattle.price_trees.specs.Prices.{Choice, Candidate, candidates, End, Low, High, Prices, cost, least_cost, value}

-- a sound and rising placement within the lateral limit; where a path is admissible there is one that is this too, and the best
-- path is
pub record IsRegular (t : Problem) (path : List ℕ) : Type 0 where
  pub sound : IsSound t path
  pub rising : IsRising t path
  pub lateral : KeepsLateralLimit t path

-- Ticks -----------------------------------------------------------------------------------------

-- the ticks from low to high, both among them; none where high is below low
pub record Ticks : Type 0 where
  pub low : ℤ
  pub high : ℤ

pub record IsIn (ticks : Ticks) (index : ℤ) : Type 0 where
  pub above : ticks.low ≤ℤ index
  pub below : index ≤ℤ ticks.high

-- the ticks of the window for the hold index
abbrev pub window : Problem → Ticks
window t = record { low = t.low; high = t.high }

-- those of them whose take-off index is at most so far from the ideal band
abbrev pub ticks_within : Problem → ℕ → Ticks
ticks_within t distance = record {
  low = int_max t.low (t.ideal_low -ℤ t.base -ℤ pos distance);
  high = int_min t.high (t.ideal_high -ℤ t.base +ℤ pos distance);
}

-- the last of the ticks, counted from that end
abbrev pub goal : Ticks → End → ℤ
goal ticks Low = ticks.high
goal ticks High = pos 0 -ℤ ticks.low

-- Choices of a task and of a prefix -------------------------------------------------------------

-- for each container the positions that accept it
abbrev pub full : Problem → Choice
full t = map (λ (item : Item). filter (λ q. is_accepted t.hold (item, q)) (range_with_len 0 (length t.hold.positions))) (ordered t.items)

-- the choice in which the first containers have the prefix's positions, as far as they may have them
abbrev pub fixed : List ℕ → Choice → Choice
fixed [] choice = choice
fixed (q ∷ prefix) [] = []
fixed (q ∷ prefix) (set ∷ choice) = filter (λ p. q == p) set ∷ fixed prefix choice

-- whether a container has no position left
abbrev pub is_empty : List ℕ → Bool
is_empty [] = true
is_empty (q ∷ set) = false

abbrev pub HasEmpty : Choice → Type 0
HasEmpty choice = IsTrue (list_any is_empty choice)

-- Positions that other containers do not leave ----------------------------------------------------

-- a container that may have one position alone takes it, and those that it excludes, from all others
abbrev pub leaves : Layout → List ℕ → ℕ → Bool
leaves hold [] p = true
leaves hold (q ∷ []) p = not ((q == p) || exclude hold q p)
leaves hold (q ∷ r ∷ set) p = true

-- an earlier container leaves the position to this one, and if they are twins it may have one below it
abbrev pub leaves_later : Layout → Item → ℕ → Candidate → Bool
leaves_later hold item p earlier = leaves hold earlier.1 p && (not (are_twins earlier.0 item) || list_any (λ q. nat_lt q p) earlier.1)

-- a later container leaves the position to this one, and if they are twins it may have one above it
abbrev pub leaves_earlier : Layout → Item → ℕ → Candidate → Bool
leaves_earlier hold item p later = leaves hold later.1 p && (not (are_twins item later.0) || list_any (λ q. nat_lt p q) later.1)

-- the positions of each container that those before it and those after it leave
abbrev pub left_by : Layout → List Candidate → List Candidate → Choice
left_by hold before [] = []
left_by hold before (c ∷ after) =
    filter (λ p. list_all (leaves_later hold c.0 p) before && list_all (leaves_earlier hold c.0 p) after) c.1
    ∷ left_by hold (before ++ c ∷ []) after

-- the choice without the positions that another container does not leave
abbrev pub narrowed_once : Problem → Choice → Choice
narrowed_once t choice = left_by t.hold [] (candidates t choice)

-- Positions that prices rule out ----------------------------------------------------------------

-- the positions of each container that cost at most so much more than its least
abbrev pub cheap : Layout → Prices → ℤ → List Candidate → Choice
cheap hold v slack [] = []
cheap hold v slack (c ∷ rest) = filter (λ p. int_le (cost hold v (c.0, p) -ℤ least_cost hold v c) slack) c.1 ∷ cheap hold v slack rest

-- the choice without the positions on which the value would pass the ticks
abbrev pub trimmed : Problem → Ticks → Prices → Choice → Choice
trimmed t ticks v choice = cheap t.hold v (goal ticks v.end -ℤ value t choice v) (candidates t choice)

-- Halves ----------------------------------------------------------------------------------------

-- the choice in which one container has only those of its positions that pass the test
abbrev pub cut : (ℕ → Bool) → ℕ → Choice → Choice
cut test i [] = []
cut test zero (set ∷ choice) = filter test set ∷ choice
cut test (suc i) (set ∷ choice) = set ∷ cut test i choice
