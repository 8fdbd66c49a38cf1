-- candidates, the positions that a draft gives them, and the prices by which it does so
use Rattle.std.specs.Prelude.{◌≡◌, ℕ, suc, ◌<◌, ℤ, ◌+ℤ◌, List, All, IfSome, length, slice_index_or}
use Rattle.assignment.specs.declared.candidate.Candidate.{Candidate}
use Rattle.assignment.specs.declared.costs.CostTable.{CostTable}
use Rattle.assignment.specs.Costs.{MayStand, IsOrdinary}
use Rattle.assignment.specs.Prices.{price_at, total}
use Rattle.assignment.specs.Tables.{nobody, IsWithin}
use Rattle.assignment.specs.Standings.{AreLower}
use Rattle.assignment_draft.specs.declared.prices.Prices.{Prices}
use Rattle.assignment_draft.specs.declared.seats.Seats.{Seats}

-- what a draft is of: candidates, and what a kilogram adds on each position, in ticks
pub record Work : Type 0 where
  pub candidates : List Candidate
  pub influences : List ℤ

-- the table of what these candidates cost on these positions
abbrev pub table : List Candidate → List ℤ → CostTable
table candidates influences = record {
  candidates = record { ref_ptr = (0, 0); now = candidates };
  influences = record { ref_ptr = (0, 0); now = influences };
}

-- what the price of a candidate is within
abbrev pub item_span : ℕ
item_span = 1002000000000

-- what the price of a position is within
abbrev pub place_span : ℕ
place_span = 1000000000000

-- the prices bound what ways cost from below, and none of them is far from 0
pub record AreSound (prices : Prices) : Type 0 where
  pub ordinary : IsOrdinary prices.candidates.items prices.influences.items
  pub lower : AreLower (table prices.candidates.items prices.influences.items) prices.items.items prices.places.items
  pub items : (number : ℕ) → IsWithin item_span (price_at prices.items.items number)
  pub places : (position : ℕ) → IsWithin place_span (price_at prices.places.items position)

-- prices of the same candidates and positions, which are sound again
pub record AreMoved (old new : Prices) : Type 0 where
  pub candidates : new.candidates.items ≡ old.candidates.items
  pub influences : new.influences.items ≡ old.influences.items
  pub sound : AreSound new

-- the candidates are those after the first of the others, and no position is open that was not open before
pub record AreAfterFirst (before candidates : List Candidate) : Type 0 where
  pub count : length before ≡ suc (length candidates)
  pub same_mass : (number : ℕ) → number < length candidates
      → (slice_index_or candidates number nobody).mass ≡ (slice_index_or before (suc number) nobody).mass
  pub narrower : (number position : ℕ) → number < length candidates → MayStand (slice_index_or candidates number nobody) position
      → MayStand (slice_index_or before (suc number) nobody) position

-- each candidate has a position or none, and each position a known candidate or none
pub record AreSeated (count : ℕ) (seats : Seats) : Type 0 where
  pub size : length seats.stands.items ≡ count
  pub stands : All (λ stand. IfSome stand (λ position. position < 64)) seats.stands.items
  pub holders : All (λ holder. IfSome holder (λ number. number < count)) seats.holders

-- what a draft keeps
pub record IsDraft (prices : Prices) (seats : Seats) (all : ℤ) : Type 0 where
  pub sound : AreSound prices
  pub seated : AreSeated (length prices.candidates.items) seats
  pub together : all ≡ total prices.items.items +ℤ total prices.places.items
  pub near : IsWithin 200000000000000 all
