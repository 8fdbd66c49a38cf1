-- the members of a tree, the positions that they reached, and the gaps of the others
use Rattle.std.specs.Prelude.{◌≡◌, ◌≢◌, ℕ, ◌+◌, ◌<◌, ◌≤◌, ℤ, pos, ◌+ℤ◌, ◌-ℤ◌, ◌≤ℤ◌, Bool, true, false, List, length, slice_index_or, Option, Some, None, MatchOption, IfSome, IsSomeAnd, ◌⊎◌}
use Rattle.position_set.specs.declared.set.PositionSet.{PositionSet}
use Rattle.position_set.specs.Sets.{has}
use Rattle.assignment.specs.declared.costs.CostTable.{CostTable}
use Rattle.assignment.specs.declared.standing.Standing.{Standing}
use Rattle.assignment.specs.declared.tree.Gap.{Gap}
use Rattle.assignment.specs.declared.tree.Nearest.{Nearest}
use Rattle.assignment.specs.declared.tree.Seeker.{Seeker}
use Rattle.assignment.specs.declared.tree.Tree.{Tree}
use Rattle.assignment.specs.Costs.{IsOrdinary}
use Rattle.assignment.specs.Prices.{price_at}
use Rattle.assignment.specs.Tables.{number_at, candidate_at, Lacks, AreApart, IsWithin, MayTake, cost_at}
use Rattle.assignment.specs.Standings.{IsTight, IsStanding, greatest_cost, lowest_place}

-- the first member has no position; each other one stands on a position that costs an earlier member just what the
-- prices are
pub record AreBranches (costs : CostTable) (items places : List ℤ) (stands members from : List ℕ) : Type 0 where
  pub some : 0 < length members
  pub few : length members ≤ 60
  pub paired : length from ≡ length members
  pub root : number_at members 0 ≡ length stands
  pub entered : (j : ℕ) → 0 < j → j < length members → number_at members j < length stands
  pub apart : AreApart members
  pub earlier : (j : ℕ) → 0 < j → j < length members → number_at from j < j
  pub tight : (j : ℕ) → 0 < j → j < length members
      → IsTight costs items places (number_at members (number_at from j)) (number_at stands (number_at members j))

-- the set has the positions on which members stand
pub record AreReached (stands members : List ℕ) (reached : PositionSet) : Type 0 where
  pub each : (j : ℕ) → 0 < j → j < length members → has reached (number_at stands (number_at members j)) ≡ true
  pub only : (position : ℕ) → has reached position ≡ true
      → (j : ℕ) × (0 < j) × (j < length members) × (number_at stands (number_at members j) ≡ position)

-- how far prices may have moved while the candidate of this number, the first member, looks for a position
pub record AreNear (items places : List ℤ) (first : ℕ) (reached : PositionSet) (moved : ℤ) : Type 0 where
  pub low : (position : ℕ) → has reached position ≡ false → pos 0 ≤ℤ (price_at places position +ℤ pos lowest_place)
  pub waiting : (number : ℕ) → first < number → IsWithin greatest_cost (price_at items number)
  pub root_low : pos 0 ≤ℤ (price_at items first +ℤ pos greatest_cost)
  pub root_high : price_at items first ≤ℤ pos 746000000000
  pub moved_low : pos 0 ≤ℤ moved
  pub moved_high : moved ≤ℤ (price_at items first +ℤ pos greatest_cost)

-- a tree that grows from the first candidate without a position
pub record IsTree (standing : Standing) (tree : Tree) : Type 0 where
  pub ordinary : IsOrdinary standing.costs.candidates.now standing.costs.influences.now
  pub stands : IsStanding standing.costs standing.items.items standing.places.items standing.stands.items
  pub room : length standing.stands.items < length standing.costs.candidates.now
  pub branches : AreBranches standing.costs standing.items.items standing.places.items standing.stands.items tree.members.items tree.from.items
  pub reached : AreReached standing.stands.items tree.members.items tree.reached
  pub near : AreNear standing.items.items standing.places.items (length standing.stands.items) tree.reached tree.moved

-- how much more the position costs the candidate than their prices are
abbrev pub gap_of : CostTable → List ℤ → List ℤ → ℕ → ℕ → ℤ
gap_of costs items places number position = cost_at costs number position -ℤ (price_at items number +ℤ price_at places position)

-- the least gap of the position to the first members, and one that has it
pub record IsGap (costs : CostTable) (items places : List ℤ) (members : List ℕ) (count : ℕ) (moved : ℤ) (position : ℕ) (gap : Gap) : Type 0 where
  pub known : gap.member < count
  pub may : MayTake costs (number_at members gap.member) position
  pub key : gap.key ≡ moved +ℤ gap_of costs items places (number_at members gap.member) position
  pub least : (j : ℕ) → j < count → MayTake costs (number_at members j) position
      → gap.key ≤ℤ (moved +ℤ gap_of costs items places (number_at members j) position)

-- the gap of the position to the first members, none where it is open for none of them
abbrev pub IsAsked : CostTable → List ℤ → List ℤ → List ℕ → ℕ → ℤ → ℕ → Option Gap → Type 0
IsAsked costs items places members count moved position gap = MatchOption gap
    ((j : ℕ) → j < count → MayTake costs (number_at members j) position → ⊥)
    (IsGap costs items places members count moved position)

-- the gap of this position
abbrev pub gap_at : List (Option Gap) → ℕ → Option Gap
gap_at gaps position = slice_index_or gaps position None

-- the gaps of all positions that were not reached, to so many first members
pub record AreGaps (standing : Standing) (tree : Tree) (count : ℕ) : Type 0 where
  pub each : (position : ℕ) → position < length standing.costs.influences.now → has tree.reached position ≡ false
      → IsAsked standing.costs standing.items.items standing.places.items tree.members.items count tree.moved position (gap_at tree.gaps position)

-- the gap is the less of the two
pub record IsLessGap (old : Option Gap) (new less : Gap) : Type 0 where
  pub either : (less ≡ new) ⊎ (old ≡ Some less)
  pub least : less.key ≤ℤ new.key
  pub least_old : IfSome old (λ gap. less.key ≤ℤ gap.key)

-- the seeker speaks for the member at this place
pub record IsSeeker (costs : CostTable) (items : List ℤ) (members : List ℕ) (place : ℕ) (moved : ℤ) (seeker : Seeker) : Type 0 where
  pub member : seeker.member ≡ place
  pub mass : seeker.mass ≡ pos (candidate_at costs (number_at members place)).mass
  pub may : seeker.open ≡ (candidate_at costs (number_at members place)).open
  pub offset : seeker.offset ≡ moved -ℤ price_at items (number_at members place)

-- what the gap of a position becomes by a member's gap, if the position is open for the member
pub record IsMeasured (may : Bool) (new : Gap) (old result : Option Gap) : Type 0 where
  pub closed : may ≡ false → result ≡ old
  pub opened : may ≡ true → IsSomeAnd result (IsLessGap old new)

-- the nearer of the nearest position so far and of one more, which may have no gap
pub record IsNearer (old : Option Nearest) (position : ℕ) (gap : Option Gap) (result : Option Nearest) : Type 0 where
  pub none : gap ≡ None → result ≡ old
  pub either : (result ≡ old) ⊎ ((nearest : Nearest) × (result ≡ Some nearest) × (nearest.position ≡ position) × (gap ≡ Some nearest.gap))
  pub least : IfSome gap (λ here. IsSomeAnd result (λ nearest. nearest.gap.key ≤ℤ here.key))
  pub least_old : IfSome old (λ before. IsSomeAnd result (λ nearest. nearest.gap.key ≤ℤ before.gap.key))

-- a position below this number that was not reached, and none such is nearer
pub record IsNearest (gaps : List (Option Gap)) (reached : PositionSet) (below : ℕ) (nearest : Nearest) : Type 0 where
  pub within : nearest.position < below
  pub fresh : has reached nearest.position ≡ false
  pub gap : gap_at gaps nearest.position ≡ Some nearest.gap
  pub least : (position : ℕ) → position < below → has reached position ≡ false → IfSome (gap_at gaps position) (λ gap. nearest.gap.key ≤ℤ gap.key)

-- the nearest position below this number that was not reached, if one such has a gap
abbrev pub IsNearestBelow : List (Option Gap) → PositionSet → ℕ → Option Nearest → Type 0
IsNearestBelow gaps reached below nearest = MatchOption nearest
    ((position : ℕ) → position < below → has reached position ≡ false → gap_at gaps position ≡ None)
    (IsNearest gaps reached below)

-- the positions while candidates change theirs: the member at this place is to take the hole, a position that nobody
-- else has
pub record IsTurning (costs : CostTable) (items places : List ℤ) (start members stands : List ℕ) (hole place : ℕ) : Type 0 where
  pub tight : (number : ℕ) → number < length stands → IsTight costs items places number (number_at stands number)
  pub apart : AreApart stands
  pub beside : Lacks stands hole
  pub next : IsTight costs items places (number_at members place) hole
  pub free : (position : ℕ) → Lacks stands position → position ≢ hole → price_at places position ≡ pos 0
  pub unturned : (j : ℕ) → 0 < j → j < place + 1 → number_at stands (number_at members j) ≡ number_at start (number_at members j)

-- the candidate stands on the position, which costs a member just what their prices are and was not reached
pub record JoinsAt (standing : Standing) (tree : Tree) (nearest : Nearest) (holder : ℕ) : Type 0 where
  pub from : nearest.gap.member < length tree.members.items
  pub fresh : has tree.reached nearest.position ≡ false
  pub holds : (holder < length standing.stands.items) × (number_at standing.stands.items holder ≡ nearest.position)
  pub tight : IsTight standing.costs standing.items.items standing.places.items
      (number_at tree.members.items nearest.gap.member) nearest.position
