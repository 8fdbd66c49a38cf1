-- how far costs and prices go
use Rattle.std.proofs.Common.{◌≡◌, ⊎_elim, ℕ, zero, suc, ◌+◌, ◌*◌, ◌<◌, ◌≤◌, true, false, List, length, ap, sym, ◌∙◌, arith}
use Rattle.std.specs.Prelude.{ℤ, pos, negsuc, ◌+ℤ◌, ◌*ℤ◌, ◌≤ℤ◌, unsigned_abs}
use Rattle.std.proofs.Math.Nat.{mul-le-mul}
use Rattle.std.proofs.lemmas.Int.{ints, unsigned_abs-mul}
use Rattle.std.proofs.lemmas.Bool.{cases_Bool, cases_lt, false≢true}
use Rattle.std.proofs.lemmas.List.{get_or_past}
use Rattle.position_set.specs.Sets.{has}
use Rattle.position_set.proofs.SetLemmas.{has-empty}
use Rattle.assignment.specs.declared.candidate.Candidate.{Candidate}
use Rattle.assignment.specs.declared.costs.CostTable.{CostTable}
use Rattle.assignment.specs.declared.standing.Standing.{Standing}
use Rattle.assignment.specs.declared.tree.Nearest.{Nearest}
use Rattle.assignment.specs.declared.tree.Tree.{Tree}
use Rattle.assignment.specs.Costs.{IsOrdinary}
use Rattle.assignment.specs.Prices.{price_at}
use Rattle.assignment.specs.Tables.{number_at, Lacks, nobody, candidate_at, influence_at, IsWithin, MayTake, cost_at}
use Rattle.assignment.specs.Standings.{IsTight, IsStanding, CanMove, greatest_cost}
use Rattle.assignment.specs.Trees.{AreBranches, IsTree, JoinsAt}

pub within-abs : (most : ℕ) (number : ℤ) → unsigned_abs number ≤ most → IsWithin most number
within-abs most (pos n) small = record { above = omega (arith, ints, small); below = omega (arith, ints, small) }
within-abs most (negsuc n) small = record { above = omega (arith, ints, small); below = omega (arith, ints, small) }

pub abs-within : (most : ℕ) (number : ℤ) → IsWithin most number → unsigned_abs number ≤ most
abs-within most (pos n) within = omega (arith, ints, within.below)
abs-within most (negsuc n) within = omega (arith, ints, within.above)

-- Costs ------------------------------------------------------------------------------------------

light : (costs : CostTable) → IsOrdinary costs.candidates.now costs.influences.now → (number : ℕ) → (candidate_at costs number).mass ≤ 20000
light costs ordinary number = ⊎_elim
    (λ (known : number < length costs.candidates.now). ordinary.light number nobody known)
    (λ (past : length costs.candidates.now ≤ number). rw (get_or_past costs.candidates.now number nobody past) (omega arith))
    (cases_lt number (length costs.candidates.now))

near : (costs : CostTable) → IsOrdinary costs.candidates.now costs.influences.now → (position : ℕ) → unsigned_abs (influence_at costs position) ≤ 100000
near costs ordinary position = ⊎_elim
    (λ (known : position < length costs.influences.now). ordinary.near position (pos 0) known)
    (λ (past : length costs.influences.now ≤ position). rw (get_or_past costs.influences.now position (pos 0) past) (omega arith))
    (cases_lt position (length costs.influences.now))

pub cost-near : (costs : CostTable) → IsOrdinary costs.candidates.now costs.influences.now → (number position : ℕ) → IsWithin greatest_cost (cost_at costs number position)
unfolding cost_at
cost-near costs ordinary number position =
    within-abs greatest_cost (pos (candidate_at costs number).mass *ℤ influence_at costs position)
    (rw (unsigned_abs-mul (pos (candidate_at costs number).mass) (influence_at costs position))
    (mul-le-mul (light costs ordinary number) (near costs ordinary position)))

nobody-closed : (position : ℕ) → has (record { 0 = 0 }) position ≡ false
nobody-closed = has-empty

pub may-known : (costs : CostTable) → IsOrdinary costs.candidates.now costs.influences.now → (number position : ℕ) → MayTake costs number position
    → (number < length costs.candidates.now) × (position < length costs.influences.now)
unfolding MayTake
may-known costs ordinary number position may = ⊎_elim
    (λ (known : number < length costs.candidates.now). (known, ordinary.known number nobody known position may))
    (λ (past : length costs.candidates.now ≤ number). absurd (false≢true (sym (nobody-closed position)
    ∙ sym (ap (λ (c : Candidate). has c.open position) (get_or_past costs.candidates.now number nobody past)) ∙ may)))
    (cases_lt number (length costs.candidates.now))

-- Prices in a tree -------------------------------------------------------------------------------

module _ (costs : CostTable) (items places : List ℤ) (stands members from : List ℕ)
    (ordinary : IsOrdinary costs.candidates.now costs.influences.now)
    (standing : IsStanding costs items places stands) (branches : AreBranches costs items places stands members from) where
  -- each further position that was reached has its price near that of the first member
  pub near-root : (n j : ℕ) → j < n → 0 < j → j < length members
      → IsWithin (4000000000 * j + 2000000000) (price_at places (number_at stands (number_at members j)) +ℤ price_at items (length stands))
  near-root zero j below above within = absurd (omega (arith, below))
  near-root (suc n) j below above within =
      let tight = branches.tight j above within in
      let earlier = branches.earlier j above within in
      let cost = cost-near costs ordinary (number_at members (number_at from j)) (number_at stands (number_at members j)) in
      ⊎_elim
      (λ (first : 0 < number_at from j).
      let there = near-root n (number_at from j) (omega (arith, below, earlier)) first (omega (arith, within, earlier)) in
      let entered = branches.entered (number_at from j) first (omega (arith, within, earlier)) in
      let held = standing.tight (number_at members (number_at from j)) entered in
      let other = cost-near costs ordinary (number_at members (number_at from j)) (number_at stands (number_at members (number_at from j))) in
      record {
        above = omega (arith, ints, tight.same, held.same, cost.above, cost.below, other.above, other.below, there.above, there.below, earlier);
        below = omega (arith, ints, tight.same, held.same, cost.above, cost.below, other.above, other.below, there.above, there.below, earlier);
      })
      (λ (root : number_at from j ≤ 0).
      let zeroth : number_at from j ≡ 0 = omega (arith, root) in
      let same = rw (zeroth, branches.root) at tight.same in
      let small = rw (zeroth, branches.root) at cost in
      record {
        above = omega (arith, ints, same, small.above, small.below);
        below = omega (arith, ints, same, small.above, small.below);
      })
      (cases_lt 0 (number_at from j))

  -- a member that has a tight position keeps the first member's price near that of the position
  pub root-bound : (j position low : ℕ) → j < length members → IsTight costs items places (number_at members j) position → pos 0 ≤ℤ (price_at places position +ℤ pos low)
      → price_at items (length stands) ≤ℤ pos (low + 242000000000)
  root-bound j position low within tight above = ⊎_elim
      (λ (further : 0 < j).
      let there = near-root (suc j) j (omega arith) further within in
      let held = standing.tight (number_at members j) (branches.entered j further within) in
      let cost = cost-near costs ordinary (number_at members j) position in
      let other = cost-near costs ordinary (number_at members j) (number_at stands (number_at members j)) in
      omega (arith, ints, there.below, held.same, tight.same, cost.below, other.above, above, within, branches.few))
      (λ (root : j ≤ 0).
      let zeroth : j ≡ 0 = omega (arith, root) in
      let same = rw (zeroth, branches.root) at tight.same in
      let cost = cost-near costs ordinary (length stands) position in
      omega (arith, ints, same, cost.below, above))
      (cases_lt 0 j)

-- every price in a tree
module _ (standing : Standing) (tree : Tree) (grown : IsTree standing tree) where
  pub places-near : (position : ℕ) → IsWithin 984000000000 (price_at standing.places.items position)
  places-near position = ⊎_elim
      (λ (reached : has tree.reached position ≡ true).
      let j = grown.reached.only position reached in
      let there = near-root standing.costs standing.items.items standing.places.items standing.stands.items tree.members.items tree.from.items
      grown.ordinary grown.stands grown.branches (suc j.0) j.0 (omega arith) j.1 j.2 in
      let here = rw j.3 at there in
      record {
        above = omega (arith, ints, here.above, here.below, grown.near.root_high, grown.near.root_low, grown.branches.few, j.2);
        below = omega (arith, ints, grown.stands.prices.signs position);
      })
      (λ (fresh : has tree.reached position ≡ false). record {
        above = omega (arith, ints, grown.near.low position fresh);
        below = omega (arith, ints, grown.stands.prices.signs position);
      })
      (cases_Bool (has tree.reached position))

  pub items-near : (number : ℕ) → IsWithin 986000000000 (price_at standing.items.items number)
  items-near number = ⊎_elim
      (λ (held : number < length standing.stands.items).
      let tight = grown.stands.tight number held in
      let cost = cost-near standing.costs grown.ordinary number (number_at standing.stands.items number) in
      let place = places-near (number_at standing.stands.items number) in
      let sign = grown.stands.prices.signs (number_at standing.stands.items number) in
      record {
        above = omega (arith, ints, tight.same, cost.above, cost.below, place.above, sign);
        below = omega (arith, ints, tight.same, cost.above, cost.below, place.above, sign);
      })
      (λ (other : length standing.stands.items ≤ number). ⊎_elim
      (λ (later : length standing.stands.items < number).
      let small = grown.near.waiting number later in
      record { above = omega (arith, ints, small.above); below = omega (arith, ints, small.below) })
      (λ (root : number ≤ length standing.stands.items).
      let same : number ≡ length standing.stands.items = omega (arith, root, other) in
      rw same record { above = omega (arith, ints, grown.near.root_low); below = omega (arith, ints, grown.near.root_high) })
      (cases_lt (length standing.stands.items) number))
      (cases_lt number (length standing.stands.items))

  -- no candidate has a price below the least cost
  pub items-low : (number : ℕ) → pos 0 ≤ℤ (price_at standing.items.items number +ℤ pos greatest_cost)
  items-low number = ⊎_elim
      (λ (held : number < length standing.stands.items).
      let tight = grown.stands.tight number held in
      let cost = cost-near standing.costs grown.ordinary number (number_at standing.stands.items number) in
      let sign = grown.stands.prices.signs (number_at standing.stands.items number) in
      omega (arith, ints, tight.same, cost.above, sign))
      (λ (other : length standing.stands.items ≤ number). ⊎_elim
      (λ (later : length standing.stands.items < number). (grown.near.waiting number later).above)
      (λ (root : number ≤ length standing.stands.items).
      let same : number ≡ length standing.stands.items = omega (arith, root, other) in
      rw same grown.near.root_low)
      (cases_lt (length standing.stands.items) number))
      (cases_lt number (length standing.stands.items))

  -- the prices of its members can move
  pub can-move : CanMove standing.items.items standing.places.items standing.stands.items tree.members.items
  can-move = record {
    some = grown.branches.some;
    known = member-known;
    entered = grown.branches.entered;
    known_places = λ number held. let may = may-known standing.costs grown.ordinary number (number_at standing.stands.items number) (grown.stands.tight number held).may in
        omega (arith, may.1, grown.stands.prices.place_count);
    apart = grown.branches.apart;
    stands_apart = grown.stands.apart;
    near_items = λ number. let small = items-near number in record { above = omega (arith, ints, small.above); below = omega (arith, ints, small.below) };
    near_places = λ position. let small = places-near position in record { above = omega (arith, ints, small.above); below = omega (arith, ints, small.below) };
  }
    where
      member-known : (j : ℕ) → j < length tree.members.items → number_at tree.members.items j < length standing.items.items
      member-known zero below = omega (arith, grown.branches.root, grown.room, grown.stands.prices.item_count)
      member-known (suc j) below = let entered = grown.branches.entered (suc j) (omega arith) below in omega (arith, entered, grown.room, grown.stands.prices.item_count)

  -- who stands on a position that was not reached is no member
  pub holder-new : (nearest : Nearest) (holder : ℕ) → JoinsAt standing tree nearest holder → Lacks tree.members.items holder
  holder-new nearest holder joins zero below is = let held = joins.holds.0 in omega (arith, held, is, grown.branches.root)
  holder-new nearest holder joins (suc j) below is = false≢true (sym joins.fresh
      ∙ ap (has tree.reached) (sym joins.holds.1 ∙ ap (number_at standing.stands.items) (sym is)) ∙ grown.reached.each (suc j) (omega arith) below)
