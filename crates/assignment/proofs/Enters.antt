-- the next candidate has a position too, or there is no way
use Rattle.std.proofs.Common.{◌≡◌, ⊎_elim, ℕ, zero, suc, ◌+◌, ◌<◌, ◌≤◌, true, false, List, [], ◌∷◌, ◌++◌, length, None, arith}
use Rattle.std.specs.Prelude.{ℤ, pos, ◌+ℤ◌, ◌≤ℤ◌}
use Rattle.std.proofs.lemmas.Int.{ints}
use Rattle.std.proofs.lemmas.Bool.{cases_Bool, cases_lt}
use Rattle.std.proofs.lemmas.List.{length_push}
use Rattle.position_set.specs.Sets.{has}
use Rattle.assignment.specs.declared.standing.Standing.{Standing}
use Rattle.assignment.specs.declared.tree.Nearest.{Nearest}
use Rattle.assignment.specs.declared.tree.Tree.{Tree}
use Rattle.assignment.specs.Prices.{price_at}
use Rattle.assignment.specs.Tables.{number_at, Lacks, MayTake}
use Rattle.assignment.specs.Standings.{IsTight, AreMoved, IsStanding, IsSettled, AreBeyond, lowest_place}
use Rattle.assignment.specs.Trees.{IsTree, AreGaps, JoinsAt, gap_at, gap_of}
use Rattle.assignment.proofs.Bounds.{cost-near, may-known, near-root, root-bound, places-near, items-near, items-low, holder-new}
use Rattle.assignment.proofs.Approaches.{place-fresh, place-reached, moved-lower, stands-or-not}
use Rattle.assignment.proofs.Pushes.{number-before, number-last, apart-push}
use Rattle.assignment.proofs.Totals.{standing-low, few-apart}

-- A position that nobody has ---------------------------------------------------------------------

-- prices are not far from 0 where a position that nobody has is tight to a member
module _ (standing : Standing) (tree : Tree) (grown : IsTree standing tree) (member position : ℕ) (known : member < length tree.members.items)
    (tight : IsTight standing.costs standing.items.items standing.places.items (number_at tree.members.items member) position)
    (free : Lacks standing.stands.items position) where
  pub all-low : (q : ℕ) → pos 0 ≤ℤ (price_at standing.places.items q +ℤ pos lowest_place)
  all-low q = ⊎_elim
      (λ (reached : has tree.reached q ≡ true).
      let none = grown.stands.free position free in
      let root = root-bound standing.costs standing.items.items standing.places.items standing.stands.items tree.members.items tree.from.items grown.ordinary grown.stands grown.branches
      member position 0 known tight (rw none (omega (arith, ints))) in
      let j = grown.reached.only q reached in
      let there = near-root standing.costs standing.items.items standing.places.items standing.stands.items tree.members.items tree.from.items
      grown.ordinary grown.stands grown.branches (suc j.0) j.0 (omega arith) j.1 j.2 in
      let here = rw j.3 at there in
      omega (arith, ints, here.above, root, j.2, grown.branches.few))
      (λ (fresh : has tree.reached q ≡ false). grown.near.low q fresh)
      (cases_Bool (has tree.reached q))

  pub settled-again : (items places : List ℤ) (stands : List ℕ) → items ≡ standing.items.items → places ≡ standing.places.items
      → IsStanding standing.costs items places stands → length stands ≡ length standing.stands.items + 1 → IsSettled standing.costs items places stands
  settled-again items places stands same_items same_places now longer = record {
    standing = now;
    low = λ q. rw same_places (all-low q);
    waiting = λ number from. rw same_items (grown.near.waiting number (omega (arith, from, longer)));
  }

-- No position ------------------------------------------------------------------------------------

-- every position that is open for a member was reached
module _ (standing : Standing) (tree : Tree) (grown : IsTree standing tree) (gaps : AreGaps standing tree (length tree.members.items))
    (none : (position : ℕ) → position < length standing.costs.influences.now → has tree.reached position ≡ false → gap_at tree.gaps position ≡ None) where
  closed : (j position : ℕ) → j < length tree.members.items → has tree.reached position ≡ false → MayTake standing.costs (number_at tree.members.items j) position
      → pos 1000000000000 ≤ℤ gap_of standing.costs standing.items.items standing.places.items (number_at tree.members.items j) position
  closed j position below fresh may =
      let known = may-known standing.costs grown.ordinary (number_at tree.members.items j) position may in
      let asked = rw (none position known.1 fresh) at (gaps.each position known.1 fresh) in
      absurd (asked j below may)

  module _ (items places : List ℤ)
      (moved : AreMoved (pos 1000000000000) standing.stands.items tree.members.items (length tree.members.items) standing.items.items standing.places.items items places) where
    pub moved-beyond : AreBeyond standing.costs items places
    moved-beyond = record {
      prices = moved-lower standing tree grown (pos 1000000000000) items places moved (omega (arith, ints)) closed;
      near_items = λ number.
          let small = items-near standing tree grown number in ⊎_elim
          (λ member. let item = rw member.2 at (moved.raised member.0 member.1) in record { above = omega (arith, ints, item, small.above); below = omega (arith, ints, item, small.below) })
          (λ (lacks : (j : ℕ) → j < length tree.members.items → number_at tree.members.items j ≡ number → ⊥).
          let item = moved.others number lacks in record { above = omega (arith, ints, item, small.above); below = omega (arith, ints, item, small.below) })
          (stands-or-not tree.members.items number);
      near_places = λ position.
          let small = places-near standing tree grown position in ⊎_elim
          (λ (reached : has tree.reached position ≡ true).
          let place = place-reached standing tree grown (pos 1000000000000) items places moved (omega (arith, ints)) closed position reached in
          record { above = omega (arith, ints, place, small.above); below = omega (arith, ints, place, small.below) })
          (λ (fresh : has tree.reached position ≡ false).
          let place = place-fresh standing tree grown (pos 1000000000000) items places moved (omega (arith, ints)) closed position fresh in
          record { above = omega (arith, ints, place, small.above); below = omega (arith, ints, place, small.below) })
          (cases_Bool (has tree.reached position));
      beyond =
          let low = standing-low standing.costs standing.items.items standing.places.items standing.stands.items grown.stands
          (λ i held. let tight = grown.stands.tight i held in let cost = cost-near standing.costs grown.ordinary i (number_at standing.stands.items i) in omega (arith, ints, tight.same, cost.above))
          (λ i from. items-low standing tree grown i) in
          omega (arith, ints, low, moved.total, grown.ordinary.few_candidates, grown.stands.prices.item_count);
    }

-- Room in the tree -------------------------------------------------------------------------------

-- a candidate that holds a position and is no member leaves room for itself
pub room-for : (standing : Standing) (tree : Tree) (nearest : Nearest) (holder : ℕ) → IsTree standing tree → JoinsAt standing tree nearest holder → length tree.members.items < 60
room-for standing tree nearest holder grown joins =
    let longer = length_push tree.members.items holder in
    let few = few-apart 60 (tree.members.items ++ holder ∷ []) (apart-push tree.members.items holder grown.branches.apart (holder-new standing tree grown nearest holder joins)) below in
    omega (arith, longer, few)
  where
    member-below : (j : ℕ) → j < length tree.members.items → number_at tree.members.items j < 60
    member-below zero within = omega (arith, grown.branches.root, grown.room, grown.ordinary.few_candidates)
    member-below (suc j) within = let entered = grown.branches.entered (suc j) (omega arith) within in omega (arith, entered, grown.room, grown.ordinary.few_candidates)

    below : (j : ℕ) → j < length (tree.members.items ++ holder ∷ []) → number_at (tree.members.items ++ holder ∷ []) j < 60
    below j within = ⊎_elim
        (λ (before : j < length tree.members.items). rw (number-before tree.members.items holder j before) (member-below j before))
        (λ (last : length tree.members.items ≤ j).
        let longer = length_push tree.members.items holder in
        let is : j ≡ length tree.members.items = omega (arith, within, longer, last) in
        let held = joins.holds.0 in
        rw (is, number-last tree.members.items holder) (omega (arith, held, grown.room, grown.ordinary.few_candidates)))
        (cases_lt j (length tree.members.items))
