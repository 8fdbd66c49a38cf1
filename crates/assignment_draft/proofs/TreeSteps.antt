-- what a tree keeps as it grows and as prices move
use Rattle.std.proofs.Common.{◌≡◌, ⊎_elim, ℕ, ◌<◌, ◌≤◌, Some, true, false, List, length, set, ◌∙◌, not, ◌&&◌, ◌||◌, ◌==◌, arith}
use Rattle.std.specs.Prelude.{ℤ, pos, ◌+ℤ◌, ◌-ℤ◌, ◌≤ℤ◌}
use Rattle.std.proofs.lemmas.Int.{ints}
use Rattle.std.proofs.lemmas.Bool.{cases_Bool, cases_eq, cases_lt}
use Rattle.std.proofs.lemmas.List.{get_or-set_same, get_or-set_other, set_past}
use Rattle.std.proofs.lemmas.List.Elements.{All-set}
use Rattle.position_set.specs.declared.set.PositionSet.{PositionSet}
use Rattle.position_set.specs.Sets.{has}
use Rattle.assignment.specs.Prices.{price_at}
use Rattle.assignment.specs.Tables.{IsWithin, cost_at}
use Rattle.assignment.proofs.Bounds.{may-known}
use Rattle.assignment_draft.specs.declared.prices.Prices.{Prices}
use Rattle.assignment_draft.specs.declared.search.Tree.{Tree}
use Rattle.assignment_draft.specs.Drafts.{AreSound, item_span, place_span, table}
use Rattle.assignment_draft.specs.Trees.{AreLifted, AreLowered, IsCloser, IsMeasured, IsOpen, IsTree, gap_at, gap_of, gap_span, most_moved}
use Rattle.assignment_draft.proofs.Rests.{not-there, new-or-old, below-with, was-there, is-gone}

-- a gap that is written lower
pub falls : (gaps : List ℤ) (position : ℕ) (gap : ℤ) → gap ≤ℤ gap_at gaps position → (q : ℕ) → gap_at (set gaps position gap) q ≤ℤ gap_at gaps q
falls gaps position gap lower q = ⊎_elim
    (λ (same : q ≡ position). ⊎_elim
    (λ (known : position < length gaps). rw (same, get_or-set_same gaps position gap (pos 0) known) lower)
    (λ (past : length gaps ≤ position). rw (set_past gaps position gap past) (omega (arith, ints)))
    (cases_lt position (length gaps)))
    (λ (other : q ≡ position → ⊥). rw (get_or-set_other gaps position q gap (pos 0) other) (omega (arith, ints)))
    (cases_eq q position)

pub closer-again : (old between new : Tree) → IsCloser old between → IsCloser between new → IsCloser old new
closer-again old between new first second = record {
  gaps = λ q. let a = first.gaps q in let b = second.gaps q in omega (arith, ints, a, b);
  limit = omega (arith, ints, first.limit, second.limit);
  moved = second.moved ∙ first.moved;
  reached = second.reached ∙ first.reached;
  members = second.members ∙ first.members;
}

pub closer-measured : (prices : Prices) (old new : Tree) → IsCloser old new → (number position : ℕ) → IsMeasured prices old number position → IsMeasured prices new number position
closer-measured prices old new closer number position measured least below_gap below_limit =
    let gap = closer.gaps position in
    let before = measured least (omega (arith, ints, below_gap, gap)) (omega (arith, ints, below_limit, closer.limit)) in
    omega (arith, ints, before, closer.moved)

pub room-near : (prices : Prices) (tree : Tree) → IsTree prices tree → IsWithin most_moved tree.room
room-near prices tree grown = record { above = omega (arith, ints, grown.room_low); below = omega (arith, ints, grown.room_high, grown.moved_low) }

pub moved-near : (prices : Prices) (tree : Tree) → IsTree prices tree → IsWithin most_moved tree.moved
moved-near prices tree grown = record { above = omega (arith, ints, grown.moved_low); below = omega (arith, ints, grown.room_high, grown.room_low) }

-- A position is seen -----------------------------------------------------------------------------

module _ (prices : Prices) (tree : Tree) (number position : ℕ) (gap : ℤ) (grown : IsTree prices tree) (known : number < length prices.candidates.items)
    (known_place : position < length prices.influences.items) (near : IsWithin gap_span gap) (nearer : gap ≤ℤ gap_at tree.gaps position) where
  pub tree-ahead : (ahead : PositionSet) → ((q : ℕ) → has ahead q ≡ (has tree.ahead q || (q == position)))
      → IsTree prices (record tree { gaps = set tree.gaps position gap; from = set tree.from position number; ahead = ahead })
  tree-ahead ahead with_it = record {
    gaps = All-set (IsWithin gap_span) tree.gaps position gap near grown.gaps;
    from = All-set (λ n. n < length prices.candidates.items) tree.from position number known grown.from;
    members = grown.members;
    ahead = below-with tree.ahead ahead position with_it (length prices.influences.items) grown.ahead known_place;
    reached = grown.reached;
    goal = grown.goal;
    limit = grown.limit;
    unseen = λ q within not_ahead not_reached.
        let other = not-there tree.ahead ahead position with_it q not_ahead in
        rw (get_or-set_other tree.gaps position q gap (pos 0) other.0) (grown.unseen q within other.1 not_reached);
    measured = λ n q member fresh may least below_gap below_limit.
        let gap_falls = falls tree.gaps position gap nearer q in
        grown.measured n q member fresh may least (omega (arith, ints, below_gap, gap_falls)) below_limit;
    moved_low = grown.moved_low;
    room_low = grown.room_low;
    room_high = grown.room_high;
    item_room = grown.item_room;
    place_room = grown.place_room;
  }

  pub tree-goal : position < length tree.gaps → gap ≤ℤ tree.limit
      → IsTree prices (record tree { gaps = set tree.gaps position gap; from = set tree.from position number; goal = Some position; limit = gap })
  tree-goal within_gaps below = record {
    gaps = All-set (IsWithin gap_span) tree.gaps position gap near grown.gaps;
    from = All-set (λ n. n < length prices.candidates.items) tree.from position number known grown.from;
    members = grown.members;
    ahead = grown.ahead;
    reached = grown.reached;
    goal = known_place;
    limit = near;
    unseen = λ q within not_ahead not_reached. ⊎_elim
        (λ (same : q ≡ position). rw (same, get_or-set_same tree.gaps position gap (pos 0) within_gaps) (omega (arith, ints)))
        (λ (other : q ≡ position → ⊥). let before = grown.unseen q within not_ahead not_reached in rw (get_or-set_other tree.gaps position q gap (pos 0) other) (omega (arith, ints, before, below)))
        (cases_eq q position);
    measured = λ n q member fresh may least below_gap below_limit.
        let gap_falls = falls tree.gaps position gap nearer q in
        grown.measured n q member fresh may least (omega (arith, ints, below_gap, gap_falls)) (omega (arith, ints, below_limit, below));
    moved_low = grown.moved_low;
    room_low = grown.room_low;
    room_high = grown.room_high;
    item_room = grown.item_room;
    place_room = grown.place_room;
  }

-- A member joins ---------------------------------------------------------------------------------

pub tree-joined : (prices : Prices) (tree : Tree) (number : ℕ) (members : PositionSet) (room : ℤ) → IsTree prices tree → number < length prices.candidates.items
    → ((q : ℕ) → has members q ≡ (has tree.members q || (q == number)))
    → ((q : ℕ) → has tree.reached q ≡ false → IsOpen prices number q → IsMeasured prices tree number q)
    → pos 0 ≤ℤ room → room ≤ℤ tree.room → (price_at prices.items.items number +ℤ room) ≤ℤ pos item_span
    → IsTree prices (record tree { members = members; room = room })
tree-joined prices tree number members room grown known with_it measured low less item_room = record {
  gaps = grown.gaps;
  from = grown.from;
  members = below-with tree.members members number with_it (length prices.candidates.items) grown.members known;
  ahead = grown.ahead;
  reached = grown.reached;
  goal = grown.goal;
  limit = grown.limit;
  unseen = grown.unseen;
  measured = λ n q member fresh may least. ⊎_elim
      (λ (same : n ≡ number). rw same (measured q fresh (rw same at may) least))
      (λ (old : has tree.members n ≡ true). grown.measured n q old fresh may least)
      (new-or-old tree.members members number with_it n member);
  moved_low = grown.moved_low;
  room_low = low;
  room_high = omega (arith, ints, less, grown.room_high);
  item_room = λ n member. ⊎_elim
      (λ (same : n ≡ number). rw same item_room)
      (λ (old : has tree.members n ≡ true). let before = grown.item_room n old in omega (arith, ints, before, less))
      (new-or-old tree.members members number with_it n member);
  place_room = λ q reached. let before = grown.place_room q reached in omega (arith, ints, before, less);
}

-- A position is reached --------------------------------------------------------------------------

pub tree-reached : (prices : Prices) (tree : Tree) (position : ℕ) (ahead reached : PositionSet) (room : ℤ) → IsTree prices tree → position < length prices.influences.items
    → ((q : ℕ) → has ahead q ≡ (has tree.ahead q && not (q == position))) → ((q : ℕ) → has reached q ≡ (has tree.reached q || (q == position)))
    → pos 0 ≤ℤ room → room ≤ℤ tree.room → room ≤ℤ (price_at prices.places.items position +ℤ pos place_span)
    → IsTree prices (record tree { ahead = ahead; reached = reached; room = room })
tree-reached prices tree position ahead reached room grown known without with_it low less place_room = record {
  gaps = grown.gaps;
  from = grown.from;
  members = grown.members;
  ahead = λ q left. grown.ahead q (was-there tree.ahead ahead position without q left);
  reached = below-with tree.reached reached position with_it (length prices.influences.items) grown.reached known;
  goal = grown.goal;
  limit = grown.limit;
  unseen = λ q within not_ahead not_reached.
      let other = not-there tree.reached reached position with_it q not_reached in ⊎_elim
      (λ (same : q ≡ position). absurd (other.0 same))
      (λ (before : has tree.ahead q ≡ false). grown.unseen q within before other.1)
      (is-gone tree.ahead ahead position without q not_ahead);
  measured = λ n q member fresh. grown.measured n q member (not-there tree.reached reached position with_it q fresh).1;
  moved_low = grown.moved_low;
  room_low = low;
  room_high = omega (arith, ints, less, grown.room_high);
  item_room = λ n member. let before = grown.item_room n member in omega (arith, ints, before, less);
  place_room = λ q there. ⊎_elim
      (λ (same : q ≡ position). rw same place_room)
      (λ (old : has tree.reached q ≡ true). let before = grown.place_room q old in omega (arith, ints, before, less))
      (new-or-old tree.reached reached position with_it q there);
}

-- Prices move ------------------------------------------------------------------------------------

-- prices that move no farther than what members do not reach
module _ (prices : Prices) (tree : Tree) (gap by : ℤ) (sound : AreSound prices) (grown : IsTree prices tree) (below : gap ≤ℤ tree.limit)
    (least : (q : ℕ) → has tree.ahead q ≡ true → gap ≤ℤ gap_at tree.gaps q)
    (much : (bound : ℤ) → pos 0 ≤ℤ bound → (gap -ℤ tree.moved) ≤ℤ bound → by ≤ℤ bound) where
  pub within-gap : (number position : ℕ) → has tree.members number ≡ true → has tree.reached position ≡ false → IsOpen prices number position → by ≤ℤ gap_of prices number position
  within-gap number position member fresh may =
      let known = (may-known (table prices.candidates.items prices.influences.items) sound.ordinary number position may).1 in
      let kept : gap ≤ℤ gap_at tree.gaps position = ⊎_elim
      (λ (ahead : has tree.ahead position ≡ true). least position ahead)
      (λ (other : has tree.ahead position ≡ false). let far = grown.unseen position (omega (arith, known, sound.ordinary.few_positions)) other fresh in omega (arith, ints, far, below))
      (cases_Bool (has tree.ahead position)) in
      let measured = grown.measured number position member fresh may gap kept below in
      let allowed = sound.lower.lower number position may in
      much (gap_of prices number position) (omega (arith, ints, allowed)) (omega (arith, ints, measured))

  module _ (lowered : Prices) (falls_by : AreLowered by tree.reached prices lowered) where
    -- the prices of members can rise once those of the positions fell that were reached
    pub can-lift : (number position : ℕ) → has tree.members number ≡ true → IsOpen lowered number position
        → ((price_at lowered.items.items number +ℤ by) +ℤ price_at lowered.places.items position) ≤ℤ cost_at (table lowered.candidates.items lowered.influences.items) number position
    can-lift number position member may =
        let may_before : IsOpen prices number position = rw (falls_by.moved.candidates, falls_by.moved.influences) at may in
        let allowed = sound.lower.lower number position may_before in
        rw (falls_by.moved.candidates, falls_by.moved.influences, falls_by.items)
        (⊎_elim
        (λ (there : has tree.reached position ≡ true). let fell = falls_by.fallen position there in omega (arith, ints, fell, allowed))
        (λ (fresh : has tree.reached position ≡ false).
        let same = falls_by.others position fresh in
        let small = within-gap number position member fresh may_before in
        omega (arith, ints, same, small))
        (cases_Bool (has tree.reached position)))

pub tree-moved : (prices lowered lifted : Prices) (tree : Tree) (by : ℤ) → IsTree prices tree → pos 0 ≤ℤ by → by ≤ℤ tree.room
    → AreLowered by tree.reached prices lowered → AreLifted by tree.members lowered lifted
    → IsTree lifted (record tree { moved = tree.moved +ℤ by; room = tree.room -ℤ by })
tree-moved prices lowered lifted tree by grown low small falls_by rises_by = record {
  gaps = grown.gaps;
  from = rw same_candidates grown.from;
  members = rw same_candidates grown.members;
  ahead = rw same_influences grown.ahead;
  reached = rw same_influences grown.reached;
  goal = rw same_influences grown.goal;
  limit = grown.limit;
  unseen = grown.unseen;
  measured = λ n q member fresh may least below_gap below_limit.
      let before = grown.measured n q member fresh (rw (same_candidates, same_influences) at may) least below_gap below_limit in
      let item = item_risen n member in
      let place = place_same q fresh in
      rw (same_candidates, same_influences) (omega (arith, ints, before, item, place));
  moved_low = omega (arith, ints, grown.moved_low, low);
  room_low = omega (arith, ints, small);
  room_high = omega (arith, ints, grown.room_high);
  item_room = λ n member. let before = grown.item_room n member in let item = item_risen n member in omega (arith, ints, before, item);
  place_room = λ q there. let before = grown.place_room q there in let place = place_fallen q there in omega (arith, ints, before, place);
}
  where
    same_candidates : lifted.candidates.items ≡ prices.candidates.items
    same_candidates = rises_by.moved.candidates ∙ falls_by.moved.candidates

    same_influences : lifted.influences.items ≡ prices.influences.items
    same_influences = rises_by.moved.influences ∙ falls_by.moved.influences

    item_risen : (n : ℕ) → has tree.members n ≡ true → price_at lifted.items.items n ≡ price_at prices.items.items n +ℤ by
    item_risen n member = rises_by.risen n member ∙ rw falls_by.items (λ i. price_at prices.items.items n +ℤ by)

    place_same : (q : ℕ) → has tree.reached q ≡ false → price_at lifted.places.items q ≡ price_at prices.places.items q
    place_same q fresh = rw rises_by.places (falls_by.others q fresh)

    place_fallen : (q : ℕ) → has tree.reached q ≡ true → price_at lifted.places.items q ≡ price_at prices.places.items q -ℤ by
    place_fallen q there = rw rises_by.places (falls_by.fallen q there)
