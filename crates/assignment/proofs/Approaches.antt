-- prices that move until the nearest position is tight keep a tree
use Rattle.std.proofs.Common.{◌≡◌, ⊎_elim, ◌⊎◌, inl, inr, ℕ, zero, suc, ◌<◌, true, false, List, [], ◌∷◌, length, Option, Some, None, refl, ap, sym, ◌∙◌, arith}
use Rattle.std.specs.Prelude.{ℤ, pos, ◌+ℤ◌, ◌-ℤ◌, ◌≤ℤ◌, IfSome}
use Rattle.std.proofs.lemmas.Int.{ints}
use Rattle.std.proofs.lemmas.Bool.{cases_Bool, cases_eq, false≢true}
use Rattle.position_set.specs.Sets.{has}
use Rattle.assignment.specs.declared.costs.CostTable.{CostTable}
use Rattle.assignment.specs.declared.standing.Standing.{Standing}
use Rattle.assignment.specs.declared.tree.Gap.{Gap}
use Rattle.assignment.specs.declared.tree.Nearest.{Nearest}
use Rattle.assignment.specs.declared.tree.Tree.{Tree}
use Rattle.assignment.specs.Prices.{price_at}
use Rattle.assignment.specs.Tables.{number_at, MayTake}
use Rattle.assignment.specs.Standings.{IsTight, AreLower, IsStanding, AreMoved, lowest_place}
use Rattle.assignment.specs.Trees.{AreBranches, AreNear, IsTree, IsGap, IsAsked, AreGaps, IsNearest, gap_at, gap_of}
use Rattle.assignment.proofs.Bounds.{cost-near, may-known, root-bound, items-low}

-- a number stands in the list, or it does not
pub stands-or-not : (numbers : List ℕ) (number : ℕ) → ((j : ℕ) × (j < length numbers) × (number_at numbers j ≡ number)) ⊎ ((j : ℕ) → j < length numbers → number_at numbers j ≡ number → ⊥)
stands-or-not [] number = inr (λ j below same. absurd (omega (arith, below)))
stands-or-not (first ∷ numbers) number = ⊎_elim
    (λ (same : first ≡ number). inl (zero, omega arith, same))
    (λ (other : first ≡ number → ⊥). ⊎_elim
    (λ found. inl (suc found.0, (let below = found.1 in omega (arith, below)), found.2))
    (λ (lacks : (j : ℕ) → j < length numbers → number_at numbers j ≡ number → ⊥). inr (λ j. later other lacks j))
    (stands-or-not numbers number))
    (cases_eq first number)
  where
    later : (first ≡ number → ⊥) → ((j : ℕ) → j < length numbers → number_at numbers j ≡ number → ⊥)
        → (j : ℕ) → j < length (first ∷ numbers) → number_at (first ∷ numbers) j ≡ number → ⊥
    later other lacks zero below same = other same
    later other lacks (suc j) below same = lacks j (omega (arith, below)) same

-- no member has a gap below that of its position
least-of : (costs : CostTable) (items places : List ℤ) (members : List ℕ) (count : ℕ) (moved : ℤ) (position : ℕ) (low : ℤ) (gap : Option Gap)
    → IsAsked costs items places members count moved position gap → IfSome gap (λ g. low ≤ℤ g.key)
    → (j : ℕ) → j < count → MayTake costs (number_at members j) position → low ≤ℤ (moved +ℤ gap_of costs items places (number_at members j) position)
least-of costs items places members count moved position low None asked less j below may = absurd (asked j below may)
least-of costs items places members count moved position low (Some gap) asked less j below may =
    let least = asked.least j below may in omega (arith, ints, least, less)

-- prices that moved by as much as no member's position that was not reached refuses
module _ (standing : Standing) (tree : Tree) (grown : IsTree standing tree) (by : ℤ) (items places : List ℤ)
    (moved : AreMoved by standing.stands.items tree.members.items (length tree.members.items) standing.items.items standing.places.items items places)
    (up : pos 0 ≤ℤ by)
    (allowed : (j position : ℕ) → j < length tree.members.items → has tree.reached position ≡ false → MayTake standing.costs (number_at tree.members.items j) position
    → by ≤ℤ gap_of standing.costs standing.items.items standing.places.items (number_at tree.members.items j) position) where
  pub place-fresh : (position : ℕ) → has tree.reached position ≡ false → price_at places position ≡ price_at standing.places.items position
  place-fresh position fresh = moved.rest position (λ j above below same. false≢true (sym fresh ∙ ap (has tree.reached) (sym same) ∙ grown.reached.each j above below))

  pub place-reached : (position : ℕ) → has tree.reached position ≡ true → price_at places position ≡ price_at standing.places.items position -ℤ by
  place-reached position reached =
      let j = grown.reached.only position reached in
      rw (← j.3) (moved.lowered j.0 j.1 j.2)

  -- a pair of a member and a position that was reached has the same prices together
  pub pair-moved : (number position : ℕ) (j : ℕ) → j < length tree.members.items → number_at tree.members.items j ≡ number → has tree.reached position ≡ true
      → price_at items number +ℤ price_at places position ≡ price_at standing.items.items number +ℤ price_at standing.places.items position
  pair-moved number position j below is reached =
      let item = rw is at (moved.raised j below) in
      let place = place-reached position reached in
      omega (arith, ints, item, place)

  pub moved-lower : AreLower standing.costs items places
  moved-lower = record {
    item_count = moved.item_count ∙ grown.stands.prices.item_count;
    place_count = moved.place_count ∙ grown.stands.prices.place_count;
    signs = λ position. ⊎_elim
        (λ (reached : has tree.reached position ≡ true). let place = place-reached position reached in let sign = grown.stands.prices.signs position in omega (arith, ints, place, sign, up))
        (λ (fresh : has tree.reached position ≡ false). rw (place-fresh position fresh) (grown.stands.prices.signs position))
        (cases_Bool (has tree.reached position));
    lower = λ number position may.
        let before = grown.stands.prices.lower number position may in ⊎_elim
        (λ (reached : has tree.reached position ≡ true). ⊎_elim
        (λ member. let same = pair-moved number position member.0 member.1 member.2 reached in omega (arith, ints, same, before))
        (λ (lacks : (j : ℕ) → j < length tree.members.items → number_at tree.members.items j ≡ number → ⊥).
        let item = moved.others number lacks in let place = place-reached position reached in omega (arith, ints, item, place, before, up))
        (stands-or-not tree.members.items number))
        (λ (fresh : has tree.reached position ≡ false). ⊎_elim
        (λ member.
        let item = rw member.2 at (moved.raised member.0 member.1) in
        let least = rw member.2 at (allowed member.0 position member.1 fresh (rw member.2 may)) in
        let place = place-fresh position fresh in
        omega (arith, ints, item, place, least))
        (λ (lacks : (j : ℕ) → j < length tree.members.items → number_at tree.members.items j ≡ number → ⊥).
        let item = moved.others number lacks in let place = place-fresh position fresh in omega (arith, ints, item, place, before))
        (stands-or-not tree.members.items number))
        (cases_Bool (has tree.reached position));
  }

  -- who stands on a position is a member just if the position was reached
  held-tight : (number : ℕ) → number < length standing.stands.items → IsTight standing.costs items places number (number_at standing.stands.items number)
  held-tight number held =
      let before = grown.stands.tight number held in
      record {
        may = before.may;
        same = ⊎_elim
            (λ (reached : has tree.reached (number_at standing.stands.items number) ≡ true).
            let j = grown.reached.only (number_at standing.stands.items number) reached in
            let entered = grown.branches.entered j.0 j.1 j.2 in
            pair-moved number (number_at standing.stands.items number) j.0 j.2 (grown.stands.apart (number_at tree.members.items j.0) number entered held j.3) reached ∙ before.same)
            (λ (fresh : has tree.reached (number_at standing.stands.items number) ≡ false).
            let item = moved.others number (λ j below same. not_first number held fresh j below same) in
            let place = place-fresh (number_at standing.stands.items number) fresh in
            omega (arith, ints, item, place, before.same))
            (cases_Bool (has tree.reached (number_at standing.stands.items number)));
      }
    where
      not_first : (number : ℕ) → number < length standing.stands.items → has tree.reached (number_at standing.stands.items number) ≡ false
          → (j : ℕ) → j < length tree.members.items → number_at tree.members.items j ≡ number → ⊥
      not_first number held fresh zero below same = omega (arith, held, same, grown.branches.root)
      not_first number held fresh (suc j) below same = false≢true (sym fresh ∙ ap (λ n. has tree.reached (number_at standing.stands.items n)) (sym same) ∙ grown.reached.each (suc j) (omega arith) below)

  pub moved-standing : IsStanding standing.costs items places standing.stands.items
  moved-standing = record {
    prices = moved-lower;
    few = grown.stands.few;
    tight = held-tight;
    free = λ position lacks. ⊎_elim
        (λ (reached : has tree.reached position ≡ true).
        let j = grown.reached.only position reached in absurd (lacks (number_at tree.members.items j.0) (grown.branches.entered j.0 j.1 j.2) j.3))
        (λ (fresh : has tree.reached position ≡ false). place-fresh position fresh ∙ grown.stands.free position lacks)
        (cases_Bool (has tree.reached position));
    apart = grown.stands.apart;
  }

  pub moved-branches : AreBranches standing.costs items places standing.stands.items tree.members.items tree.from.items
  moved-branches = record {
    some = grown.branches.some;
    few = grown.branches.few;
    paired = grown.branches.paired;
    root = grown.branches.root;
    entered = grown.branches.entered;
    apart = grown.branches.apart;
    earlier = grown.branches.earlier;
    tight = λ j above below.
        let before = grown.branches.tight j above below in
        let earlier = grown.branches.earlier j above below in
        record {
          may = before.may;
          same = pair-moved (number_at tree.members.items (number_at tree.from.items j)) (number_at standing.stands.items (number_at tree.members.items j)) (number_at tree.from.items j)
              (omega (arith, earlier, below)) refl (grown.reached.each j above below) ∙ before.same;
        };
  }

  -- candidates that wait behind the first member are no members
  pub waits-still : (number : ℕ) → length standing.stands.items < number → price_at items number ≡ price_at standing.items.items number
  waits-still number later = moved.others number member
    where
      member : (j : ℕ) → j < length tree.members.items → number_at tree.members.items j ≡ number → ⊥
      member zero below same = omega (arith, later, same, grown.branches.root)
      member (suc j) below same = let entered = grown.branches.entered (suc j) (omega arith) below in omega (arith, later, same, entered)

  pub root-moved : price_at items (length standing.stands.items) ≡ price_at standing.items.items (length standing.stands.items) +ℤ by
  root-moved = rw grown.branches.root at (moved.raised 0 grown.branches.some)

-- the nearest position is brought to cost a member just what the prices are
module _ (standing : Standing) (tree : Tree) (nearest : Nearest) (grown : IsTree standing tree) (gaps : AreGaps standing tree (length tree.members.items))
    (is_nearest : IsNearest tree.gaps tree.reached (length standing.costs.influences.now) nearest) where
  -- the gap of the nearest position
  pub its-gap : IsGap standing.costs standing.items.items standing.places.items tree.members.items (length tree.members.items) tree.moved nearest.position nearest.gap
  its-gap = let asked = gaps.each nearest.position is_nearest.within is_nearest.fresh in rw is_nearest.gap at asked

  -- by how much prices move
  abbrev pub step : ℤ
  step = nearest.gap.key -ℤ tree.moved

  pub step-gap : step ≡ gap_of standing.costs standing.items.items standing.places.items (number_at tree.members.items nearest.gap.member) nearest.position
  step-gap = omega (arith, ints, its-gap.key)

  pub step-up : pos 0 ≤ℤ step
  step-up =
      let lower = grown.stands.prices.lower (number_at tree.members.items nearest.gap.member) nearest.position its-gap.may in
      rw step-gap (omega (arith, ints, lower))

  pub step-small : step ≤ℤ pos 504000000000
  step-small =
      let item = items-low standing tree grown (number_at tree.members.items nearest.gap.member) in
      let place = grown.near.low nearest.position is_nearest.fresh in
      let cost = cost-near standing.costs grown.ordinary (number_at tree.members.items nearest.gap.member) nearest.position in
      rw step-gap (omega (arith, ints, item, place, cost.below))

  pub step-allowed : (j position : ℕ) → j < length tree.members.items → has tree.reached position ≡ false → MayTake standing.costs (number_at tree.members.items j) position
      → step ≤ℤ gap_of standing.costs standing.items.items standing.places.items (number_at tree.members.items j) position
  step-allowed j position below fresh may =
      let known = may-known standing.costs grown.ordinary (number_at tree.members.items j) position may in
      let least = least-of standing.costs standing.items.items standing.places.items tree.members.items (length tree.members.items) tree.moved position nearest.gap.key
      (gap_at tree.gaps position) (gaps.each position known.1 fresh) (is_nearest.least position known.1 fresh) j below may in
      omega (arith, ints, least)

  module _ (items places : List ℤ)
      (moved : AreMoved step standing.stands.items tree.members.items (length tree.members.items) standing.items.items standing.places.items items places) where
    pub step-tight : IsTight standing.costs items places (number_at tree.members.items nearest.gap.member) nearest.position
    step-tight =
        let item = moved.raised nearest.gap.member its-gap.known in
        let place = place-fresh standing tree grown step items places moved step-up step-allowed nearest.position is_nearest.fresh in
        record {
          may = its-gap.may;
          same = omega (arith, ints, item, place, step-gap);
        }

    step-root : price_at items (length standing.stands.items) ≤ℤ pos 742000000000
    step-root =
        root-bound standing.costs items places standing.stands.items tree.members.items tree.from.items grown.ordinary
        (moved-standing standing tree grown step items places moved step-up step-allowed) (moved-branches standing tree grown step items places moved step-up step-allowed)
        nearest.gap.member nearest.position lowest_place its-gap.known step-tight
        (rw (place-fresh standing tree grown step items places moved step-up step-allowed nearest.position is_nearest.fresh) (grown.near.low nearest.position is_nearest.fresh))

    pub step-near : AreNear items places (length standing.stands.items) tree.reached nearest.gap.key
    step-near =
        let root = root-moved standing tree grown step items places moved step-up step-allowed in
        record {
          low = λ position fresh. rw (place-fresh standing tree grown step items places moved step-up step-allowed position fresh) (grown.near.low position fresh);
          waiting = λ number later. rw (waits-still standing tree grown step items places moved step-up step-allowed number later) (grown.near.waiting number later);
          root_low = omega (arith, ints, root, step-up, grown.near.root_low);
          root_high = omega (arith, ints, step-root);
          moved_low = omega (arith, ints, step-up, grown.near.moved_low);
          moved_high = omega (arith, ints, root, grown.near.moved_high);
        }

    key-moved : (j position : ℕ) → j < length tree.members.items → has tree.reached position ≡ false
        → tree.moved +ℤ gap_of standing.costs standing.items.items standing.places.items (number_at tree.members.items j) position
        ≡ nearest.gap.key +ℤ gap_of standing.costs items places (number_at tree.members.items j) position
    key-moved j position below fresh =
        let item = moved.raised j below in
        let place = place-fresh standing tree grown step items places moved step-up step-allowed position fresh in
        omega (arith, ints, item, place)

    -- the gaps fall by as much as prices moved
    pub step-asked : (position : ℕ) → has tree.reached position ≡ false → (gap : Option Gap)
        → IsAsked standing.costs standing.items.items standing.places.items tree.members.items (length tree.members.items) tree.moved position gap
        → IsAsked standing.costs items places tree.members.items (length tree.members.items) nearest.gap.key position gap
    step-asked position fresh None asked = asked
    step-asked position fresh (Some gap) asked = record {
      known = asked.known;
      may = asked.may;
      key = rw (← key-moved gap.member position asked.known fresh) asked.key;
      least = λ j below may. rw (← key-moved j position below fresh) (asked.least j below may);
    }

-- the tree stands with the prices that moved
module _ (standing now : Standing) (tree after : Tree) (nearest : Nearest) (grown : IsTree standing tree) (gaps : AreGaps standing tree (length tree.members.items))
    (is_nearest : IsNearest tree.gaps tree.reached (length standing.costs.influences.now) nearest)
    (moved : AreMoved (nearest.gap.key -ℤ tree.moved) standing.stands.items tree.members.items (length tree.members.items)
    standing.items.items standing.places.items now.items.items now.places.items)
    (same_costs : now.costs ≡ standing.costs) (same_stands : now.stands.items ≡ standing.stands.items)
    (same_members : after.members ≡ tree.members) (same_from : after.from ≡ tree.from) (same_reached : after.reached ≡ tree.reached) (same_gaps : after.gaps ≡ tree.gaps)
    (moved_to : after.moved ≡ nearest.gap.key) where
  moved-by : AreMoved (step standing tree nearest grown gaps is_nearest) standing.stands.items tree.members.items (length tree.members.items)
      standing.items.items standing.places.items now.items.items now.places.items
  moved-by = moved

  pub approached-tree : IsTree now after
  approached-tree = record {
    ordinary = rw same_costs grown.ordinary;
    stands = rw (same_costs, same_stands) (moved-standing standing tree grown (step standing tree nearest grown gaps is_nearest) now.items.items now.places.items moved-by
        (step-up standing tree nearest grown gaps is_nearest) (step-allowed standing tree nearest grown gaps is_nearest));
    room = rw (same_costs, same_stands) grown.room;
    branches = rw (same_costs, same_stands, same_members, same_from) (moved-branches standing tree grown (step standing tree nearest grown gaps is_nearest) now.items.items now.places.items moved-by
        (step-up standing tree nearest grown gaps is_nearest) (step-allowed standing tree nearest grown gaps is_nearest));
    reached = rw (same_stands, same_members, same_reached) grown.reached;
    near = rw (same_stands, same_reached, moved_to) (step-near standing tree nearest grown gaps is_nearest now.items.items now.places.items moved-by);
  }

  pub approached-gaps : AreGaps now after (length tree.members.items)
  approached-gaps = record {
    each = λ position within fresh.
        let same : has tree.reached position ≡ false = rw (← same_reached) fresh in
        rw (same_costs, same_members, moved_to, same_gaps)
        (step-asked standing tree nearest grown gaps is_nearest now.items.items now.places.items moved-by position same (gap_at tree.gaps position)
        (gaps.each position (rw (← same_costs) within) same));
  }

  pub approached-tight : IsTight now.costs now.items.items now.places.items (number_at after.members.items nearest.gap.member) nearest.position
  approached-tight = rw (same_costs, same_members) (step-tight standing tree nearest grown gaps is_nearest now.items.items now.places.items moved-by)
