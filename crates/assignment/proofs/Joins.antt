-- who stands on the nearest position joins the tree
use Rattle.std.proofs.Common.{◌≡◌, ⊎_elim, ℕ, ◌+◌, ◌<◌, Bool, true, false, ◌||◌, ◌==◌, [], ◌∷◌, ◌++◌, length, Option, Some, None, refl, ap, sym, ◌∙◌, arith, below_more}
use Rattle.std.proofs.lemmas.Bool.{cases_Bool, false≢true}
use Rattle.std.proofs.lemmas.Bool.Decides.{eqb_tells}
use Rattle.std.proofs.lemmas.List.{length_push}
use Rattle.position_set.specs.Sets.{has}
use Rattle.assignment.specs.declared.standing.Standing.{Standing}
use Rattle.assignment.specs.declared.tree.Gap.{Gap}
use Rattle.assignment.specs.declared.tree.Nearest.{Nearest}
use Rattle.assignment.specs.declared.tree.Tree.{Tree}
use Rattle.assignment.specs.Tables.{number_at}
use Rattle.assignment.specs.Standings.{IsTight}
use Rattle.assignment.specs.Trees.{AreBranches, AreReached, IsTree, IsAsked, AreGaps, JoinsAt, gap_at}
use Rattle.assignment.proofs.Bounds.{holder-new}
use Rattle.assignment.proofs.Pushes.{number-before, number-last, apart-push}

was-fresh : (before also : Bool) → (before || also) ≡ false → before ≡ false
was-fresh true also fresh = fresh
was-fresh false also fresh = refl

module _ (standing : Standing) (tree after : Tree) (nearest : Nearest) (holder : ℕ)
    (members_is : after.members.items ≡ tree.members.items ++ holder ∷ []) (from_is : after.from.items ≡ tree.from.items ++ nearest.gap.member ∷ [])
    (reached_is : (q : ℕ) → has after.reached q ≡ (has tree.reached q || (q == nearest.position)))
    (same_gaps : after.gaps ≡ tree.gaps) (same_moved : after.moved ≡ tree.moved) where
  pub fresh-before : (q : ℕ) → has after.reached q ≡ false → has tree.reached q ≡ false
  fresh-before q fresh = was-fresh (has tree.reached q) (q == nearest.position) (sym (reached_is q) ∙ fresh)

  pub reached-still : (q : ℕ) → has tree.reached q ≡ true → has after.reached q ≡ true
  reached-still q reached = rw (reached_is q, reached) refl

  pub reached-now : has after.reached nearest.position ≡ true
  reached-now = ⊎_elim
      (λ (before : has tree.reached nearest.position ≡ true). reached-still nearest.position before)
      (λ (fresh : has tree.reached nearest.position ≡ false). rw (reached_is nearest.position, fresh)
      (⊎_elim (λ same. same.0) (λ apart. absurd (apart.1 refl)) (eqb_tells nearest.position nearest.position)))
      (cases_Bool (has tree.reached nearest.position))

  module _ (grown : IsTree standing tree) (joins : JoinsAt standing tree nearest holder) (room : length tree.members.items < 60) where
    longer : length (tree.members.items ++ holder ∷ []) ≡ length tree.members.items + 1
    longer = length_push tree.members.items holder

    longer_from : length (tree.from.items ++ nearest.gap.member ∷ []) ≡ length tree.from.items + 1
    longer_from = length_push tree.from.items nearest.gap.member

    member-before : (j : ℕ) → j < length tree.members.items → number_at (tree.members.items ++ holder ∷ []) j ≡ number_at tree.members.items j
    member-before j below = number-before tree.members.items holder j below

    from-before : (j : ℕ) → j < length tree.members.items → number_at (tree.from.items ++ nearest.gap.member ∷ []) j ≡ number_at tree.from.items j
    from-before j below = number-before tree.from.items nearest.gap.member j (omega (arith, below, grown.branches.paired))

    from-last : number_at (tree.from.items ++ nearest.gap.member ∷ []) (length tree.members.items) ≡ nearest.gap.member
    from-last = rw (← grown.branches.paired) (number-last tree.from.items nearest.gap.member)

    joined-branches : AreBranches standing.costs standing.items.items standing.places.items standing.stands.items
        (tree.members.items ++ holder ∷ []) (tree.from.items ++ nearest.gap.member ∷ [])
    joined-branches = record {
      some = omega (arith, longer);
      few = omega (arith, longer, room);
      paired = omega (arith, longer, longer_from, grown.branches.paired);
      root = member-before 0 grown.branches.some ∙ grown.branches.root;
      entered = λ j above below. below_more (λ (i : ℕ). 0 < i → number_at (tree.members.items ++ holder ∷ []) i < length standing.stands.items) (length tree.members.items)
          (λ i under over. rw (member-before i under) (grown.branches.entered i over under))
          (λ over. rw (number-last tree.members.items holder) joins.holds.0)
          j (omega (arith, below, longer)) above;
      apart = apart-push tree.members.items holder grown.branches.apart (holder-new standing tree grown nearest holder joins);
      earlier = λ j above below. below_more (λ (i : ℕ). 0 < i → number_at (tree.from.items ++ nearest.gap.member ∷ []) i < i) (length tree.members.items)
          (λ i under over. rw (from-before i under) (grown.branches.earlier i over under))
          (λ over. rw from-last joins.from)
          j (omega (arith, below, longer)) above;
      tight = λ j above below. below_more (λ (i : ℕ). 0 < i → IsTight standing.costs standing.items.items standing.places.items
          (number_at (tree.members.items ++ holder ∷ []) (number_at (tree.from.items ++ nearest.gap.member ∷ []) i))
          (number_at standing.stands.items (number_at (tree.members.items ++ holder ∷ []) i))) (length tree.members.items)
          (λ i under over. let earlier = grown.branches.earlier i over under in
          rw (from-before i under, member-before (number_at tree.from.items i) (omega (arith, earlier, under)), member-before i under) (grown.branches.tight i over under))
          (λ over. rw (from-last, member-before nearest.gap.member joins.from, number-last tree.members.items holder, joins.holds.1) joins.tight)
          j (omega (arith, below, longer)) above;
    }

    joined-reached : AreReached standing.stands.items (tree.members.items ++ holder ∷ []) after.reached
    joined-reached = record {
      each = λ j above below. below_more (λ (i : ℕ). 0 < i → has after.reached (number_at standing.stands.items (number_at (tree.members.items ++ holder ∷ []) i)) ≡ true) (length tree.members.items)
          (λ i under over. rw (member-before i under) (reached-still _ (grown.reached.each i over under)))
          (λ over. rw (number-last tree.members.items holder, joins.holds.1) reached-now)
          j (omega (arith, below, longer)) above;
      only = λ q reached. ⊎_elim
          (λ (before : has tree.reached q ≡ true).
          let j = grown.reached.only q before in
          (j.0, j.1, (let below = j.2 in omega (arith, below, longer)), ap (number_at standing.stands.items) (member-before j.0 j.2) ∙ j.3))
          (λ (fresh : has tree.reached q ≡ false).
          let here : (q == nearest.position) ≡ true = rw fresh at (sym (reached_is q) ∙ reached) in
          let is : q ≡ nearest.position = ⊎_elim (λ same. same.1) (λ apart. absurd (false≢true (sym apart.0 ∙ here))) (eqb_tells q nearest.position) in (
            length tree.members.items,
            grown.branches.some,
            omega (arith, longer),
            ap (number_at standing.stands.items) (number-last tree.members.items holder) ∙ joins.holds.1 ∙ sym is,
          ))
          (cases_Bool (has tree.reached q));
    }

    pub joined-tree : IsTree standing after
    joined-tree = record {
      ordinary = grown.ordinary;
      stands = grown.stands;
      room = grown.room;
      branches = rw (members_is, from_is) joined-branches;
      reached = rw members_is joined-reached;
      near = record {
        low = λ q fresh. grown.near.low q (fresh-before q fresh);
        waiting = grown.near.waiting;
        root_low = grown.near.root_low;
        root_high = grown.near.root_high;
        moved_low = rw same_moved grown.near.moved_low;
        moved_high = rw same_moved grown.near.moved_high;
      };
    }

  -- the gaps to the members before are as they were
  asked-longer : (q : ℕ) (gap : Option Gap) → IsAsked standing.costs standing.items.items standing.places.items tree.members.items (length tree.members.items) tree.moved q gap
      → IsAsked standing.costs standing.items.items standing.places.items (tree.members.items ++ holder ∷ []) (length tree.members.items) tree.moved q gap
  asked-longer q None asked = λ j below may. asked j below (rw (number-before tree.members.items holder j below) at may)
  asked-longer q (Some gap) asked = record {
    known = asked.known;
    may = rw (number-before tree.members.items holder gap.member asked.known) asked.may;
    key = rw (number-before tree.members.items holder gap.member asked.known) asked.key;
    least = λ j below. rw (number-before tree.members.items holder j below) (asked.least j below);
  }

  pub joined-gaps : AreGaps standing tree (length tree.members.items) → AreGaps standing after (length tree.members.items)
  joined-gaps gaps = record {
    each = λ q within fresh. rw (members_is, same_moved, same_gaps) (asked-longer q (gap_at tree.gaps q) (gaps.each q within (fresh-before q fresh)));
  }
