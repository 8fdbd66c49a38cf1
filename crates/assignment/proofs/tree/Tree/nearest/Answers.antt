use Rattle.std.proofs.Common.{rules, ◌≡◌, ℕ, ◌+◌, ◌-◌, ◌<◌, None, true, false, length, set, get_or, FitsSigned, w64, to_z, of_z, ap, sym, ◌∙◌, arith, refl, below_more}
use Rattle.std.specs.Prelude.{pos, ◌*ℤ◌}
use Rattle.std.proofs.Math.ListN.{length-set}
use Rattle.std.proofs.lemmas.Int.{ints, to_z-of_z}
use Rattle.std.proofs.lemmas.List.{get_or-set_same, get_or-set_other}
use Rattle.position_set.specs.Sets.{has}
use Rattle.assignment.specs.Prices.{price_at}
use Rattle.assignment.specs.Tables.{number_at, candidate_at, influence_at, IsWithin, cost_at}
use Rattle.assignment.specs.Standings.{greatest_cost}
use Rattle.assignment.proofs.Bounds.{cost-near, items-near, places-near}
use Rattle.std.proofs.lemmas.Bool.{false≢true}
use Rattle.assignment.specs.Trees.{IsAsked, gap_at}
use Rattle.assignment.proofs.Searches.{asked-seeker, nearest-skip, nearest-more}
use Rattle.assignment.proofs.tree.Tree.nearest.Goals as goal
use Rattle.assignment.proofs.tree.Tree.nearest.Goals.{then-not-contains, else-not-contains}

pub measure-gap-requires-clause-cost : goal.measure-gap-requires-clause-cost
unfolding cost_at
measure-gap-requires-clause-cost c =
    let m = number_at c.args.self.now.members.items (length c.args.self.now.members.items - 1) in
    let costs = c.args.standing.now.costs in
    let influence : FitsSigned w64 c.influence-influence.result = search rules in
    let near : IsWithin greatest_cost (pos (candidate_at costs m).mass *ℤ influence_at costs c.loop-position.position) = cost-near costs c.requires.tree.ordinary m c.loop-position.position in
    rw (to_z-of_z w64 c.influence-influence.result influence, c.newest-newest.ensures.mass, c.influence-influence.ensures) near

pub measure-gap-requires-clause-offset : goal.measure-gap-requires-clause-offset
measure-gap-requires-clause-offset c =
    let m = number_at c.args.self.now.members.items (length c.args.self.now.members.items - 1) in
    let near = items-near c.args.standing.now c.args.self.now c.requires.tree m in
    let kept = c.requires.tree.near in
    record {
      above = omega (arith, ints, near.above, near.below, kept.moved_low, c.newest-newest.ensures.offset);
      below = omega (arith, ints, near.above, near.below, kept.moved_high, kept.root_high, c.newest-newest.ensures.offset);
    }

pub measure-gap-requires-clause-price : goal.measure-gap-requires-clause-price
measure-gap-requires-clause-price c =
    let near = places-near c.args.standing.now c.args.self.now c.requires.tree c.loop-position.position in
    rw c.deref.ensures.0 record {
      above = omega (arith, ints, near.above, near.below);
      below = omega (arith, ints, near.above, near.below);
    }

pub loop-position-init : goal.loop-position-init
loop-position-init c = record {
  size = search rules;
  members = refl;
  from = refl;
  reached = refl;
  moved = refl;
  asked = λ q below. absurd (omega (arith, below));
  later = λ q from within. c.requires.gaps.each q within;
  nearest = λ q below. absurd (omega (arith, below));
}

pub loop-position-preserved : goal.loop-position-preserved
loop-position-preserved c =
    let kept = c.loop-position.invariant in
    let position = c.loop-position.position in
    let start = c.args.self.now in
    let standing = c.args.standing.now in
    let known : position < length c.loop-position.self.gaps = omega (arith, kept.size, c.requires.tree.ordinary.few_positions) in
    elim c.if-not-contains.branch [
      | then-not-contains w ↦
          let fresh : has start.reached position ≡ false = ap (λ set. has set position) (sym kept.reached) ∙ sym c.contains.ensures ∙ w.if-not-contains.true in
          let near = places-near standing start c.requires.tree position in
          let price_fits : FitsSigned w64 (price_at standing.places.items position) = omega (arith, ints, near.above, near.below) in
          let price : to_z w64 (of_z w64 (get_or w.deref.result.now position (pos 0))) ≡ price_at standing.places.items position = rw w.deref.ensures.0 (to_z-of_z w64 (price_at standing.places.items position) price_fits) in
          let influence_fits : FitsSigned w64 w.influence-influence.result = search rules in
          let influence = to_z-of_z w64 w.influence-influence.result influence_fits ∙ w.influence-influence.ensures in
          rw (w.self-is, w.nearest-is) record {
            size = length-set c.loop-position.self.gaps position w.measure-gap.result ∙ kept.size;
            members = kept.members;
            from = kept.from;
            reached = kept.reached;
            moved = kept.moved;
            asked = below_more (λ (q : ℕ). has start.reached q ≡ false → IsAsked standing.costs standing.items.items standing.places.items start.members.items
                (length start.members.items - 1 + 1) start.moved q (gap_at (set c.loop-position.self.gaps position w.measure-gap.result) q)) position
                (λ q below free. rw (get_or-set_other c.loop-position.self.gaps position q w.measure-gap.result None (λ same. let is : q ≡ position = same in omega (arith, is, below))) (kept.asked q below free))
                (λ free. rw (get_or-set_same c.loop-position.self.gaps position w.measure-gap.result None known)
                (asked-seeker standing.costs standing.items.items standing.places.items start.members.items (length start.members.items - 1) start.moved position
                c.newest-newest.result _ _ (gap_at c.loop-position.self.gaps position) w.measure-gap.result c.newest-newest.ensures w.measure-gap.ensures influence price (kept.later position (omega arith) (omega arith) free)));
            later = λ q from within free. rw (get_or-set_other c.loop-position.self.gaps position q w.measure-gap.result None (λ same. let is : q ≡ position = same in omega (arith, is, from)))
                (kept.later q (omega (arith, from)) within free);
            nearest = nearest-more c.loop-position.self.gaps start.reached position known fresh w.measure-gap.result c.loop-position.nearest w.nearer-nearest.result
                w.nearer-nearest.ensures kept.nearest;
          }
      | else-not-contains w ↦
          let skipped : has start.reached position ≡ true = ap (λ set. has set position) (sym kept.reached) ∙ sym c.contains.ensures ∙ w.if-not-contains.false in
          rw (w.self-is, w.nearest-is) record {
            size = kept.size;
            members = kept.members;
            from = kept.from;
            reached = kept.reached;
            moved = kept.moved;
            asked = below_more (λ (q : ℕ). has start.reached q ≡ false → IsAsked standing.costs standing.items.items standing.places.items start.members.items
                (length start.members.items - 1 + 1) start.moved q (gap_at c.loop-position.self.gaps q)) position
                kept.asked (λ free. absurd (false≢true (sym free ∙ skipped)));
            later = λ q from within. kept.later q (omega (arith, from)) within;
            nearest = nearest-skip c.loop-position.self.gaps start.reached position c.loop-position.nearest skipped kept.nearest;
          }
    ]

pub returns : goal.returns
returns c =
    let kept = c.loop-position.invariant in
    let start = c.args.self.now in
    let count : length start.members.items - 1 + 1 ≡ length start.members.items = omega (arith, c.requires.tree.branches.some) in
    record {
      tree = record {
        ordinary = c.requires.tree.ordinary;
        stands = c.requires.tree.stands;
        room = c.requires.tree.room;
        branches = rw (kept.members, kept.from) c.requires.tree.branches;
        reached = rw (kept.members, kept.reached) c.requires.tree.reached;
        near = rw (kept.reached, kept.moved) c.requires.tree.near;
      };
      gaps = record {
        each = λ q within fresh. rw (kept.members, kept.moved, ← count) (kept.asked q (omega (arith, within)) (rw (← kept.reached) fresh));
      };
      members = ap (λ m. m.items) kept.members;
      nearest = let end : c.loop-position.position ≡ length c.args.standing.now.costs.influences.now = omega arith in
          rw (kept.reached, ← end) kept.nearest;
    }
