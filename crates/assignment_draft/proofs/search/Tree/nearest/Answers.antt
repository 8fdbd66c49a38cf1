use Rattle.std.proofs.Common.{◌≡◌, ⊎_elim, false, w64, to_z, length, arith, rules}
use Rattle.std.specs.Prelude.{pos, ◌≤ℤ◌}
use Rattle.std.proofs.lemmas.Int.{ints}
use Rattle.std.proofs.lemmas.List.Elements.{All-get_or}
use Rattle.position_set.specs.Sets.{has}
use Rattle.assignment.specs.Tables.{IsWithin}
use Rattle.assignment_draft.specs.Trees.{gap_at, gap_span}
use Rattle.assignment_draft.proofs.NearNumbers.{read, is-less, is-not-less}
use Rattle.assignment_draft.proofs.Rests.{was-there, is-gone, are-fewer}
use Rattle.assignment_draft.proofs.search.Tree.nearest.Goals as goal

pub loop-other-smaller : goal.loop-other-smaller
loop-other-smaller c = are-fewer c.loop-other.rest c.without-rest.result c.in-Some.other c.without-rest.ensures c.in-Some.ensures.0 c.in-Some.ensures.1 c.in-Some.ensures.2

pub loop-other-smaller-then-other_gap-gap : goal.loop-other-smaller-then-other_gap-gap
loop-other-smaller-then-other_gap-gap c =
    are-fewer c.loop-other.rest c.without-rest.result c.in-Some.other c.without-rest.ensures c.in-Some.ensures.0 c.in-Some.ensures.1 c.in-Some.ensures.2

pub loop-other-preserved : goal.loop-other-preserved
loop-other-preserved c =
    let kept = c.loop-other.invariant in
    let tree = c.args.self.now in
    let other = c.in-Some.other in
    let rest = c.loop-other.rest in
    let size : length tree.gaps ≡ 64 = search rules in
    let near : IsWithin gap_span (gap_at tree.gaps other) = All-get_or (IsWithin gap_span) tree.gaps other (pos 0) (omega (arith, c.in-Some.ensures.0, size)) c.requires.gaps in
    let less : to_z w64 c.loop-other.gap-bits ≤ℤ gap_at tree.gaps other = is-not-less (gap_at tree.gaps other) (to_z w64 c.loop-other.gap-bits)
    (rw (c.from.ensures, read gap_span (gap_at tree.gaps other) (omega arith) near) at c.if-other_gap-gap.false) in
    record {
      ahead_too = λ q left. kept.ahead_too q (was-there rest c.without-rest.result other c.without-rest.ensures q left);
      known = kept.known;
      near = kept.near;
      limit = kept.limit;
      least = λ q ahead gone. ⊎_elim
          (λ (same : q ≡ other). rw same less)
          (λ (none : has rest q ≡ false). kept.least q ahead none)
          (is-gone rest c.without-rest.result other c.without-rest.ensures q gone);
    }

pub loop-other-preserved-then-other_gap-gap : goal.loop-other-preserved-then-other_gap-gap
loop-other-preserved-then-other_gap-gap c =
    let kept = c.loop-other.invariant in
    let tree = c.args.self.now in
    let other = c.in-Some.other in
    let rest = c.loop-other.rest in
    let size : length tree.gaps ≡ 64 = search rules in
    let near : IsWithin gap_span (gap_at tree.gaps other) = All-get_or (IsWithin gap_span) tree.gaps other (pos 0) (omega (arith, c.in-Some.ensures.0, size)) c.requires.gaps in
    let less : gap_at tree.gaps other ≤ℤ to_z w64 c.loop-other.gap-bits = is-less (gap_at tree.gaps other) (to_z w64 c.loop-other.gap-bits)
    (rw (c.from.ensures, read gap_span (gap_at tree.gaps other) (omega arith) near) at c.if-other_gap-gap.true) in
    rw (c.from.ensures, read gap_span (gap_at tree.gaps other) (omega arith) near) record {
      ahead_too = λ q left. kept.ahead_too q (was-there rest c.without-rest.result other c.without-rest.ensures q left);
      known = λ count below. below other (kept.ahead_too other c.in-Some.ensures.1);
      near = near;
      limit = omega (arith, ints, less, kept.limit);
      least = λ q ahead gone. ⊎_elim
          (λ (same : q ≡ other). rw same (omega (arith, ints)))
          (λ (none : has rest q ≡ false). let before = kept.least q ahead none in omega (arith, ints, less, before))
          (is-gone rest c.without-rest.result other c.without-rest.ensures q gone);
    }
