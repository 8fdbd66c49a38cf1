use Rattle.std.proofs.Common.{◌≡◌, ⊎_elim, ℕ, false, arith}
use Rattle.std.specs.Prelude.{◌-ℤ◌}
use Rattle.std.proofs.lemmas.Int.{ints}
use Rattle.position_set.specs.Sets.{has}
use Rattle.assignment.specs.Prices.{price_at}
use Rattle.assignment.specs.Tables.{IsWithin}
use Rattle.assignment.proofs.Bounds.{may-known}
use Rattle.assignment_draft.specs.declared.prices.Prices.{Prices}
use Rattle.assignment_draft.specs.declared.search.Tree.{Tree}
use Rattle.assignment_draft.specs.Drafts.{AreSound, table}
use Rattle.assignment_draft.specs.Trees.{IsTree, gap_span, most_moved}
use Rattle.assignment_draft.proofs.NearNumbers.{read, read-item}
use Rattle.assignment_draft.proofs.Rests.{was-there, is-gone, are-fewer}
use Rattle.assignment_draft.proofs.TreeSteps.{closer-again, closer-measured, moved-near}
use Rattle.assignment_draft.proofs.search.Tree.look_at.Goals as goal

pub gap_from-gap-requires-clause-position : goal.gap_from-gap-requires-clause-position
gap_from-gap-requires-clause-position c =
    let prices = c.args.prices.now in
    (may-known (table prices.candidates.items prices.influences.items) c.requires.sound.ordinary c.args.number c.in-Some.position
    (c.requires.are_open c.in-Some.position (c.loop-position.invariant.rest_too c.in-Some.position c.in-Some.ensures.1))).1

offset-near : (prices : Prices) (tree : Tree) (number : ℕ) → AreSound prices → IsTree prices tree → IsWithin 5000000000000 (tree.moved -ℤ price_at prices.items.items number)
offset-near prices tree number sound grown =
    let moved = moved-near prices tree grown in
    let item = sound.items number in
    record { above = omega (arith, ints, moved.above, item.below); below = omega (arith, ints, moved.below, item.above) }

pub gap_from-gap-requires-clause-offset : goal.gap_from-gap-requires-clause-offset
gap_from-gap-requires-clause-offset c =
    let prices = c.args.prices.now in
    let offset = offset-near prices c.args.self.now c.args.number c.requires.sound c.requires.tree in
    rw (
      read most_moved c.args.self.now.moved (omega arith) (moved-near prices c.args.self.now c.requires.tree),
      c.deref.ensures.0,
      c.from.ensures,
      read-item prices c.requires.sound c.args.number,
      read 5000000000000 (c.args.self.now.moved -ℤ price_at prices.items.items c.args.number) (omega arith) offset,
    )
    offset

pub loop-position-smaller : goal.loop-position-smaller
loop-position-smaller c = are-fewer c.loop-position.rest c.without-rest.result c.in-Some.position c.without-rest.ensures c.in-Some.ensures.0 c.in-Some.ensures.1 c.in-Some.ensures.2

pub loop-position-preserved : goal.loop-position-preserved
loop-position-preserved c =
    let prices = c.args.prices.now in
    let start = c.args.self.now in
    let before = c.loop-position.self in
    let now = c.see.new.self in
    let kept = c.loop-position.invariant in
    let position = c.in-Some.position in
    let rest = c.loop-position.rest in
    let known = may-known (table prices.candidates.items prices.influences.items) c.requires.sound.ordinary c.args.number position (c.requires.are_open position (kept.rest_too position c.in-Some.ensures.1)) in
    let offset = offset-near prices start c.args.number c.requires.sound c.requires.tree in
    let gap = rw (
      read most_moved start.moved (omega arith) (moved-near prices start c.requires.tree),
      c.deref.ensures.0,
      c.from.ensures,
      read-item prices c.requires.sound c.args.number,
      read 5000000000000 (start.moved -ℤ price_at prices.items.items c.args.number) (omega arith) offset,
    ) at c.gap_from-gap.ensures.gap in
    let seen = rw (read gap_span c.gap_from-gap.result (omega arith) c.gap_from-gap.ensures.near) at c.see.ensures.seen in
    let closer = closer-again start before now kept.closer c.see.ensures.closer in
    record {
      tree = c.see.ensures.tree prices known.0 known.1 kept.tree;
      closer = closer;
      rest_too = λ q left. kept.rest_too q (was-there rest c.without-rest.result position c.without-rest.ensures q left);
      seen = λ q there gone. ⊎_elim
          (λ (same : q ≡ position). rw same (λ least below_gap below_limit. let found = seen least below_gap below_limit in omega (arith, ints, found, gap, closer.moved)))
          (λ (none : has rest q ≡ false). closer-measured prices before now c.see.ensures.closer c.args.number q (kept.seen q there none))
          (is-gone rest c.without-rest.result position c.without-rest.ensures q gone);
    }

pub returns-clause-seen : goal.returns-clause-seen
returns-clause-seen c = λ q there. c.loop-position.invariant.seen q there (c.in_default.ensures q)
