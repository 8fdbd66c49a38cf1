use Rattle.std.proofs.Common.{◌≡◌, w64, length, arith, rules}
use Rattle.std.specs.Prelude.{pos, ◌≤ℤ◌}
use Rattle.std.proofs.lemmas.Int.{to_z-of_z}
use Rattle.std.proofs.lemmas.List.Elements.{All-get_or}
use Rattle.assignment.specs.Tables.{IsWithin}
use Rattle.assignment_draft.specs.Trees.{gap_at, gap_span}
use Rattle.assignment_draft.proofs.NearNumbers.{read, is-less}
use Rattle.assignment_draft.proofs.TreeSteps.{tree-ahead, tree-goal}
use Rattle.assignment_draft.proofs.search.Tree.see.Goals as goal

pub returns-then-is_some-clause-tree : goal.returns-then-is_some-clause-tree
returns-then-is_some-clause-tree c = λ prices known known_place grown.
    let tree = c.args.self.now in
    let gap = c.args.gap in
    let position = c.args.position in
    let size : length tree.gaps ≡ 64 = search rules in
    let old : IsWithin gap_span (gap_at tree.gaps position) = All-get_or (IsWithin gap_span) tree.gaps position (pos 0) (omega (arith, c.requires.position, size)) grown.gaps in
    let nearer : gap ≤ℤ gap_at tree.gaps position = is-less gap (gap_at tree.gaps position)
    (rw (to_z-of_z w64 gap c.ranges.gap, c.from-place.ensures, read gap_span (gap_at tree.gaps position) (omega arith) old) at c.if-gap-self-2.true) in
    rw (to_z-of_z w64 gap c.ranges.gap, c.from-place.ensures)
    (tree-ahead prices tree c.args.number position gap grown known known_place c.requires.gap nearer c.with-self.result c.with-self.ensures)

pub returns-else-is_some-clause-tree : goal.returns-else-is_some-clause-tree
returns-else-is_some-clause-tree c = λ prices known known_place grown.
    let tree = c.args.self.now in
    let gap = c.args.gap in
    let position = c.args.position in
    let size : length tree.gaps ≡ 64 = search rules in
    let old : IsWithin gap_span (gap_at tree.gaps position) = All-get_or (IsWithin gap_span) tree.gaps position (pos 0) (omega (arith, c.requires.position, size)) grown.gaps in
    let nearer : gap ≤ℤ gap_at tree.gaps position = is-less gap (gap_at tree.gaps position)
    (rw (to_z-of_z w64 gap c.ranges.gap, c.from-place.ensures, read gap_span (gap_at tree.gaps position) (omega arith) old) at c.if-gap-self-2.true) in
    let below : gap ≤ℤ tree.limit = is-less gap tree.limit (rw (to_z-of_z w64 gap c.ranges.gap, read gap_span tree.limit (omega arith) grown.limit) at c.if-gap-self.true) in
    rw (to_z-of_z w64 gap c.ranges.gap, c.from-place.ensures)
    (tree-goal prices tree c.args.number position gap grown known known_place c.requires.gap nearer (omega (arith, c.requires.position, size)) below)
