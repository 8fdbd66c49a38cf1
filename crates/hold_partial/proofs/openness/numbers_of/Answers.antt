use Rattle.std.proofs.Common.{◌≡◌, ◌<◌, ◌&&◌, nat_lt, length, ap, ◌∙◌, arith}
use Rattle.hold_partial.proofs.KeptLemmas.{no_entry, entry-is}
use Rattle.hold_partial.proofs.NumberLemmas.{stands-more}
use Rattle.hold_partial.proofs.RankLemmas.{at-its-rank}
use Rattle.hold_partial.proofs.openness.numbers_of.Goals as goal

pub loop-number-preserved : goal.loop-number-preserved
loop-number-preserved c = λ test stands.
    let b = c.args.board.now in
    let number = c.loop-number.number in
    let known : number < length b.task.now.hold.positions = omega (arith, c.requires.prepared.positions.count, c.loop-number-test.true, ap length c.deref-entry-items.ensures.0) in
    let place = entry-is b.task.now b.tables c.requires.prepared c.deref-entry-items.result.now number no_entry c.deref-entry-items.ensures.0 known in
    let passes = c.contains.ensures ∙ stands _ ∙ at-its-rank test b.task.now.hold b.tables.ranks.items _ number place.rank in
    stands-more test c.loop-number.numbers c.with_if-numbers.result number c.contains.result (c.loop-number.invariant test stands) c.with_if-numbers.ensures passes

pub returns : goal.returns
returns c = λ test stands q.
    let b = c.args.board.now in
    let all : c.loop-number.number ≡ length b.task.now.hold.positions =
    omega (arith, c.requires.prepared.positions.count, c.loop-number-test.false, c.loop-number.auto, ap length c.deref-entry-items.ensures.0) in
    c.loop-number.invariant test stands q ∙ ap (λ n. nat_lt q n && test q) all
