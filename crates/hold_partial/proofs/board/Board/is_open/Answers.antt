use Rattle.std.proofs.Common.{◌<◌, length, ◌∙◌, arith}
use Rattle.hold_reach.specs.Reach.{is_open}
use Rattle.hold_partial.proofs.KeptLemmas.{entry-is}
use Rattle.hold_partial.proofs.RankLemmas.{at-its-rank}
use Rattle.hold_partial.proofs.board.Board.is_open.Goals as goal

pub returns : goal.returns
returns c = λ container there.
    let b = c.args.self.now in
    let known : c.args.position < length b.task.now.hold.positions = omega (arith, c.requires.kept.prepared.positions.count, c.len.ensures.value, c.if-position-len.false) in
    let place = entry-is b.task.now b.tables c.requires.kept.prepared c.deref.result.now c.args.position _ c.deref.ensures.0 known in
    c.contains.ensures
    ∙ c.places_for.ensures container there _
    ∙ at-its-rank (is_open b.task.now b.prefix.items container) b.task.now.hold b.tables.ranks.items _ c.args.position place.rank
