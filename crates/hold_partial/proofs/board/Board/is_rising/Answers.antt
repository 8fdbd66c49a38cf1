use Rattle.std.proofs.Common.{sym, ◌∙◌}
use Rattle.hold_limits.proofs.TwinLemmas.{is_rising-Decides}
use Rattle.hold_partial.proofs.KeptLemmas.{level-is}
use Rattle.hold_partial.proofs.board.Board.is_rising.Goals as goal

pub returns : goal.returns
returns c =
    let b = c.args.self.now in
    let level = level-is b c.requires c.len.result _ c.len.ensures.value in
    let decides = is_rising-Decides b.task.now b.prefix.items in
    (λ is. decides.0 (sym level.rising ∙ is), λ rising. level.rising ∙ decides.1 rising)
