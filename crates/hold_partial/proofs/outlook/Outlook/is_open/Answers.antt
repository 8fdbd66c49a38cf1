use Rattle.std.proofs.Common.{◌<◌, length, ◌∙◌}
use Rattle.hold_reach.specs.Reach.{is_open}
use Rattle.hold_partial.proofs.KeptLemmas.{no_entry, entry-is}
use Rattle.hold_partial.proofs.RankLemmas.{at-its-rank}
use Rattle.hold_partial.proofs.outlook.Outlook.is_open.Goals as goal

pub returns : goal.returns
returns c =
    let b = c.self.inside.board.now in
    let t = b.task.now in
    let known : c.args.number < length t.hold.positions = rw (← c.self.view_is) at c.requires in
    let place = entry-is t b.tables c.self.invariant.kept.prepared c.deref.result.now c.args.number no_entry c.deref.ensures.0 known in
    rw (← c.self.view_is) (λ item there.
    c.contains.ensures ∙ c.self.invariant.open_ranks item there _
    ∙ at-its-rank (is_open t b.prefix.items item) t.hold b.tables.ranks.items _ c.args.number place.rank)
