use Rattle.std.proofs.Common.{⊎_elim, pos}
use Rattle.position_set.specs.Sets.{has}
use Rattle.hold_partial.proofs.RankLemmas.{first-least}
use Rattle.hold_partial.proofs.SideLemmas.{sides-apart}
use Rattle.hold_partial.proofs.tables.Tables.least_at.Goals as goal

pub returns-in-Reach : goal.returns-in-Reach
returns-in-Reach c =
    let tables = c.args.self.now in
    let found = first-least tables.ranks.items c.requires.prepared.1.ranks.rising (has c.args.places) c.requires.known (pos 0, 0) c.first.result c.first.ensures in
    ⊎_elim (λ is. rw is found) (λ is. rw is found) c.in-Reach.is

pub leftmost-requires : goal.leftmost-requires
leftmost-requires c = sides-apart c.requires.prepared.0.hold c.args.self.now.ranks.items c.args.self.now.sides c.requires.prepared.1.sides
