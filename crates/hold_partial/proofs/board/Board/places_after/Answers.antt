use Rattle.std.proofs.Common.{⊎_elim}
use Rattle.hold_partial.proofs.AheadLemmas.{free-after}
use Rattle.hold_partial.proofs.board.Board.places_after.Goals as goal

pub returns-in-Reach : goal.returns-in-Reach
returns-in-Reach c = rw c.in-Reach.is c.open_after.ensures

pub returns-in-WideReach : goal.returns-in-WideReach
returns-in-WideReach c =
    let b = c.args.self.now in
    ⊎_elim
    (λ is. rw is (λ container there. free-after b.task.now b.tables.ranks.items b.prefix.items container c.args.position c.unblocked.result (rw is at c.unblocked.ensures container there)))
    (λ is. rw is (λ container there. free-after b.task.now b.tables.ranks.items b.prefix.items container c.args.position c.unblocked.result (rw is at c.unblocked.ensures container there)))
    c.in-WideReach.is
