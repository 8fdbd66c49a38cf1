use Rattle.std.proofs.Common.{◌≡◌, Some, sym, subst}
use Rattle.std.specs.Prelude.{slice_get}
use Rattle.hold_limits.specs.BranchOrder.{ordered}
use Rattle.hold_partial.proofs.board.Board.open_for_next.Goals as goal

pub returns : goal.returns
returns c = λ item there.
    c.places_for.ensures item (subst (λ n. slice_get (ordered c.args.self.now.task.now.items) n ≡ Some item) (sym c.len.ensures.value) there)
