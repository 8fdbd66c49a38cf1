use Rattle.std.proofs.Common.{◌∷◌, [], reverse}
use Rattle.std.proofs.lemmas.Result.{on_ok_weaker}
use Rattle.tree_checker.proofs.Readings.{reading-under}
use Rattle.tree_checker.proofs.walk.push_left.Goals as goal

pub returns-in_ok-push_open-in-Two-clause-stands :
    goal.returns-in_ok-push_open-in-Two-clause-stands
returns-in_ok-push_open-in-Two-clause-stands c = on_ok_weaker c.push_open-in-Two-2.result
    (λ stands ticks prices operations outcome reading.
    let t = c.args.evidence.now.task.now in
    let first = c.in_ok-push_open-in-Two.ensures.stands in
    rw c.in-Two.is (reading-under t ticks prices (c.in-Two.next ∷ []) (reverse c.push_open-in-Two.new.pending.items) (c.in-Two.later ∷ reverse c.args.pending.now.items) operations outcome
    (λ rest later. first ticks prices rest outcome later)
    (stands ticks prices operations outcome reading)))
    c.push_open-in-Two-2.ensures.stands
