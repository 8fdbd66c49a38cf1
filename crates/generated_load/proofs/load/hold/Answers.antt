use Rattle.generated_load.proofs.LawfulLemmas.{hold-is-right, hold-is-well-spelled}
use Rattle.generated_load.proofs.load.hold.Goals as goal

pub new-requires-4 : goal.new-requires-4
new-requires-4 c =
    rw (c.in_ok-positions.ensures, c.new.ensures.items, c.new-2.ensures.items, c.new-3.ensures.items) hold-is-well-spelled

pub unreachable-requires : goal.unreachable-requires
unreachable-requires c =
    let wrong = rw (c.in_ok-positions.ensures, c.new.ensures.items, c.new-2.ensures.items, c.new-3.ensures.items, hold-is-right) at c.in-Err.ensures.refused in
    absurd (cc wrong)
