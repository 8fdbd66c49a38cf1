use Rattle.std.proofs.Common.{sym}
use Rattle.choice_prices.proofs.LimitLemmas.{room-none}
use Rattle.choice_prices.proofs.limits.room_at.Goals as goal

pub returns-in-None-clause-value : goal.returns-in-None-clause-value
returns-in-None-clause-value c choice =
    let none = rw c.in-None.is at (rw c.hold.ensures.value at c.limit_at.ensures) in
    room-none c.args.task.now choice c.args.number (sym none)
