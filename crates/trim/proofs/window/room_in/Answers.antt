use Rattle.trim.proofs.BoundLemmas.{inside-bound}
use Rattle.trim.proofs.WindowLemmas.{room-from_window}
use Rattle.trim.proofs.window.room_in.Goals as goal

pub less-requires-clause-index : goal.less-requires-clause-index
less-requires-clause-index c =
    inside-bound c.args.envelope.now c.args.mass.0 c.in_ok-low.low.0 c.requires.lawful c.requires.corners c.in_ok-low.ensures.least.0

pub less-requires-2-clause-index : goal.less-requires-2-clause-index
less-requires-2-clause-index c =
    inside-bound c.args.envelope.now c.args.mass.0 c.in_ok-low.high.0 c.requires.lawful c.requires.corners c.in_ok-low.ensures.greatest.0

pub returns-clause-room : goal.returns-clause-room
returns-clause-room c =
    room-from_window c.args.envelope.now c.args.mass.0 c.args.base.0 c.in_ok-low.low.0 c.in_ok-low.high.0 _
    c.in_ok-low.ensures.least c.in_ok-low.ensures.greatest c.in_ok-low.ensures.between c.less.ensures c.less-2.ensures
