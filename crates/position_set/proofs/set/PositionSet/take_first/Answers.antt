use Rattle.position_set.proofs.MemberLemmas.{members-none, members-first}
use Rattle.position_set.proofs.set.PositionSet.take_first.Goals as goal

pub returns-in_err-first : goal.returns-in_err-first
returns-in_err-first c = rw c.from_residual.ensures (members-none c.args.self.now c.in_err-first.ensures)

pub returns : goal.returns
returns c =
    let least = c.in_ok-first.ensures in
    (least.0, members-first c.args.self.now c.without.result c.in_ok-first.first least.0 least.1 least.2 c.without.ensures)
