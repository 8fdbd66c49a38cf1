use Rattle.std.proofs.Common.{◌≡◌, arith}
use Rattle.hold_limits.proofs.LawfulBounds.{lawful-bounds}
use Rattle.hold_partial.proofs.ClosedLemmas.{closed-none}
use Rattle.hold_partial.proofs.board.Board.new.Goals as goal

pub returns-clause-kept : goal.returns-clause-kept
returns-clause-kept c =
    let t = c.args.task.now in
    let ranks = c.of.result.ranks.items in
    rw c.new.ensures record {
      lawful = c.level_of_none.ensures.lawful;
      sound = c.requires;
      prepared = c.of.ensures;
      fronts = λ k d short. let first : k ≡ 0 = omega arith in rw first (c.level_of_none.ensures.value ranks);
      loaded = c.loose_masses.ensures;
      closed = closed-none t ranks c.nothing.result c.nothing.ensures (lawful-bounds t c.level_of_none.ensures.lawful).items;
    }
