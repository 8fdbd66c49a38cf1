use Rattle.std.proofs.Common.{rules}
use Rattle.keeper.proofs.RowLemmas.{under-put_copy}
use Rattle.keeper.proofs.memory.MemoryKeeperKeeper.commit.Goals as goal

pub returns-clause-kept : goal.returns-clause-kept
returns-clause-kept c =
    under-put_copy c.args.row.now c.in_ok-clone.field-0 c.self.inside.rows c.args.self.now c.put.new.self c.in_ok-put.ensures.put (search rules) c.self.view_is
