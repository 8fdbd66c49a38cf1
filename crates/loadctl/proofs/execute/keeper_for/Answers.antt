use Rattle.std.proofs.lemmas.Result.{IfOk-weaker}
use Rattle.loadctl.specs.Execute.IsKeeperFor.{in_file, in_memory}
use Rattle.loadctl.proofs.execute.keeper_for.Goals as goal

pub returns-in-Some : goal.returns-in-Some
returns-in-Some g c = IfOk-weaker c.keeper_in_file.result _ _ (λ keeper kept. in_file c.in-Some.name.now c.in-Some.ensures.some kept) c.keeper_in_file.ensures

pub returns-in-None : goal.returns-in-None
returns-in-None g c = in_memory c.in-None.ensures.none c.keeper_in_memory.ensures
