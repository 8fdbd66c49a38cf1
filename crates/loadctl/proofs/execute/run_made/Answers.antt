use Rattle.loadctl.specs.Execute.Executes.{ran, no_memory}
use Rattle.std.proofs.Common.{refl}
use Rattle.loadctl.proofs.execute.run_made.Goals as goal

pub returns-in-Ok : goal.returns-in-Ok
returns-in-Ok g c = ran _ _ _ _ _ _ c.in-Ok.ensures.keeper c.in-Ok.ensures.doors c.run-ran.ensures

pub returns-in-Err : goal.returns-in-Err
returns-in-Err g c = no_memory (λ keeper. refl)
