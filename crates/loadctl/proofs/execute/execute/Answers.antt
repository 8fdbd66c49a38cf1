use Rattle.std.proofs.Common.{refl, drop}
use Rattle.std.specs.Vec.Iter.{into_iter_items}
use Rattle.loadctl.specs.Execute.Executes.{no_memory}
use Rattle.loadctl.proofs.ExecuteLemmas.{executes-over, executes-none, IfOk-always, IfErr-always}
use Rattle.loadctl.proofs.execute.execute.Goals as goal

pub returns-in-Ok-clause-runs : goal.returns-in-Ok-clause-runs
returns-in-Ok-clause-runs g c = executes-over c.args.args (λ all. drop 1 (into_iter_items all)) c.in-Ok.words.items c.in-Ok.ensures.text c.run_made.ensures

pub returns-in-Ok-clause-not_text : goal.returns-in-Ok-clause-not_text
returns-in-Ok-clause-not_text g c =
    executes-none c.args.args _ c.in-Ok.words.items c.in-Ok.ensures.not_text c.run_made.ensures

pub returns-in-Err-clause-runs : goal.returns-in-Err-clause-runs
returns-in-Err-clause-runs g c = IfOk-always c.args.args _ (λ all. no_memory (λ keeper. refl))

pub returns-in-Err-clause-not_text : goal.returns-in-Err-clause-not_text
returns-in-Err-clause-not_text g c = IfErr-always c.args.args _ (λ error _. no_memory (λ keeper. refl))
