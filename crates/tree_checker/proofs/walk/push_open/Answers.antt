use Rattle.std.proofs.Common.{reverse, subst}
use Rattle.tree_checker.specs.TreeReading.{Reading, Closed}
use Rattle.tree_checker.proofs.Readings.{reading-opened}
use Rattle.tree_checker.proofs.WalkLemmas.{reversed}
use Rattle.tree_checker.proofs.walk.push_open.Goals as goal

pub returns-in-Ok-clause-stands : goal.returns-in-Ok-clause-stands
returns-in-Ok-clause-stands c = λ ticks prices operations outcome reading.
    let t = c.args.evidence.now.task.now in
    let old = c.args.pending.now.items in
    reading-opened t ticks prices c.args.choice c.in-Some.left (reverse old) operations outcome c.in-Some.ensures
    (subst (λ cs. Reading t ticks prices cs operations outcome) (reversed c.push.new.self.items old c.in-Some.left c.in-Ok.ensures.items) reading)

pub returns-in-None-clause-stands : goal.returns-in-None-clause-stands
returns-in-None-clause-stands c = λ ticks prices operations outcome reading. Closed c.in-None.ensures reading
