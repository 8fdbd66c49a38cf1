use Rattle.desk_serve.specs.Bays.{Worked}
use Rattle.desk_serve.proofs.Pairs.{between}
use Rattle.desk_serve.proofs.bays.work_all.Goals as goal

pub returns-clause-each : goal.returns-clause-each
returns-clause-each g c i d lt =
    let D = g.D.Door in
    let L = g.D.Link.Link in
    let h = c.for_each_mut.ensures i d lt in
    between (λ b b'. Worked D.coming D.handed D.faults L.left L.content L.read_faults L.write_faults b.desk b'.desk b.door b'.door b'.closed) _ _ _ _ h.1.argument_is h.1.left h.1.call
