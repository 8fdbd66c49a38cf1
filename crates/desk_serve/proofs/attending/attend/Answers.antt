use Rattle.std.proofs.Common.{◌∙◌, refl}
use Rattle.desk_serve.proofs.Rounds.{round_begins, round_more}
use Rattle.desk_serve.proofs.attending.attend.Goals as goal

pub loop-init : goal.loop-init
loop-init g c = record { setting = refl; desk = refl; full = λ f. f; follows = g.met.C.Counter.follows_itself _; round = round_begins _ _ _ _ _ _ _ _ _ _ _ _ }

pub loop-preserved : goal.loop-preserved
loop-preserved g c =
    let i = c.loop.invariant in
    let e = c.in-Ok-Some.ensures in
    let s = c.serve_connection.ensures in
    let d = c.done.ensures in
    let brought = rw c.in-Ok-Some.field-0-is at e.brought in
    record {
      setting = s.setting ∙ i.setting;
      desk = s.desk ∙ i.desk;
      full = λ f. s.full (i.full f);
      follows = g.met.C.Counter.follows_on _ _ _ i.follows s.follows;
      round = round_more _ _ _ _ _ _ _ _ _ _ _ _ _ _ _ _ _ _ _ _ _ i.round s.full record { brought = brought; handed = e.handed_kept; faults = e.uncounted }
          (rw (i.desk, i.setting) at s.served) d.handed d.coming_kept d.faults_kept;
    }
