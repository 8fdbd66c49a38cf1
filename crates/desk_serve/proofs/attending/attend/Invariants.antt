use Rattle.std.proofs.Common.{◌≡◌}
use Rattle.desk_serve.proofs.Rounds.{Round}
use Rattle.desk_serve.proofs.attending.attend.Given as goal

-- the links that came in were served and handed back, and the door did not fail
abbrev pub invariant-loop : goal.invariant-loop
invariant-loop g l =
    let C = g.C.Counter in
    let D = g.D.Door in
    let L = g.D.Link.Link in
    record {
      setting : C.setting l.counter ≡ C.setting l.initial.counter;
      desk : C.desk l.counter ≡ C.desk l.initial.counter;
      full : C.full l.initial.counter → C.full l.counter;
      follows : C.follows l.initial.counter l.counter;
      round : Round D.coming D.handed D.faults L.left L.content L.read_faults L.write_faults (C.setting l.initial.counter) (C.full l.counter) (C.desk l.initial.counter)
          (C.seen l.initial.counter) (C.seen l.counter) l.initial.door l.door;
    }
