use Rattle.std.proofs.Common.{◌≡◌, IsFalse}
use Rattle.desk_http.proofs.Talks.{Talk}
use Rattle.desk_http.proofs.connection.serve_connection.Given as goal

-- so many requests were answered, nothing failed, and the link holds the references that it held
abbrev pub invariant-loop : goal.invariant-loop
invariant-loop g l =
    let C = g.C.Counter in
    let L = g.L.Link in
    record {
      setting : C.setting l.counter-2 ≡ C.setting l.initial.counter-2;
      desk : C.desk l.counter-2 ≡ C.desk l.initial.counter-2;
      full : C.full l.initial.counter-2 → C.full l.counter-2;
      follows : C.follows l.initial.counter-2 l.counter-2;
      same_references : L.references l.link ≡ L.references l.initial.link;
      more : IsFalse l.tools.wire.over;
      talk : Talk L.left L.content L.read_faults L.write_faults (C.setting l.initial.counter-2) (C.desk l.initial.counter-2) (C.seen l.initial.counter-2) l.initial.link
          (C.full l.initial.counter-2) (C.full l.counter-2) (C.seen l.counter-2) l.link l.tools.wire.heard l.counter;
    }
