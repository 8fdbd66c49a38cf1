-- What was written so far is the text up to `at`, no write has failed, and the input and the references are as they were.
use Rattle.std.proofs.Common.{◌≡◌, ◌-◌, length}
use Rattle.load_io.proofs.SinkLemmas.{IsWritten}
use Rattle.load_io.proofs.links.send_all.Given as goal

abbrev pub invariant-loop-at : goal.invariant-loop-at
invariant-loop-at g l =
    let L = g.L.Link in
    IsWritten (L.content l.initial.link) (L.content l.link) l.text l.at (L.write_faults l.initial.link) (L.write_faults l.link)
    × (L.left l.link ≡ L.left l.initial.link) × (L.read_faults l.link ≡ L.read_faults l.initial.link)
    × (L.references l.link ≡ L.references l.initial.link)

abbrev pub decreases-loop-at : goal.decreases-loop-at
decreases-loop-at g l = length l.text - l.at
