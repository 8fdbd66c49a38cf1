-- The head stands where it was heard, nothing of the input is lost, no read has failed, and the references are as they were.
use Rattle.std.proofs.Common.{◌≡◌, ◌-◌, ◌≤◌, ℕ, List, length, take, Option}
use Rattle.http_wire.specs.declared.heads.RequestPlaces.{RequestPlaces}
use Rattle.http_wire.specs.Hearing.{to_come}
use Rattle.http_wire.specs.Places.{HasWholeHead}
use Rattle.http_wire.proofs.hearing.hear_body.Given as goal

pub record IsHearing (input left written written_before : Option (List ℕ)) (buffer : List ℕ) (end : ℕ) (places : RequestPlaces) (reads reads_before writes writes_before : ℕ) (references references_before : List ℕ) : Type 0 where
  pub size : length buffer ≡ 24576
  pub full : end ≤ 24576
  pub head : HasWholeHead (take end buffer) places
  pub heard : to_come (take end buffer) left ≡ input
  pub output_kept : written ≡ written_before
  pub reads_kept : reads ≡ reads_before
  pub writes_kept : writes ≡ writes_before
  pub same_references : references ≡ references_before

abbrev pub invariant-reads : goal.invariant-reads
invariant-reads g l =
    let L = g.L.Link in
    IsHearing (to_come (take l.initial.end l.initial.buffer) (L.left l.initial.link)) (L.left l.link) (L.content l.link) (L.content l.initial.link)
    l.buffer l.end l.places (L.read_faults l.link) (L.read_faults l.initial.link) (L.write_faults l.link) (L.write_faults l.initial.link)
    (L.references l.link) (L.references l.initial.link)

abbrev pub decreases-reads : goal.decreases-reads
decreases-reads g l = 24576 - l.end
