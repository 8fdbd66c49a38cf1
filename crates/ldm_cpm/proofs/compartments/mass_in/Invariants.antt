use Rattle.std.proofs.Common.{◌≡◌, ◌≤◌, ◌*◌, take}
use Rattle.ldm_cpm.specs.Sheets.{mass_in}
use Rattle.ldm_cpm.proofs.compartments.mass_in.Given as goal

abbrev pub invariant-loop-place : goal.invariant-loop-place
invariant-loop-place l = record {
  sum : l.sum ≡ mass_in l.compartment (take l.place-index l.places);
  few : l.sum ≤ 4294967295 * l.place-index;
}
