use Rattle.std.proofs.Common.{◌≡◌, ◌≤◌, ◌*◌, ◌^◌}
use Rattle.ldm_cpm.specs.Messages.{total}
use Rattle.ldm_cpm.specs.Sheets.{loads_below}
use Rattle.ldm_cpm.proofs.compartments.total_mass.Given as goal

abbrev pub invariant-loop-compartment : goal.invariant-loop-compartment
invariant-loop-compartment l = record {
  sum : l.sum ≡ total (loads_below l.compartment l.places);
  few : l.sum ≤ 2 ^ 96 * l.compartment;
}
