use Rattle.std.proofs.Common.{◌≡◌, ◌++◌}
use Rattle.std.specs.List.{flat_map}
use Rattle.ldm_cpm.specs.Messages.{load_elements}
use Rattle.ldm_cpm.specs.Sheets.{marked, loads_below}
use Rattle.ldm_cpm.proofs.compartments.push_loads.Given as goal

abbrev pub invariant-loop-compartment : goal.invariant-loop-compartment
invariant-loop-compartment l = l.out ≡ l.fn.out ++ marked (flat_map load_elements (loads_below l.compartment l.places))
