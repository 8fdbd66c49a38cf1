use Rattle.std.proofs.Common.{◌≡◌, ◌≤◌, ◌*◌, take}
use Rattle.ldm_cpm.specs.Messages.{total}
use Rattle.transit_messages.proofs.agreement.mass_of_loads.Given as goal

abbrev pub invariant-loop-load : goal.invariant-loop-load
invariant-loop-load l = record {
  sum : l.sum ≡ total (take l.load-index l.loads);
  few : l.sum ≤ 4294967295 * l.load-index;
}
