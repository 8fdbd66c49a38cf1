use Rattle.std.proofs.Common.{◌≡◌, ◌≤◌, ◌*◌, take}
use Rattle.transit_messages.specs.Agreement.{mass_of_places}
use Rattle.transit_messages.proofs.agreement.mass_of_places.Given as goal

abbrev pub invariant-loop-place : goal.invariant-loop-place
invariant-loop-place l = record {
  sum : l.sum ≡ mass_of_places (take l.place-index l.places);
  few : l.sum ≤ 4294967295 * l.place-index;
}
