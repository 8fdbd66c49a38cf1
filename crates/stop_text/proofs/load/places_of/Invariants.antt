use Rattle.std.proofs.Common.{◌≡◌, map, take}
use Rattle.stop_text.specs.StopFile.{places_named}
use Rattle.stop_text.proofs.load.places_of.Given as goal

abbrev pub invariant-loop-pair : goal.invariant-loop-pair
invariant-loop-pair l = record {
  pairs : l.pairs.items ≡ map (places_named l.positions) (take l.pair-index l.behind);
}
