use Rattle.std.proofs.Common.{◌≡◌, map, take}
use Rattle.std.specs.List.{enumerate_from}
use Rattle.last_minute.specs.Sheets.{stowed, place_on}
use Rattle.last_minute.proofs.places.Stowage.places.Given as goal

abbrev pub invariant-loop-number : goal.invariant-loop-number
invariant-loop-number l = l.places.items ≡ map (place_on (stowed l.self) l.self.loose.now) (enumerate_from 0 (take l.number l.positions))
