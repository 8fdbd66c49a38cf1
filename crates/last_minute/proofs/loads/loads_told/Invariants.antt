use Rattle.std.proofs.Common.{◌≡◌, ◌≤◌, map, take, All}
use Rattle.hold_parts.specs.declared.parts.Loose.{Loose}
use Rattle.trim.specs.Loads.{load_told}
use Rattle.last_minute.proofs.loads.loads_told.Given as goal

abbrev pub invariant-loop-figure : goal.invariant-loop-figure
invariant-loop-figure l =
    (l.loads.items ≡ map (load_told l.a) (take l.figure-index l.figures)) × All (λ (load : Loose). load.mass.0 ≤ 1300000) l.loads.items
