use Rattle.std.proofs.Common.{◌≡◌, ℕ, ◌<◌, false, map, take, get_or}
use Rattle.trim.specs.declared.figures.LooseFigure.{LooseFigure}
use Rattle.trim.specs.Loads.{is_no_load, load_told}
use Rattle.trim.proofs.loose.loose_loads.Given as goal

abbrev pub invariant-loop-at : goal.invariant-loop-at
invariant-loop-at l =
    (l.loads.items ≡ map (load_told l.a) (take l.at l.figures))
    × ((k : ℕ) → k < l.at → (d : LooseFigure) → is_no_load l.a (get_or l.figures k d) ≡ false)
