use Rattle.std.proofs.Common.{◌≡◌, ◌+◌, arith}
use Rattle.hold_limits.specs.Problem.{Problem}
use Rattle.stop_tasks.specs.Stops.{aboard}
use Rattle.stop_tasks.proofs.FaultLemmas.{of-sector}
use Rattle.stop_tasks.proofs.stop_faults.has_items_aboard.Goals as goal

pub returns : goal.returns
returns c =
    let Aboard : Problem → Problem → Type 0 = λ first sector. sector.items ≡ aboard first.items c.args.leaves.now (c.args.place + 1) in
    let of = of-sector Aboard c.args.sectors.now c.args.place c.index-sectors-0.result c.index-sectors-place.result (omega arith) c.requires.within c.index-sectors-0.is c.index-sectors-place.is in
    let said = c.are_aboard.ensures in
    let told = rw (c.items.ensures.value, c.items-2.ensures.value) at said in
    (λ is. of.0 (told.0 is), λ all. told.1 (of.1 all))
