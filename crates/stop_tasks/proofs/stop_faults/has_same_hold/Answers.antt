use Rattle.stop_tasks.proofs.FaultLemmas.{of-sector}
use Rattle.std.proofs.Common.{◌≡◌, arith}
use Rattle.hold_limits.specs.Problem.{Problem}
use Rattle.stop_tasks.proofs.stop_faults.has_same_hold.Goals as goal

pub returns : goal.returns
returns c =
    let Same : Problem → Problem → Type 0 = λ first sector. sector.hold ≡ first.hold in
    let of = of-sector Same c.args.sectors.now c.args.place c.index-sectors-0.result c.index-sectors-place.result (omega arith) c.requires c.index-sectors-0.is c.index-sectors-place.is in
    (λ is. of.0 (let same = c.same.ensures.0 is in cc), λ all. c.same.ensures.1 (let same = of.1 all in cc))
