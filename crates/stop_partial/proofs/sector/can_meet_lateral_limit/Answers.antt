use Rattle.std.proofs.Common.{rules, FitsSigned, w64}
use Rattle.std.proofs.lemmas.Int.{to_z-of_z}
use Rattle.stop_partial.proofs.sector.can_meet_lateral_limit.Goals as goal

pub returns-in-Some : goal.returns-in-Some
returns-in-Some c =
    let low_fits : FitsSigned w64 c.in-Some.low = search rules in
    let high_fits : FitsSigned w64 c.in-Some.high = search rules in
    let low = to_z-of_z w64 c.in-Some.low low_fits in
    let high = to_z-of_z w64 c.in-Some.high high_fits in
    rw (← c.lateral_reach.ensures, c.in-Some.is) (rw (low, high, c.hold-hold.ensures.value, c.task.ensures.value) at c.meets_lateral_limit.ensures)
