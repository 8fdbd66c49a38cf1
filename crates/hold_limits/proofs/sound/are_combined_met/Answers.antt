use Rattle.std.proofs.Common.{◌<◌, ◌≤◌, length, subst, sym, arith}
use Rattle.std.proofs.lemmas.Bool.{false≢true}
use Rattle.hold_parts.specs.declared.parts.Combined.{Combined}
use Rattle.hold_parts.specs.Limits.{is_listed}
use Rattle.hold_limits.specs.Placement.{loose_load}
use Rattle.hold_limits.proofs.sound.are_combined_met.Goals as goal

pub returns-then-not-is_combined_met : goal.returns-then-not-is_combined_met
returns-then-not-is_combined_met c =
    let i = c.loop-limit.limit-index in
    let within : i < length c.args.limits.now = omega arith in
    let P : Combined → Type 0 = λ x. loose_load (is_listed x.places) c.args.stowage.now.items ≤ x.most.0 in (
      λ is. absurd (false≢true is),
      λ all. rw c.if-not-is_combined_met.true at (c.is_combined_met.ensures.1 (subst P (sym c.limit-item.is) (all i c.limit-item.result within))),
    )
