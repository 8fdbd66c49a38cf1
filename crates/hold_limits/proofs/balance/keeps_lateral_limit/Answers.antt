use Rattle.std.proofs.Common.{◌≡◌, w64, to_z, of_z, sym, ◌∙◌, subst, arith}
use Rattle.std.proofs.lemmas.Int.{ints, to_z-of_z}
use Rattle.hold_limits.specs.Layout.{Layout}
use Rattle.hold_limits.specs.Lateral.{IsWithinLateral}
use Rattle.hold_limits.specs.Placement.{lateral_difference}
use Rattle.hold_limits.proofs.balance.keeps_lateral_limit.Goals as goal

pub returns : goal.returns
returns c =
    let t = c.args.task.now in
    let path = c.args.path.now in
    let d = c.lateral_difference_of-difference.result in
    let same : to_z w64 (of_z w64 d) ≡ d = to_z-of_z w64 d (omega (arith, ints, c.lateral_difference_of-difference.ensures.bounded)) in
    let whole : to_z w64 (of_z w64 d) ≡ lateral_difference t path = same ∙ c.lateral_difference_of-difference.ensures.value in (
      λ yes. subst (λ (hold : Layout). IsWithinLateral hold (lateral_difference t path)) c.hold.ensures.value
          (subst (λ x. IsWithinLateral c.hold.result.now x) whole (c.is_within_lateral.ensures.meaning.0 yes)),
      λ kept. c.is_within_lateral.ensures.meaning.1
          (subst (λ x. IsWithinLateral c.hold.result.now x) (sym whole)
          (subst (λ (hold : Layout). IsWithinLateral hold (lateral_difference t path)) (sym c.hold.ensures.value) kept)),
    )
