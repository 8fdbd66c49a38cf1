use Rattle.std.proofs.Common.{◌≡◌, ◌≤◌, ℤ, unsigned_abs, w64, to_z, of_z, Some, ap₂, subst, arith}
use Rattle.std.proofs.lemmas.Int.{ints, to_z-of_z}
use Rattle.std.specs.Prelude.{IfNone}
use Rattle.hold_limits.specs.Problem.{Problem}
use Rattle.hold_reach.specs.Reach.{Meets}
use Rattle.priced_placer.proofs.TightBounds.{missed-none}
use Rattle.priced_placer.proofs.horizon.tight_bound.Goals as goal

pub returns-in_err-low-clause-none : goal.returns-in_err-low-clause-none
returns-in_err-low-clause-none c = rw c.from_residual-in_err-low.ensures (λ b is. absurd (c.in_err-low.ensures.reach is.ends.0 is.reach.least))

fits : (x : ℤ) → unsigned_abs x ≤ 2000000000000000 → to_z w64 (of_z w64 x) ≡ x
fits x small = to_z-of_z w64 x (omega (arith, ints, small))

pub returns-clause-none : goal.returns-clause-none
returns-clause-none c =
    let t = c.args.partial.now.task in
    let ends : ℤ × ℤ = (c.in_ok-low.low.0, c.in_ok-low.high.0) in
    let held : ℤ × ℤ = (to_z w64 (of_z w64 ends.0), to_z w64 (of_z w64 ends.1)) in
    let same : held ≡ ends = ap₂ (λ (low high : ℤ). (low, high)) (fits ends.0 c.in_ok-low.ensures.bounded.0) (fits ends.1 c.in_ok-low.ensures.bounded.1) in
    let missed = subst (λ (task : Problem). IfNone c.gap_in_window.result (Meets task.low task.high (Some held) → ⊥)) c.task.ensures.value c.gap_in_window.ensures.none in
    missed-none t c.args.partial.now.prefix ends c.gap_in_window.result c.in_ok-low.ensures.reach
    (subst (λ span. IfNone c.gap_in_window.result (Meets t.low t.high (Some span) → ⊥)) same missed)
