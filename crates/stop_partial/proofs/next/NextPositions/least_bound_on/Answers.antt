use Rattle.std.proofs.Common.{◌≡◌, ◌≤◌, ◌+ℤ◌, ◌++◌, ◌∷◌, [], ap, ap₂, sym, ◌∙◌, subst, arith, to_z, of_z, w64}
use Rattle.std.proofs.lemmas.Int.{ints, to_z-of_z}
use Rattle.std.specs.Prelude.{IfSome}
use Rattle.hold_limits.specs.Problem.{Problem}
use Rattle.hold_limits.specs.Placement.{placed_moment}
use Rattle.hold_reach.specs.Reach.{gap_to_ideal, wide_bound}
use Rattle.hold_reach.proofs.ViableLemmas.{next-of}
use Rattle.stop_partial.proofs.NextLemmas.{least-bound}
use Rattle.stop_partial.proofs.next.NextPositions.least_bound_on.Goals as goal

pub returns : goal.returns
returns c =
    let t : Problem = c.args.task.now in
    let prefix = c.args.prefix.now in
    let q = c.args.number in
    let others = c.args.self.now.others in
    let next = next-of t prefix q c.requires.fits in
    let moment : to_z w64 (of_z w64 c.moment_on-moment.result) ≡ placed_moment t.hold (next.0, q) =
    to_z-of_z w64 c.moment_on-moment.result (omega (arith, ints, c.moment_on-moment.ensures.bounded)) ∙ c.moment_on-moment.ensures.value next.0 next.1 in
    let low = c.plus.ensures.low ∙ ap (λ m. others.low +ℤ m) (c.at.ensures.low ∙ moment) in
    let high = c.plus.ensures.high ∙ ap (λ m. others.high +ℤ m) (c.at.ensures.high ∙ moment) in
    subst (λ n. IfSome (wide_bound t (prefix ++ q ∷ [])) (λ b. n ≤ b)) (sym (c.gap_to_ideal.ensures ∙ ap₂ (λ a b. gap_to_ideal t (a, b)) low high))
    (least-bound t prefix others q next.0 c.moment_on-moment.ensures.lawful c.requires.next.holds next.1 c.requires.fits)
