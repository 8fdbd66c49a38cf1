use Rattle.std.proofs.Common.{ℕ, ◌≢◌, List, subst, sym, arith}
use Rattle.std.specs.Prelude.{◌↔◌, slice_index}
use Rattle.std.specs.Int.{◌∣◌}
use Rattle.hold_choices.proofs.RemainderLemmas.{divides-both}
use Rattle.finder_remainders.proofs.RemainderSteps.{below-both}
use Rattle.finder_remainders.proofs.divisors.divisor_without.Goals as goal
use Rattle.finder_remainders.proofs.divisors.divisor_without.Goals.{then-other-rank, else-other-rank}

pub loop-other-preserved : goal.loop-other-preserved
loop-other-preserved c = λ d.
    let divisors : List ℕ = c.args.divisors.now in
    let i : ℕ = c.loop-other.other in
    let P : ℕ → Type 0 = λ k. k ≢ c.args.rank → d ∣ slice_index divisors k in
    below-both P i (d ∣ c.loop-other.common) (d ∣ c.if-other-rank.common) (c.loop-other.invariant d) (elim c.if-other-rank.branch [
      | then-other-rank w ↦
          let both : (d ∣ w.common_divisor-common.result) ↔ ((d ∣ slice_index divisors i) × (d ∣ c.loop-other.common)) = divides-both (slice_index divisors i) c.loop-other.common w.common_divisor-common.result d w.common_divisor-common.ensures in
          subst (λ n. (d ∣ n) ↔ (P i × (d ∣ c.loop-other.common))) (sym w.common-is) (
            λ divides. let parts = both.0 divides in (λ _. parts.0, parts.1),
            λ have. both.1 (have.0 w.if-other-rank.true, have.1),
          )
      | else-other-rank w ↦
          subst (λ n. (d ∣ n) ↔ (P i × (d ∣ c.loop-other.common))) (sym w.common-is) (
            λ divides. (λ differ. absurd (omega (arith, differ, w.if-other-rank.false)), divides),
            λ have. have.1,
          )
    ])

pub returns : goal.returns
returns c = λ d.
    let so_far = c.loop-other.invariant d in (
      λ divides k within differ. so_far.0 divides k (omega (arith, within)) differ,
      λ each. so_far.1 (λ k within differ. each k (omega (arith, within)) differ),
    )
