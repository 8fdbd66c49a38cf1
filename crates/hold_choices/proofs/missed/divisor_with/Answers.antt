use Rattle.std.proofs.Common.{◌≡◌, ℕ, suc, ◌-ℤ◌, unsigned_abs, [], length, ap, sym, subst, arith}
use Rattle.std.specs.Prelude.{◌↔◌, All}
use Rattle.std.specs.Int.{◌∣◌}
use Rattle.hold_limits.specs.Placement.{placed_moment}
use Rattle.position_set.specs.Sets.{members}
use Rattle.price_trees.specs.Trees.{IsMultiple}
use Rattle.hold_choices.proofs.RemainderLemmas.{divides-both, dvd-multiple, multiple-dvd, number-more, all-listed, leave-one}
use Rattle.hold_choices.proofs.missed.divisor_with.Goals as goal

pub loop-number-preserved : goal.loop-number-preserved
loop-number-preserved c = λ d.
    let hold = c.args.hold.now in
    let item = c.args.item.now in
    let first : ℕ = c.in-Some.first in
    let q : ℕ = c.in-Some-take_first.number in
    let P : ℕ → Type 0 = λ p. IsMultiple d (placed_moment hold (item, p) -ℤ placed_moment hold (item, first)) in
    let common = c.loop-number.common in
    let next = c.common_divisor-common.result in
    let both : (d ∣ next) ↔ ((d ∣ c.moments_apart.result) × (d ∣ common)) = divides-both c.moments_apart.result common next d c.common_divisor-common.ensures in
    let same : c.moments_apart.result ≡ unsigned_abs (placed_moment hold (item, q) -ℤ placed_moment hold (item, first)) = c.moments_apart.ensures in
    number-more P q (members c.take_first-in-loop-number.new.self) (members c.loop-number.rest) (d ∣ common) (d ∣ next) ((d ∣ c.args.divisor) × All P (members c.take_first.new.self))
    c.in-Some-take_first.ensures.1 (
      λ divides. let parts = both.0 divides in (dvd-multiple d _ (subst (λ n. d ∣ n) same parts.0), parts.1),
      λ have. both.1 (subst (λ n. d ∣ n) (sym same) (multiple-dvd d _ have.0), have.1),
    )
    (c.loop-number.invariant d)

pub loop-number-smaller : goal.loop-number-smaller
loop-number-smaller c =
    let count : length (members c.loop-number.rest) ≡ suc (length (members c.take_first-in-loop-number.new.self)) = ap length c.in-Some-take_first.ensures.1 in
    omega (arith, count)

pub returns : goal.returns
returns c = λ d.
    let hold = c.args.hold.now in
    let item = c.args.item.now in
    let first : ℕ = c.in-Some.first in
    let rest = members c.take_first.new.self in
    let P : ℕ → Type 0 = λ p. IsMultiple d (placed_moment hold (item, p) -ℤ placed_moment hold (item, first)) in
    let none : members c.loop-number.rest ≡ [] = c.in_default-take_first.ensures in
    let ends : (d ∣ c.loop-number.common) ↔ ((d ∣ c.args.divisor) × All P rest) = all-listed P (d ∣ c.loop-number.common) ((d ∣ c.args.divisor) × All P rest) (members c.loop-number.rest) none (c.loop-number.invariant d) in
    let leave = leave-one hold d item first rest (members c.args.set) c.in-Some.ensures.1 in
    (λ divides. let have = ends.0 divides in (have.0, leave.0 have.1), λ have. ends.1 (have.0, leave.1 have.1))
