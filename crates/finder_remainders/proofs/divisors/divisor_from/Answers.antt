use Rattle.std.proofs.Common.{rules, ◌≡◌, ℕ, ◌+◌, ℤ, ◌-ℤ◌, List, take, FitsSigned, w64, to_z, of_z, subst, sym}
use Rattle.std.specs.Prelude.{◌↔◌}
use Rattle.std.specs.Int.{◌∣◌}
use Rattle.std.proofs.lemmas.Int.{to_z-of_z}
use Rattle.std.proofs.lemmas.List.{take_all}
use Rattle.price_trees.specs.Trees.{IsMultiple}
use Rattle.hold_choices.proofs.RemainderLemmas.{divides-both, dvd-multiple, multiple-dvd}
use Rattle.finder_remainders.specs.Remainders.{LeaveThatOf}
use Rattle.finder_remainders.specs.declared.spots.Spot.{Spot}
use Rattle.finder_remainders.proofs.RemainderSteps.{all-more, one-more, apart}
use Rattle.finder_remainders.proofs.divisors.divisor_from.Goals as goal

pub loop-spot-preserved : goal.loop-spot-preserved
loop-spot-preserved c = λ d.
    let spots : List Spot = c.args.spots.now in
    let s : Spot = c.spot-item.result in
    let i : ℕ = c.loop-spot.spot-index in
    let index : ℤ = c.args.index in
    let next : ℕ = c.common_divisor-divisor.result in
    let fits : FitsSigned w64 s.index = search rules in
    let size = apart s.index index c.abs_diff.result fits c.ranges.index c.abs_diff.ensures in
    let both = divides-both c.abs_diff.result c.loop-spot.divisor next d c.common_divisor-divisor.ensures in
    let kept : ℤ = to_z w64 (of_z w64 index) in
    let more : (d ∣ next) ↔ (IsMultiple d (s.index -ℤ kept) × (d ∣ c.loop-spot.divisor)) =
    subst (λ z. (d ∣ next) ↔ (IsMultiple d (s.index -ℤ z) × (d ∣ c.loop-spot.divisor))) (sym (to_z-of_z w64 index c.ranges.index)) (
      λ divides. let parts = both.0 divides in (dvd-multiple d (s.index -ℤ index) (subst (λ n. d ∣ n) size parts.0), parts.1),
      λ have. both.1 (subst (λ n. d ∣ n) (sym size) (multiple-dvd d (s.index -ℤ index) have.0), have.1),
    ) in
    all-more (λ (x : Spot). IsMultiple d (x.index -ℤ kept)) (take i spots) (take (i + 1) spots) s (d ∣ c.loop-spot.divisor) (d ∣ next)
    (one-more spots i s c.loop-spot-test.true c.spot-item.is) (c.loop-spot.invariant d) more

pub returns : goal.returns
returns c = λ d.
    let spots : List Spot = c.args.spots.now in
    let same : take c.loop-spot.spot-index spots ≡ spots = take_all c.loop-spot.spot-index spots c.loop-spot-test.false in
    let whole : (d ∣ c.loop-spot.divisor) ↔ LeaveThatOf d (to_z w64 (of_z w64 c.args.index)) spots =
    subst (λ xs. (d ∣ c.loop-spot.divisor) ↔ LeaveThatOf d (to_z w64 (of_z w64 c.args.index)) xs) same (c.loop-spot.invariant d) in
    subst (λ z. (d ∣ c.loop-spot.divisor) ↔ LeaveThatOf d z spots) (to_z-of_z w64 c.args.index c.ranges.index) whole
