use Rattle.std.proofs.Common.{rules, ◌≡◌, ℕ, ◌+◌, ℤ, ◌-ℤ◌, List, take, FitsSigned, w64, to_z, of_z, subst, sym}
use Rattle.std.specs.Prelude.{◌↔◌, IsTrue}
use Rattle.std.proofs.lemmas.Int.{to_z-of_z}
use Rattle.std.proofs.lemmas.List.{take_all}
use Rattle.position_set.specs.Sets.{has}
use Rattle.price_trees.specs.Trees.{IsMultiple}
use Rattle.finder_remainders.specs.Remainders.{IsMetBy}
use Rattle.finder_remainders.specs.declared.spots.Spot.{Spot}
use Rattle.finder_remainders.proofs.RemainderSteps.{met-more, one-more, apart, tells-multiple}
use Rattle.finder_remainders.proofs.classes.alike.Goals as goal

pub loop-spot-preserved : goal.loop-spot-preserved
loop-spot-preserved c =
    let spots : List Spot = c.args.spots.now in
    let s : Spot = c.spot-item.result in
    let i : ℕ = c.loop-spot.spot-index in
    let index : ℤ = c.args.index in
    let fits : FitsSigned w64 s.index = search rules in
    let size = apart s.index index c.abs_diff.result fits c.ranges.index c.abs_diff.ensures in
    let kept : ℤ = to_z w64 (of_z w64 index) in
    let tells : IsTrue c.divides-same.result ↔ IsMultiple c.args.divisor (s.index -ℤ kept) =
    subst (λ z. IsTrue c.divides-same.result ↔ IsMultiple c.args.divisor (s.index -ℤ z)) (sym (to_z-of_z w64 index c.ranges.index)) (tells-multiple c.args.divisor c.abs_diff.result (s.index -ℤ index) c.divides-same.result size c.divides-same.ensures) in
    met-more (λ other. IsMultiple c.args.divisor (other -ℤ kept)) (take i spots) (take (i + 1) spots) s c.loop-spot.positions c.with_if-positions.result c.divides-same.result
    (one-more spots i s c.loop-spot-test.true c.spot-item.is) tells c.with_if-positions.ensures c.loop-spot.invariant

pub returns : goal.returns
returns c =
    let spots : List Spot = c.args.spots.now in
    let same : take c.loop-spot.spot-index spots ≡ spots = take_all c.loop-spot.spot-index spots c.loop-spot-test.false in
    let whole : (q : ℕ) → IsTrue (has c.loop-spot.positions q) ↔ IsMetBy (λ other. IsMultiple c.args.divisor (other -ℤ to_z w64 (of_z w64 c.args.index))) spots q =
    subst (λ xs. (q : ℕ) → IsTrue (has c.loop-spot.positions q) ↔ IsMetBy (λ other. IsMultiple c.args.divisor (other -ℤ to_z w64 (of_z w64 c.args.index))) xs q) same c.loop-spot.invariant in
    subst (λ z. (q : ℕ) → IsTrue (has c.loop-spot.positions q) ↔ IsMetBy (λ other. IsMultiple c.args.divisor (other -ℤ z)) spots q) (to_z-of_z w64 c.args.index c.ranges.index) whole
