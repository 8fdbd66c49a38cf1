use Rattle.std.proofs.Common.{rules, ◌≡◌, ℕ, ◌+◌, List, not, take, FitsSigned, w64, subst}
use Rattle.std.specs.Prelude.{◌↔◌, IsTrue}
use Rattle.std.proofs.lemmas.Int.{to_z-of_z}
use Rattle.std.proofs.lemmas.List.{take_all}
use Rattle.position_set.specs.Sets.{has}
use Rattle.price_trees.specs.Narrowing.{Ticks}
use Rattle.hold_choices.specs.Narrowed.{ticks_between}
use Rattle.finder_remainders.specs.Remainders.{IsAllowed, IsMetBy}
use Rattle.finder_remainders.specs.declared.spots.Spot.{Spot}
use Rattle.finder_remainders.proofs.RemainderSteps.{met-more, one-more, not-told}
use Rattle.finder_remainders.proofs.classes.forbidden.Goals as goal

pub loop-spot-preserved : goal.loop-spot-preserved
loop-spot-preserved c =
    let spots : List Spot = c.args.spots.now in
    let s : Spot = c.spot-item.result in
    let i : ℕ = c.loop-spot.spot-index in
    let ticks : Ticks = ticks_between c.args.ticks.low c.args.ticks.high in
    let fits : FitsSigned w64 s.index = search rules in
    let allowed : IsTrue c.allows-missed.result ↔ IsAllowed ticks c.args.divisor s.index =
    subst (λ z. IsTrue c.allows-missed.result ↔ IsAllowed ticks c.args.divisor z) (to_z-of_z w64 s.index fits) c.allows-missed.ensures in
    met-more (λ index. IsAllowed ticks c.args.divisor index → ⊥) (take i spots) (take (i + 1) spots) s c.loop-spot.positions c.with_if-positions.result (not c.allows-missed.result)
    (one-more spots i s c.loop-spot-test.true c.spot-item.is) (not-told c.allows-missed.result (IsAllowed ticks c.args.divisor s.index) allowed) c.with_if-positions.ensures c.loop-spot.invariant

pub returns : goal.returns
returns c =
    let spots : List Spot = c.args.spots.now in
    let same : take c.loop-spot.spot-index spots ≡ spots = take_all c.loop-spot.spot-index spots c.loop-spot-test.false in
    subst (λ xs. (q : ℕ) → IsTrue (has c.loop-spot.positions q) ↔ IsMetBy (λ index. IsAllowed (ticks_between c.args.ticks.low c.args.ticks.high) c.args.divisor index → ⊥) xs q) same c.loop-spot.invariant
