use Rattle.std.proofs.Common.{rules, ℤ, FitsSigned, pos, ◌+ℤ◌, ◌-ℤ◌, w64, subst, arith}
use Rattle.std.specs.Prelude.{◌↔◌, ◌≤ℤ◌, ◌<ℤ◌, IsTrue}
use Rattle.std.proofs.lemmas.Int.{ints, by_lt_z, to_z-of_z}
use Rattle.price_trees.specs.Narrowing.{IsIn}
use Rattle.price_trees.specs.Trees.{IsMultiple}
use Rattle.hold_choices.specs.Narrowed.{ticks_between}
use Rattle.hold_choices.proofs.RemainderLemmas.{of-three, multiple-none, multiple-zero, none-below}
use Rattle.finder_remainders.proofs.allowed.allows.Goals as goal

pub returns-then-divisor-eq0 : goal.returns-then-divisor-eq0
returns-then-divisor-eq0 c =
    let low = c.args.ticks.low in
    let high = c.args.ticks.high in
    let fits : FitsSigned w64 low = search rules in
    let fits' : FitsSigned w64 high = search rules in
    let tells : IsTrue c.is_tick.result ↔ IsIn (ticks_between low high) c.args.index =
    of-three (λ low high index. IsTrue c.is_tick.result ↔ IsIn (ticks_between low high) index) _ _ _ _ _ _
    (to_z-of_z w64 low fits) (to_z-of_z w64 high fits') (to_z-of_z w64 c.args.index c.ranges.index) c.is_tick.ensures in (
      λ told. record { tick = c.args.index; inside = tells.0 told; same = multiple-none c.args.divisor (c.args.index -ℤ c.args.index) (omega (arith, ints)) },
      λ met.
          let same = multiple-zero (met.tick -ℤ c.args.index) (subst (λ d. IsMultiple d (met.tick -ℤ c.args.index)) c.if-divisor-eq0.true met.same) in
          tells.1 (record { above = omega (arith, ints, met.inside.above, same); below = omega (arith, ints, met.inside.below, same) }),
    )

pub returns-else-divisor-eq0 : goal.returns-else-divisor-eq0
returns-else-divisor-eq0 c =
    let low = c.args.ticks.low in
    let high = c.args.ticks.high in
    let fits : FitsSigned w64 low = search rules in
    let fits' : FitsSigned w64 high = search rules in
    let next : ℤ = low +ℤ pos c.first_above-above.result in
    let multiple : IsMultiple c.args.divisor (next -ℤ c.args.index) =
    of-three (λ low high index. IsMultiple c.args.divisor ((low +ℤ pos c.first_above-above.result) -ℤ index)) _ _ _ _ _ _
    (to_z-of_z w64 low fits) (to_z-of_z w64 high fits') (to_z-of_z w64 c.args.index c.ranges.index) c.first_above-above.ensures.multiple in
    let tells : IsTrue c.is_within.result ↔ ((high <ℤ next) → ⊥) =
    of-three (λ low high index. IsTrue c.is_within.result ↔ ((high <ℤ (low +ℤ pos c.first_above-above.result)) → ⊥)) _ _ _ _ _ _
    (to_z-of_z w64 low fits) (to_z-of_z w64 high fits') (to_z-of_z w64 c.args.index c.ranges.index) c.is_within.ensures in (
      λ told. by_lt_z high next
          (λ (past : high <ℤ next). absurd (tells.0 told past))
          (λ (to : next ≤ℤ high). record { tick = next; inside = record { above = omega (arith, ints); below = to }; same = multiple }),
      λ met. tells.1 (λ past. none-below c.args.divisor low high c.args.index c.first_above-above.result c.first_above-above.ensures.near multiple past met.tick met.inside.above met.inside.below met.same),
    )
