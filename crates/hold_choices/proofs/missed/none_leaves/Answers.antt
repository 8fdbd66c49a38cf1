use Rattle.std.proofs.Common.{ℤ, pos, ◌+ℤ◌, ◌-ℤ◌, w64, subst, arith}
use Rattle.std.specs.Prelude.{◌↔◌, ◌≤ℤ◌, ◌<ℤ◌, IsTrue}
use Rattle.std.proofs.lemmas.Int.{ints, by_lt_z, to_z-of_z}
use Rattle.price_trees.specs.Narrowing.{IsIn}
use Rattle.price_trees.specs.Trees.{IsMultiple}
use Rattle.hold_choices.specs.Narrowed.{ticks_between}
use Rattle.hold_choices.proofs.RemainderLemmas.{of-three, multiple-none, multiple-zero, none-below}
use Rattle.hold_choices.proofs.missed.none_leaves.Goals as goal

pub returns-then-divisor-eq0 : goal.returns-then-divisor-eq0
returns-then-divisor-eq0 c =
    let tells : IsTrue c.is_no_tick.result ↔ (IsIn (ticks_between c.args.low c.args.high) c.args.index → ⊥) =
    of-three (λ low high index. IsTrue c.is_no_tick.result ↔ (IsIn (ticks_between low high) index → ⊥)) _ _ _ _ _ _
    (to_z-of_z w64 c.args.low c.ranges.low) (to_z-of_z w64 c.args.high c.ranges.high) (to_z-of_z w64 c.args.index c.ranges.index) c.is_no_tick.ensures in (
      λ outside tick inside multiple.
          let same = multiple-zero (tick -ℤ c.args.index) (subst (λ d. IsMultiple d (tick -ℤ c.args.index)) c.if-divisor-eq0.true multiple) in
          tells.0 outside (record { above = omega (arith, ints, inside.above, same); below = omega (arith, ints, inside.below, same) }),
      λ none. tells.1 (λ inside. none c.args.index inside (multiple-none c.args.divisor (c.args.index -ℤ c.args.index) (omega (arith, ints)))),
    )

pub returns-else-divisor-eq0 : goal.returns-else-divisor-eq0
returns-else-divisor-eq0 c =
    let next : ℤ = c.args.low +ℤ pos c.first_above.result in
    let multiple : IsMultiple c.args.divisor (next -ℤ c.args.index) =
    of-three (λ low high index. IsMultiple c.args.divisor ((low +ℤ pos c.first_above.result) -ℤ index)) _ _ _ _ _ _
    (to_z-of_z w64 c.args.low c.ranges.low) (to_z-of_z w64 c.args.high c.ranges.high) (to_z-of_z w64 c.args.index c.ranges.index) c.first_above.ensures.multiple in
    let tells : IsTrue c.is_past.result ↔ (c.args.high <ℤ next) =
    of-three (λ low high index. IsTrue c.is_past.result ↔ (high <ℤ (low +ℤ pos c.first_above.result))) _ _ _ _ _ _
    (to_z-of_z w64 c.args.low c.ranges.low) (to_z-of_z w64 c.args.high c.ranges.high) (to_z-of_z w64 c.args.index c.ranges.index) c.is_past.ensures in (
      λ past tick inside other.
          none-below c.args.divisor c.args.low c.args.high c.args.index c.first_above.result c.first_above.ensures.near multiple (tells.0 past) tick inside.above inside.below other,
      λ none. by_lt_z c.args.high next
          (λ (past : c.args.high <ℤ next). tells.1 past)
          (λ (to : next ≤ℤ c.args.high). absurd (none next (record { above = omega (arith, ints); below = to }) multiple)),
    )
