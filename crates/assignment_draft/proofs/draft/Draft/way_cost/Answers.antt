use Rattle.std.proofs.Common.{◌≡◌, ◌+◌, ◌*◌, ◌<◌, None, Some, w64, to_z, length, get_or, sym, ◌∙◌, arith}
use Rattle.std.specs.Prelude.{ℤ, ◌+ℤ◌}
use Rattle.std.proofs.lemmas.Int.{ints}
use Rattle.assignment.specs.Standings.{greatest_cost}
use Rattle.assignment.specs.Tables.{number_at, IsWithin, cost_at}
use Rattle.assignment_draft.proofs.NearNumbers.{fits, read}
use Rattle.assignment_draft.proofs.SeatedWays.{begun-more, begun-whole, way-at, way-length, way_of}
use Rattle.assignment_draft.proofs.draft.Draft.way_cost.Goals as goal

pub overflow_add-cost : goal.overflow_add-cost
overflow_add-cost c =
    let k = c.loop-number.number in
    let kept = c.loop-number.invariant.near in
    let cost = c.cost-cost.ensures.near in
    let sum : ℤ = to_z w64 c.loop-number.cost-bits in
    let near : IsWithin (greatest_cost * (k + 1)) (sum +ℤ c.cost-cost.result) =
    record { above = omega (arith, ints, kept.above, cost.above); below = omega (arith, ints, kept.below, cost.below) } in
    rw (read greatest_cost c.cost-cost.result (omega arith) cost)
    (fits (greatest_cost * (k + 1)) _ (omega (arith, c.loop-number-test.true, c.len-number-end.ensures.value, c.self.invariant.sound.ordinary.few_candidates)) near)

pub loop-number-preserved : goal.loop-number-preserved
unfolding cost_at
loop-number-preserved c =
    let prices = c.self.inside.prices in
    let stands = c.self.inside.seats.stands.items in
    let k = c.loop-number.number in
    let position = c.in_ok-position.position in
    let kept = c.loop-number.invariant in
    let cost = c.cost-cost.ensures.near in
    let sum : ℤ = to_z w64 c.loop-number.cost-bits in
    let known : k < length prices.candidates.items = omega (arith, c.loop-number-test.true, c.len-number-end.ensures.value) in
    let near : IsWithin (greatest_cost * (k + 1)) (sum +ℤ c.cost-cost.result) =
    record { above = omega (arith, ints, kept.near.above, cost.above); below = omega (arith, ints, kept.near.below, cost.below) } in
    let stand : get_or stands k None ≡ Some position = rw c.deref.ensures.0 at c.in_ok-position.was in
    let there : number_at (way_of stands) k ≡ position = way-at stands k position stand in
    rw (
      read greatest_cost c.cost-cost.result (omega arith) cost,
      read (greatest_cost * (k + 1)) (sum +ℤ c.cost-cost.result) (omega (arith, known, c.self.invariant.sound.ordinary.few_candidates)) near,
      c.cost-cost.ensures.value,
      ← there,
    )
    (begun-more prices.candidates.items prices.influences.items (way_of stands) k c.loop-number.taken c.with-taken.result sum kept known (omega (arith, known, way-length stands, c.self.invariant.seated.size))
    (rw (there, ← c.deref-else-contains.ensures.0) (sym c.contains-else-contains.ensures ∙ c.if-not-contains.false))
    (rw there (sym c.contains.ensures ∙ c.if-contains.false)) (rw there c.with-taken.ensures) (rw (there, ← c.cost-cost.ensures.value) cost))

pub returns-clause-way : goal.returns-clause-way
returns-clause-way c =
    let prices = c.self.inside.prices in
    let stands = c.self.inside.seats.stands.items in
    let end : c.loop-number.number ≡ length prices.candidates.items = omega (arith, c.loop-number-test.false, c.loop-number.auto.number-end, c.len-number-end.ensures.value) in
    let whole = begun-whole prices.candidates.items prices.influences.items (way_of stands) c.loop-number.taken (to_z w64 c.loop-number.cost-bits) (rw end at c.loop-number.invariant)
    (way-length stands ∙ c.self.invariant.seated.size) in
    rw (← c.self.view_is) (way_of stands, whole.0, whole.1)
