use Rattle.std.proofs.Common.{◌≡◌, ℤ, ◌+◌, ◌-◌, ◌<◌, ◌≤◌, [], ◌∷◌, ◌++◌, length, length-append, subst, arith, unsigned_abs}
use Rattle.std.proofs.lemmas.Int.{ints}
use Rattle.hold_reach.proofs.LoadLemmas.{mass-at}
use Rattle.hold_reach.proofs.ReachLemmas.{IsSummed, next-item, amounts-bounded, summed-start, summed-next, summed-none, summed-all}
use Rattle.hold_partial.proofs.board.Board.span_after.Goals as goal

pub loop-item-init : goal.loop-item-init
loop-item-init c =
    let b = c.args.self.now in
    let bound = subst (λ (x : ℤ). unsigned_abs x ≤ 248000000000) c.start_after.ensures.value c.start_after.ensures.bounded in
    let begins = summed-start c.args.extent b.task.now (b.prefix.items ++ c.args.position ∷ []) (c.len-item.result + 1) c.at-span.result (omega (arith, c.len-item.ensures.value, length-append b.prefix.items (c.args.position ∷ [])))
    (omega (arith, ints, c.at-span.ensures.low, c.start_after.ensures.value)) (omega (arith, ints, c.at-span.ensures.high, c.start_after.ensures.value)) bound in
    let none : 0 ≡ (c.len-item.result + 1) - (length b.prefix.items + 1) = omega (arith, c.len-item.ensures.value) in
    subst (λ done. IsSummed c.args.extent b.task.now (b.prefix.items ++ c.args.position ∷ []) (c.len-item.result + 1) done c.at-span.result) none begins

pub returns-in_err-amounts_after-clause-value : goal.returns-in_err-amounts_after-clause-value
returns-in_err-amounts_after-clause-value c =
    let b = c.args.self.now in
    let within : c.loop-item.item < length b.task.now.items = omega (arith, c.loop-item-test.true, c.len-item-end.ensures.value, c.requires.kept.prepared.demands.count) in
    let next = next-item b.task.now c.loop-item.item within in
    rw c.from_residual.ensures (summed-none c.args.extent b.task.now (b.prefix.items ++ c.args.position ∷ []) c.loop-item.item _ c.loop-item.span next.0 within next.1 c.loop-item.invariant (c.in_err-amounts_after.ensures next.0 next.1))

pub plus-span-requires-clause-other_bounded : goal.plus-span-requires-clause-other_bounded
plus-span-requires-clause-other_bounded c =
    let b = c.args.self.now in
    let within : c.loop-item.item < length b.task.now.items = omega (arith, c.loop-item-test.true, c.len-item-end.ensures.value, c.requires.kept.prepared.demands.count) in
    let next = next-item b.task.now c.loop-item.item within in
    let light = mass-at b.task.now c.requires.kept.lawful c.loop-item.item next.0 within next.1 in
    let bound = amounts-bounded c.args.extent b.task.now (b.prefix.items ++ c.args.position ∷ []) next.0 c.in_ok-amounts_after.field-0 c.requires.kept.lawful light (c.in_ok-amounts_after.ensures next.0 next.1) in
    (omega (arith, bound.0), omega (arith, bound.1))

pub loop-item-preserved : goal.loop-item-preserved
loop-item-preserved c =
    let b = c.args.self.now in
    let item = c.loop-item.item in
    let within : item < length b.task.now.items = omega (arith, c.loop-item-test.true, c.len-item-end.ensures.value, c.requires.kept.prepared.demands.count) in
    let next = next-item b.task.now item within in
    let light = mass-at b.task.now c.requires.kept.lawful item next.0 within next.1 in
    let summed = summed-next c.args.extent b.task.now (b.prefix.items ++ c.args.position ∷ []) item (item - (length b.prefix.items + 1)) c.loop-item.span c.in_ok-amounts_after.field-0 c.plus-span.result next.0
    c.requires.kept.lawful within next.1 light c.loop-item.invariant (c.in_ok-amounts_after.ensures next.0 next.1) c.plus-span.ensures.low c.plus-span.ensures.high in
    let more : (item - (length b.prefix.items + 1)) + 1 ≡ (item + 1) - (length b.prefix.items + 1) = omega (arith, c.len-item.ensures.value) in
    subst (λ done. IsSummed c.args.extent b.task.now (b.prefix.items ++ c.args.position ∷ []) (item + 1) done c.plus-span.result) more summed

pub returns-clause-value : goal.returns-clause-value
returns-clause-value c =
    let b = c.args.self.now in
    let past : length b.task.now.items ≤ c.loop-item.item = omega (arith, c.loop-item-test.false, c.len-item-end.ensures.value, c.requires.kept.prepared.demands.count) in
    summed-all c.args.extent b.task.now (b.prefix.items ++ c.args.position ∷ []) c.loop-item.item _ c.loop-item.span past c.loop-item.invariant
