use Rattle.std.proofs.Common.{rules, refl, arith, ◌≡◌, ◌+◌, ◌-◌}
use Rattle.std.proofs.lemmas.List.FromFn.{map-range_with_len_more}
use Rattle.generated_load.specs.Load.{generated_item, generated_items}
use Rattle.generated_load.proofs.load.items.Goals as goal

pub loop-count-preserved : goal.loop-count-preserved
loop-count-preserved c =
    let number = c.args.number in
    let count = c.loop-count.count in
    let before = count - 1 in
    let next : 1 + before ≡ count = omega (arith, c.loop-count.auto.count) in
    let last : count + 1 - 1 ≡ before + 1 = omega (arith, c.loop-count.auto.count) in
    rw (c.in_ok-push.ensures.items, c.loop-count.invariant, last, map-range_with_len_more (generated_item number) 1 before count next) (search rules)

pub returns : goal.returns
unfolding generated_items
returns c =
    let all : c.loop-count.count - 1 ≡ 48 = omega (arith, c.loop-count-test.false, c.loop-count.auto) in
    rw (c.loop-count.invariant, all) refl
