use Rattle.std.proofs.Common.{refl, arith, zero-add, ◌≡◌}
use Rattle.std.proofs.lemmas.List.FromFn.{map-range_with_len_more}
use Rattle.generated_load.specs.Load.{generated_position, generated_positions}
use Rattle.generated_load.proofs.load.positions.Goals as goal

pub loop-number-preserved : goal.loop-number-preserved
loop-number-preserved c =
    let number = c.loop-number.number in
    rw (c.in_ok-push.ensures.items, c.loop-number.invariant, map-range_with_len_more generated_position 0 number number (zero-add number), c.in_ok-position_of.ensures) refl

pub returns : goal.returns
unfolding generated_positions
returns c =
    let all : c.loop-number.number ≡ 64 = omega (arith, c.loop-number-test.false, c.loop-number.auto.number-end) in
    rw (c.loop-number.invariant, all) refl
