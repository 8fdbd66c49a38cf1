use Rattle.std.proofs.Common.{◌≡◌, length, ap, ◌∙◌, arith}
use Rattle.std.specs.List.{filter, range_with_len}
use Rattle.hold_limits.specs.Enumeration.{is_accepted}
use Rattle.hold_choices.proofs.NumberLemmas.{stands-more, members-range}
use Rattle.hold_choices.proofs.choices.accepting.Goals as goal

pub loop-number-preserved : goal.loop-number-preserved
loop-number-preserved c =
    stands-more (λ q. is_accepted c.args.hold.now (c.args.item.now, q)) c.loop-number.set c.with_if-set.result c.loop-number.number c.accepts_at.result c.loop-number.invariant c.with_if-set.ensures c.accepts_at.ensures.value

pub returns : goal.returns
returns c =
    let count = c.position_count-number-end.ensures in
    let end : c.loop-number.number ≡ length c.args.hold.now.positions = omega (arith, count.value, count.few) in
    members-range c.loop-number.set (λ q. is_accepted c.args.hold.now (c.args.item.now, q)) c.loop-number.number (omega (arith, count.few)) c.loop-number.invariant
    ∙ ap (λ n. filter (λ q. is_accepted c.args.hold.now (c.args.item.now, q)) (range_with_len 0 n)) end
