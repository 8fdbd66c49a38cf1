use Rattle.std.proofs.Common.{◌+◌, nat_lt, slice_index, sym, ◌∙◌}
use Rattle.hold_partial.proofs.LimitLemmas.{find-here, find-next}
use Rattle.hold_partial.proofs.loads.first_over.Goals as goal

pub returns-then-is_over : goal.returns-then-is_over
returns-then-is_over c =
    sym (find-here (λ j. nat_lt (slice_index c.args.allowed.now j) (slice_index c.args.loads.now j + c.args.mass.0)) c.args.limits.now c.loop-place.place-index 0
    c.loop-place-test.true c.loop-place.invariant (sym c.is_over.ensures ∙ c.if-is_over.true))

pub loop-place-preserved : goal.loop-place-preserved
loop-place-preserved c =
    find-next (λ j. nat_lt (slice_index c.args.allowed.now j) (slice_index c.args.loads.now j + c.args.mass.0)) c.args.limits.now c.loop-place.place-index 0
    c.loop-place-test.true c.loop-place.invariant (sym c.is_over.ensures ∙ c.if-is_over.false)
