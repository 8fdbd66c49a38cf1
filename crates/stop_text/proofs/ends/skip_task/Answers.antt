use Rattle.stop_text.proofs.TaskBlocks.{past_end, past_other}
use Rattle.stop_text.proofs.ends.skip_task.Goals as goal

pub returns-then-is_end : goal.returns-then-is_end
returns-then-is_end c =
    let inv = c.loop-line.invariant in
    let start = c.args.lines.now in
    let here = c.loop-line.lines in
    let after = c.in-Some.after in
    past_end start.rest.now start.number inv.lines inv.inside here.rest.now here.number inv.read inv.counted c.in-Some.line.now after.rest.now after.number
    c.in-Some.ensures.found.0 c.in-Some.ensures.found.1 c.in-Some.ensures.counted (c.is_end.ensures.0 c.if-is_end.true)

pub loop-line-preserved : goal.loop-line-preserved
loop-line-preserved c =
    let inv = c.loop-line.invariant in
    let start = c.args.lines.now in
    let here = c.loop-line.lines in
    let after = c.in-Some.after in
    let longer = past_other start.rest.now start.number inv.lines inv.inside here.rest.now here.number inv.read inv.counted c.in-Some.line.now after.rest.now after.number
    c.in-Some.ensures.found.0 c.in-Some.ensures.found.1 c.in-Some.ensures.counted (λ e. let yes = c.is_end.ensures.1 e in absurd (cc (yes, c.if-is_end.false))) in
    record { lines = longer.0; inside = longer.1; read = longer.2; counted = longer.3 }
