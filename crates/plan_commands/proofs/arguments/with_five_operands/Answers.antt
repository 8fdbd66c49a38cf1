use Rattle.plan_commands.proofs.TransitArguments.{no-station, read-station, five-operands}
use Rattle.plan_commands.proofs.arguments.with_five_operands.Goals as goal

pub returns-in_err-question-clause-none : goal.returns-in_err-question-clause-none
returns-in_err-question-clause-none c =
    rw c.from_residual.ensures
    (λ job is. (five-operands _ _ _ _ _ _ job is).named c.in_err-question.ensures.none.0 c.in_err-question.ensures.none.1)

pub returns-in_err-station-clause-none : goal.returns-in_err-station-clause-none
returns-in_err-station-clause-none c =
    rw c.from_residual-in_err-station.ensures
    (λ job is. no-station c.args.station.now _ c.as_bytes.ensures.value c.in_err-station.ensures (five-operands _ _ _ _ _ _ job is).stations.0)

pub returns-in_err-next-clause-none : goal.returns-in_err-next-clause-none
returns-in_err-next-clause-none c =
    rw c.from_residual-in_err-next.ensures
    (λ job is. no-station c.args.next.now _ c.as_bytes-2.ensures.value c.in_err-next.ensures (five-operands _ _ _ _ _ _ job is).stations.1)

pub returns-clause-some : goal.returns-clause-some
returns-clause-some c =
    let station = read-station c.args.station.now _ c.in_ok-station.station c.as_bytes.ensures.value c.in_ok-station.ensures in
    let next = read-station c.args.next.now _ c.in_ok-next.next c.as_bytes-2.ensures.value c.in_ok-next.ensures in
    rw (station.0, next.0)
    (c.in_ok-question.ensures.some
    (record { task = c.args.task.now; cpm = c.args.cpm.now; ldm = c.args.ldm.now; station = c.args.station.now; next = c.args.next.now })
    (record { station = station.1; next = next.1 }))
