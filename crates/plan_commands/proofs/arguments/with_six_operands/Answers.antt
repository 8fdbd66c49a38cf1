use Rattle.std.proofs.Common.{◌∷◌, [], ap₂}
use Rattle.std.specs.Prelude.{codes}
use Rattle.plan_commands.specs.Arguments.AskFor.{transit_within}
use Rattle.plan_commands.proofs.ArgumentLemmas.{different_bytes, equal_bytes}
use Rattle.plan_commands.proofs.TransitArguments.{no-station, read-station, six-operands}
use Rattle.plan_commands.proofs.arguments.with_six_operands.Goals as goal

pub returns-then-ne-clause-none : goal.returns-then-ne-clause-none
returns-then-ne-clause-none c =
    λ job is. different_bytes c.args.name.now (codes "transit") c.ne.result c.if-ne.true c.ne.ensures (six-operands _ _ _ _ _ _ _ job is).name_is

pub returns-in_err-station-clause-none : goal.returns-in_err-station-clause-none
returns-in_err-station-clause-none c =
    rw c.from_residual.ensures
    (λ job is. no-station c.args.station.now _ c.as_bytes.ensures.value c.in_err-station.ensures (six-operands _ _ _ _ _ _ _ job is).stations.0)

pub returns-in_err-next-clause-none : goal.returns-in_err-next-clause-none
returns-in_err-next-clause-none c =
    rw c.from_residual-in_err-next.ensures
    (λ job is. no-station c.args.next.now _ c.as_bytes-2.ensures.value c.in_err-next.ensures (six-operands _ _ _ _ _ _ _ job is).stations.1)

pub returns-in_err-budget-clause-none : goal.returns-in_err-budget-clause-none
returns-in_err-budget-clause-none c =
    rw c.from_residual-in_err-budget.ensures
    (λ job is. let asked = six-operands _ _ _ _ _ _ _ job is in c.in_err-budget.ensures.none asked.number asked.low asked.high asked.said)

pub returns-clause-some : goal.returns-clause-some
returns-clause-some c =
    let station = read-station c.args.station.now _ c.in_ok-station.station c.as_bytes.ensures.value c.in_ok-station.ensures in
    let next = read-station c.args.next.now _ c.in_ok-next.next c.as_bytes-2.ensures.value c.in_ok-next.ensures in
    let budget = c.in_ok-budget.ensures.some in
    let named = equal_bytes c.args.name.now (codes "transit") c.ne.result c.if-ne.false c.ne.ensures in
    rw (station.0, next.0)
    (transit_within (record { task = c.args.task.now; cpm = c.args.cpm.now; ldm = c.args.ldm.now; station = c.args.station.now; next = c.args.next.now })
    c.in_ok-budget.budget
    (ap₂ (λ name last. name ∷ c.args.task.now ∷ c.args.cpm.now ∷ c.args.ldm.now ∷ c.args.station.now ∷ c.args.next.now ∷ last ∷ []) named budget.0)
    (record { station = station.1; next = next.1 }) budget.1 budget.2)
