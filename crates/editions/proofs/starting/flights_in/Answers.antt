use Rattle.std.proofs.lemmas.Result.{err_from_is_err_and}
use Rattle.editions.proofs.StartLemmas.{so-far-none, so-far-more, so-far-all, first-fault}
use Rattle.editions.proofs.starting.flights_in.Goals as goal

pub loop-row-init : goal.loop-row-init
loop-row-init c = rw c.new-opening.ensures.items (so-far-none c.args.fleet.now c.args.rows.now)

pub loop-row-preserved : goal.loop-row-preserved
loop-row-preserved c = rw c.in_ok-push_flight.ensures (
    so-far-more c.args.fleet.now c.args.rows.now c.loop-row.row-index c.row-item.result c.loop-row.opening.items c.in_ok-state.state c.loop-row-test.true c.row-item.is c.in_ok-state.ensures.found c.in_ok-state.ensures.sound c.loop-row.invariant)

pub returns-in_err-state-clause-refused : goal.returns-in_err-state-clause-refused
returns-in_err-state-clause-refused c =
    let p = err_from_is_err_and c.from_residual.result c.from_residual.ensures.1 in
    rw (p.1, p.2) (first-fault c.args.fleet.now c.args.rows.now c.loop-row.row-index c.row-item.result c.loop-row.opening.items c.in_err-state.field-0.0 c.loop-row-test.true c.row-item.is c.loop-row.invariant c.in_err-state.ensures.refused)

pub returns-clause-opened : goal.returns-clause-opened
returns-clause-opened c = so-far-all c.args.fleet.now c.args.rows.now c.loop-row.row-index c.loop-row.opening.items c.loop-row-test.false c.loop-row.invariant

pub returns-clause-sound : goal.returns-clause-sound
returns-clause-sound c = c.loop-row.invariant.sound
