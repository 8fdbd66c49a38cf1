use Rattle.flight_row.proofs.ChangeLineLemmas.{Zone, Bulk, narrow, wide, zone_said, bulk_said, no_change}
use Rattle.flight_row.proofs.section_lines.read_change.Goals as goal

pub returns-in-Some-clause-found : goal.returns-in-Some-clause-found
returns-in-Some-clause-found c =
    let x : Zone = (c.in-Some.zone, (c.in-Some.adults, (c.in-Some.children, c.in-Some.infants))) in
    let read = c.in-Some.ensures.found in
    zone_said c.args.line.now x _ _ _ (narrow c.in-Some.adults read.0.1.0) (narrow c.in-Some.children read.0.1.1.0) (narrow c.in-Some.infants read.0.1.1.1) read

pub returns-in_err-position-clause-none : goal.returns-in_err-position-clause-none
returns-in_err-position-clause-none c = rw c.from_residual.ensures (no_change c.args.line.now c.in_default.ensures.none c.in_err-position.ensures.none)

pub returns-clause-found : goal.returns-clause-found
returns-clause-found c =
    let x : Bulk = (c.in_ok-position.position, (c.in_ok-position.mass, c.in_ok-position.pieces)) in
    let read = c.in_ok-position.ensures.found in
    bulk_said c.args.line.now x _ _ (wide c.in_ok-position.mass read.0.1.0) (narrow c.in_ok-position.pieces read.0.1.1) read
