use Rattle.std.proofs.Common.{◌+◌, length, sym}
use Rattle.std.proofs.lemmas.Result.{err_from_is_err_and}
use Rattle.desk_fleet.proofs.FleetLemmas.{refused-long, refused-fault, refused-twice, file-of}
use Rattle.desk_fleet.proofs.fleet.next_aircraft.Goals as goal

pub returns-in_err-text-clause-refused : goal.returns-in_err-text-clause-refused
returns-in_err-text-clause-refused g c =
    let p = err_from_is_err_and c.from_residual.result c.from_residual.ensures.1 in
    rw (p.1, p.2) (refused-long c.in_err-text.field-0.0 (g.F.Shelf.files c.args.shelf.now) c.args.fleet.now c.args.name.now (length c.args.fleet.now + 1) c.in_err-text.ensures.long)

pub returns-in_err-aircraft-clause-refused : goal.returns-in_err-aircraft-clause-refused
returns-in_err-aircraft-clause-refused g c =
    let p = err_from_is_err_and c.from_residual-in_err-aircraft.result c.from_residual-in_err-aircraft.ensures.1 in
    rw (p.1, p.2) (refused-fault c.in_err-aircraft.field-0.0 (g.F.Shelf.files c.args.shelf.now) c.args.fleet.now c.args.name.now c.in_ok-text.text.items (length c.args.fleet.now + 1)
    c.in_ok-text.ensures.whole c.in_ok-text.ensures.short (rw c.as_slice.ensures.value at c.in_err-aircraft.ensures.refused))

pub returns-then-is_taken-clause-refused : goal.returns-then-is_taken-clause-refused
returns-then-is_taken-clause-refused g c =
    let held = file-of (g.F.Shelf.files c.args.shelf.now) c.args.name.now c.in_ok-text.text.items c.in_ok-aircraft.aircraft c.in_ok-text.ensures.whole c.in_ok-text.ensures.short (rw c.as_slice.ensures.value at c.in_ok-aircraft.ensures.described) in
    refused-twice c.refused.result (g.F.Shelf.files c.args.shelf.now) c.args.fleet.now c.args.name.now (length c.args.fleet.now + 1) c.in_ok-aircraft.aircraft c.refused.ensures held (sym (rw c.registration.ensures.value at c.if-is_taken.ensures))

pub returns-clause-described : goal.returns-clause-described
returns-clause-described g c =
    file-of (g.F.Shelf.files c.args.shelf.now) c.args.name.now c.in_ok-text.text.items c.in_ok-aircraft.aircraft c.in_ok-text.ensures.whole c.in_ok-text.ensures.short (rw c.as_slice.ensures.value at c.in_ok-aircraft.ensures.described)
