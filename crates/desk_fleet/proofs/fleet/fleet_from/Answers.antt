use Rattle.std.proofs.Common.{◌∙◌, ap, ◌+◌, length, rules}
use Rattle.std.proofs.lemmas.List.{length_push}
use Rattle.std.proofs.lemmas.Result.{err_from_is_err_and}
use Rattle.desk_fleet.proofs.FleetLemmas.{refused-now, grown-now}
use Rattle.desk_fleet.proofs.fleet.fleet_from.Goals as goal

pub returns-in_err-aircraft-clause-refused : goal.returns-in_err-aircraft-clause-refused
returns-in_err-aircraft-clause-refused g c =
    let p = err_from_is_err_and c.from_residual.result c.from_residual.ensures.1 in
    let far = c.loop-name.invariant in
    rw (p.1, p.2) (refused-now c.in_err-aircraft.field-0.0 (g.F.Shelf.files c.args.shelf.now) (g.F.Shelf.files c.loop-name.shelf) c.args.names.now c.loop-name.name-index c.name-item.result c.as_str.result.now c.loop-name.fleet.items c.as_slice.result.now
    c.loop-name-test.true c.name-item.is c.as_str.ensures.value c.as_slice.ensures.value far.same far.many far.far c.in_err-aircraft.ensures.refused)

pub loop-name-preserved : goal.loop-name-preserved
loop-name-preserved g c =
    let far = c.loop-name.invariant in
    record {
      same = c.next_aircraft.ensures.same ∙ far.same;
      uncounted = search rules;
      many = ap length c.in_ok-push_aircraft.ensures ∙ length_push c.loop-name.fleet.items c.in_ok-aircraft.aircraft ∙ ap (λ n. n + 1) far.many;
      far = grown-now (g.F.Shelf.files c.args.shelf.now) (g.F.Shelf.files c.loop-name.shelf) c.args.names.now c.loop-name.name-index c.name-item.result c.as_str.result.now c.loop-name.fleet.items c.as_slice.result.now c.push_aircraft.new.fleet.items c.in_ok-aircraft.aircraft
          c.loop-name-test.true c.name-item.is c.as_str.ensures.value c.as_slice.ensures.value far.same far.far c.in_ok-aircraft.ensures.described c.in_ok-aircraft.ensures.free c.in_ok-push_aircraft.ensures;
    }
