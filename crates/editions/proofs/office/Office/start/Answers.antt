use Rattle.std.proofs.Common.{refl, ◌≤◌, List, All, length, sym, subst}
use Rattle.std.proofs.lemmas.Result.{err_from_is_err_and}
use Rattle.aircraft_file.specs.Craft.{Craft}
use Rattle.keeper.specs.declared.row.KeptRow.{KeptRow}
use Rattle.keeper.specs.Tables.{AreAllRows, AreInKeyOrder}
use Rattle.editions.specs.Sound.{IsKeptFlight}
use Rattle.editions.specs.StartRows.{AreFlightsOf, IsStartRefused}
use Rattle.editions.proofs.StartLemmas.{office-start, load-refused, rows-refused, tables-start}
use Rattle.editions.proofs.office.Office.start.Goals as goal

pub returns-in_err-rows-clause-refused : goal.returns-in_err-rows-clause-refused
returns-in_err-rows-clause-refused g c =
    let p = err_from_is_err_and c.from_residual.result c.from_residual.ensures.1 in
    rw (p.1, p.2) (load-refused c.args.fleet.items (g.K.Keeper.tables c.args.keeper.now) c.in_err-rows.field-0.0 c.in_err-rows.ensures.refused)

pub starting_flights-requires : goal.starting_flights-requires
starting_flights-requires g c = subst AreInKeyOrder (sym c.deref-2.ensures.value) c.in_ok-rows.ensures.loaded.rising

pub returns-in_err-found-clause-refused : goal.returns-in_err-found-clause-refused
returns-in_err-found-clause-refused g c =
    let p = err_from_is_err_and c.from_residual-in_err-found.result c.from_residual-in_err-found.ensures.1 in
    let fault = c.in_err-found.field-0.0 in
    let refused = subst (λ (fleet : List Craft). IsStartRefused fleet c.in_ok-rows.rows.items fault) c.deref.ensures.value (subst (λ (rows : List KeptRow). IsStartRefused c.deref.result.now rows fault) c.deref-2.ensures.value c.in_err-found.ensures.refused) in
    rw (p.1, p.2) (rows-refused c.args.fleet.items (g.K.Keeper.tables c.args.keeper.now) c.in_ok-rows.rows.items fault c.in_ok-rows.ensures.loaded refused)

pub invariant_of-result : goal.invariant_of-result
invariant_of-result g c =
    let fleet = c.args.fleet.items in
    let rows = c.in_ok-rows.rows.items in
    let opening = c.in_ok-found.found.opening.items in
    let flights = c.in_ok-found.found.flights.flights in
    let all = subst (λ (fs : List Craft). AreFlightsOf fs rows opening) c.deref.ensures.value (subst (λ (rs : List KeptRow). AreFlightsOf c.deref.result.now rs opening) c.deref-2.ensures.value c.in_ok-found.ensures.opened) in
    let kept = subst (λ (fs : List Craft). All (IsKeptFlight fs) flights) c.deref.ensures.value c.in_ok-found.ensures.kept in
    rw c.in_ok-history.ensures.empty (office-start fleet rows opening flights all c.in_ok-found.ensures.same kept, all, c.in_ok-history.ensures.room)

pub returns-clause-started : goal.returns-clause-started
returns-clause-started g c =
    let rows = c.in_ok-rows.rows.items in
    let opening = c.in_ok-found.found.opening.items in
    record {
      of_fleet = refl;
      loaded = c.in_ok-rows.ensures.loaded;
      few = subst (λ (rs : List KeptRow). length rs ≤ 2000) c.deref-2.ensures.value c.in_ok-found.ensures.few;
      opened = subst (λ (fs : List Craft). AreFlightsOf fs rows opening) c.deref.ensures.value (subst (λ (rs : List KeptRow). AreFlightsOf c.deref.result.now rs opening) c.deref-2.ensures.value c.in_ok-found.ensures.opened);
      unasked = c.in_ok-history.ensures.empty;
      reserved = refl;
    }

pub returns-clause-tables : goal.returns-clause-tables
returns-clause-tables g c =
    let rows = c.in_ok-rows.rows.items in
    tables-start (record { fleet = c.args.fleet.items; rows = rows; opening = c.in_ok-found.found.opening.items; history = c.in_ok-history.history.items; spare = c.args.capacity })
    (g.K.Keeper.tables c.load.new.keeper) c.in_ok-history.ensures.empty
    (subst (λ o. AreAllRows o rows) (sym c.in_ok-rows.ensures.same_tables) c.in_ok-rows.ensures.loaded.all)
