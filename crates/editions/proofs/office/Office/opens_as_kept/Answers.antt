use Rattle.std.proofs.Common.{List, subst}
use Rattle.aircraft_file.specs.Craft.{Craft}
use Rattle.editions.specs.StartRows.{AreFlightsOf}
use Rattle.editions.proofs.ReopenLemmas.{opens-kept}
use Rattle.editions.proofs.office.Office.opens_as_kept.Goals as goal

pub returns : goal.returns
returns c = rw (← c.self.view_is, ← c.kept.view_is) (λ held tables all same other judged key.
    let old = c.kept.inside in
    let new = c.self.inside in
    let loaded = subst (λ (fleet : List Craft). AreFlightsOf fleet new.rows.items new.opening.items) same c.self.invariant.1 in
    opens-kept old.fleet.items old.rows.items old.opening.items old.history.items old.flights.flights c.kept.invariant.0 held tables.0 tables.1 tables.2 new.rows.items new.opening.items loaded all other judged key)
