use Rattle.std.proofs.Common.{AllPairs, All, sym, subst, ◌∙◌}
use Rattle.std.proofs.lemmas.Result.{err_from_is_err_and}
use Rattle.editions.specs.Sound.{IsSound}
use Rattle.editions.specs.StartRows.{HaveOtherKeys}
use Rattle.editions.proofs.StartLemmas.{keys-apart}
use Rattle.editions.proofs.starting.starting_flights.Goals as goal

pub returns-in_err-opening-clause-refused : goal.returns-in_err-opening-clause-refused
returns-in_err-opening-clause-refused c =
    let p = err_from_is_err_and c.from_residual.result c.from_residual.ensures.1 in
    rw (p.1, p.2) c.in_err-opening.ensures.refused

pub flights_of-requires-clause-sound : goal.flights_of-requires-clause-sound
flights_of-requires-clause-sound c = subst (All (IsSound c.args.fleet.now)) (sym c.deref.ensures.value) c.in_ok-opening.ensures.sound

pub flights_of-requires-clause-apart : goal.flights_of-requires-clause-apart
flights_of-requires-clause-apart c = subst (AllPairs HaveOtherKeys) (sym c.deref.ensures.value)
    (keys-apart c.args.fleet.now c.args.rows.now c.in_ok-opening.opening.items c.requires c.in_ok-opening.ensures.opened)

pub returns-clause-same : goal.returns-clause-same
returns-clause-same c = c.in_ok-flights.ensures.same ∙ c.deref.ensures.value
