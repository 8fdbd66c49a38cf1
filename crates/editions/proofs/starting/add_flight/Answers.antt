use Rattle.std.proofs.Common.{refl, ◌≡◌, ℕ, List, [], ◌∷◌, ◌++◌, None, Some, sym, ap, subst, ◌∙◌}
use Rattle.std.specs.Option.{option_copied}
use Rattle.flight_row.specs.Loading.{aircraft_of, HasRow}
use Rattle.flight_state.specs.declared.state.FlightState.{FlightState}
use Rattle.flight_state.specs.Legs.{key_of}
use Rattle.editions.specs.declared.flights.Flight.{Flight}
use Rattle.editions.specs.Places.{states, IsPlaceOf, IsReserved}
use Rattle.editions.specs.Sound.{IsTaskAnswer}
use Rattle.editions.proofs.AnswerLemmas.{found-there}
use Rattle.editions.proofs.ReasonLemmas.{none-from}
use Rattle.editions.proofs.SettleLemmas.{sound-as, kept-flight, place-kept, room-kept}
use Rattle.editions.proofs.starting.add_flight.Goals as goal

pub unreachable-requires : goal.unreachable-requires
unreachable-requires c = found-there c.args.fleet.now c.args.state.now c.requires.sound (sym (ap (λ o. option_copied o) (none-from c.aircraft_of.result c.in_default.not-Some)) ∙ c.aircraft_of.ensures.found)

pub prepared-requires : goal.prepared-requires
prepared-requires c =
    let found : aircraft_of c.args.fleet.now c.args.state.now.leg ≡ Some c.in-Some.a.now = sym c.aircraft_of.ensures.found ∙ ap (λ o. option_copied o) c.in-Some.is in
    let ready = sound-as c.args.fleet.now c.args.state.now c.in-Some.a.now c.requires.sound found in
    subst (λ (s : FlightState). HasRow c.in-Some.a.now s) (sym c.in_ok-copy.ensures.cases) ready.row

pub reserve-requires : goal.reserve-requires
reserve-requires c = subst (λ (k : List ℕ). IsPlaceOf (states c.args.flights.now.flights) k None) (sym c.of-key.ensures) c.requires.place

pub put-requires-clause-place : goal.put-requires-clause-place
put-requires-clause-place c =
    let state = c.in_ok-flight.ensures.state ∙ c.in_ok-copy.ensures.cases in
    place-kept c.args.flights.now.flights c.reserve.new.self.flights (key_of c.args.state.now.leg) None c.args.state.now c.in_ok-flight.flight c.reserve.ensures.same state refl c.requires.place

pub put-requires-clause-room : goal.put-requires-clause-room
put-requires-clause-room c =
    let state = c.in_ok-flight.ensures.state ∙ c.in_ok-copy.ensures.cases in
    room-kept c.reserve.new.self (key_of c.args.state.now.leg) None c.args.state.now c.in_ok-flight.flight state refl (subst (IsReserved c.reserve.new.self) c.of-key.ensures c.in_ok-reserve.ensures.reserved)

pub returns : goal.returns
returns c =
    let found : aircraft_of c.args.fleet.now c.args.state.now.leg ≡ Some c.in-Some.a.now = sym c.aircraft_of.ensures.found ∙ ap (λ o. option_copied o) c.in-Some.is in
    let state = c.in_ok-flight.ensures.state ∙ c.in_ok-copy.ensures.cases in
    let task = subst (λ (s : FlightState). IsTaskAnswer c.in-Some.a.now s c.in_ok-flight.flight.task) c.in_ok-copy.ensures.cases c.in_ok-flight.ensures.task in (
      c.in_ok-flight.flight,
      state,
      kept-flight c.args.fleet.now c.in-Some.a.now c.args.state.now c.in_ok-flight.flight c.requires.sound found state task,
      c.put.ensures ∙ ap (λ (fs : List Flight). fs ++ c.in_ok-flight.flight ∷ []) c.reserve.ensures.same,
    )
