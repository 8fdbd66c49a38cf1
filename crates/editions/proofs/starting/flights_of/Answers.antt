use Rattle.std.proofs.Common.{List, None, sym, subst, ◌∙◌}
use Rattle.std.proofs.lemmas.List.{take_all}
use Rattle.flight_state.specs.declared.state.FlightState.{FlightState}
use Rattle.flight_state.specs.Legs.{key_of}
use Rattle.editions.specs.Places.{IsPlaceOf}
use Rattle.editions.specs.Sound.{IsSound}
use Rattle.editions.proofs.StartLemmas.{place-free, flights-more, flights-none}
use Rattle.editions.proofs.starting.flights_of.Goals as goal

pub loop-state-init : goal.loop-state-init
loop-state-init c = flights-none c.args.fleet.now c.args.opening.now c.new-flights.result.flights c.new-flights.ensures

pub add_flight-requires-clause-sound : goal.add_flight-requires-clause-sound
add_flight-requires-clause-sound c = subst (λ (s : FlightState). IsSound c.args.fleet.now s) (sym c.state-item.is) (c.requires.sound c.loop-state.state-index c.state-item.result c.loop-state-test.true)

pub add_flight-requires-clause-place : goal.add_flight-requires-clause-place
add_flight-requires-clause-place c = subst (λ (fs : List FlightState). IsPlaceOf fs (key_of c.state-item.result.leg) None) (sym c.loop-state.invariant.0)
    (place-free c.args.opening.now c.loop-state.state-index c.state-item.result c.requires.apart c.loop-state-test.true c.state-item.is)

pub loop-state-preserved : goal.loop-state-preserved
loop-state-preserved c = flights-more c.args.fleet.now c.loop-state.flights.flights c.add_flight.new.flights.flights c.args.opening.now c.loop-state.state-index c.state-item.result c.loop-state.invariant c.loop-state-test.true c.state-item.is c.in_ok-add_flight.ensures

pub returns-clause-same : goal.returns-clause-same
returns-clause-same c = c.loop-state.invariant.0 ∙ take_all c.loop-state.state-index c.args.opening.now c.loop-state-test.false

pub returns-clause-kept : goal.returns-clause-kept
returns-clause-kept c = c.loop-state.invariant.1
