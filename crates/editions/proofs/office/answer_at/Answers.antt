use Rattle.std.proofs.Common.{◌≡◌, Option, Some, sym, ap, subst, length, ◌∙◌}
use Rattle.std.specs.Prelude.{IfOk, nat_le}
use Rattle.std.specs.Option.{option_copied}
use Rattle.flight_state.specs.declared.state.FlightState.{FlightState}
use Rattle.flight_row.specs.Loading.{aircraft_of}
use Rattle.editions.specs.Answers.{IsAnswer, IsLawfulAt}
use Rattle.editions.specs.Places.{state_at}
use Rattle.editions.proofs.AnswerLemmas.{answers-in, sounds-in, kept-at, ready-as}
use Rattle.editions.proofs.PlaceLemmas.{state-held}
use Rattle.editions.proofs.office.answer_at.Goals as goal

pub returns-clause-answer : goal.returns-clause-answer
returns-clause-answer c =
    let flights = c.args.flights.now.flights in
    let fleet = c.args.fleet.now in
    let flight = c.at-flight.result.now in
    let found : aircraft_of fleet flight.state.leg ≡ Some c.in-Some-aircraft_of.a.now = sym c.aircraft_of.ensures.found ∙ ap (λ o. option_copied o) c.in-Some-aircraft_of.is in
    let here : state_at flights c.args.place ≡ Some flight.state = ap (state_at flights) c.in-Some.is ∙ state-held flights c.in-Some.i flight c.at-flight.ensures in
    subst (λ (o : Option FlightState). IfOk c.answer_there.result (IsAnswer fleet (nat_le 2000 (length flights)) o c.args.act.now)) (sym here)
    (answers-in fleet (nat_le 2000 (length flights)) c.in-Some-aircraft_of.a.now flight.state c.args.act.now c.answer_there.result found c.answer_there.ensures)

pub returns-clause-sound : goal.returns-clause-sound
returns-clause-sound c lawful =
    let flights = c.args.flights.now.flights in
    let fleet = c.args.fleet.now in
    let flight = c.at-flight.result.now in
    let found : aircraft_of fleet flight.state.leg ≡ Some c.in-Some-aircraft_of.a.now = sym c.aircraft_of.ensures.found ∙ ap (λ o. option_copied o) c.in-Some-aircraft_of.is in
    let here : state_at flights c.args.place ≡ Some flight.state = ap (state_at flights) c.in-Some.is ∙ state-held flights c.in-Some.i flight c.at-flight.ensures in
    let kept = kept-at fleet flights c.in-Some.i flight c.requires.kept c.at-flight.ensures in
    sounds-in fleet c.in-Some-aircraft_of.a.now flight.state c.args.act.now c.answer_there.result found (c.aircraft_of.ensures.lawful c.in-Some-aircraft_of.a.now found) (ready-as fleet flight c.in-Some-aircraft_of.a.now kept found)
    (subst (λ (o : Option FlightState). IsLawfulAt fleet o c.args.act.now) here lawful) c.answer_there.ensures
