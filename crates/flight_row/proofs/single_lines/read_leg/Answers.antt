use Rattle.std.proofs.Common.{◌≡◌, ◌∷◌, [], ◌∙◌, sym, ap, codes}
use Rattle.text_lines.specs.Lines.{line_of}
use Rattle.aircraft_file.specs.Spellings.{is_registration}
use Rattle.flight_state.specs.Spellings.{is_flight_name, is_day, is_station}
use Rattle.flight_row.specs.Words.{words_in}
use Rattle.flight_row.proofs.WordLemmas.{line_of-words, next_is, no_word}
use Rattle.flight_row.proofs.LineLemmas.{words_are}
use Rattle.flight_row.proofs.LegLemmas.{leg_words, is_spelled, not_spelled}
use Rattle.flight_row.proofs.single_lines.read_leg.Goals as goal

pub returns-in_err-flight-clause-none : goal.returns-in_err-flight-clause-none
returns-in_err-flight-clause-none c =
    rw c.from_residual-in_err-flight.ensures (λ x s e.
    let said = next_is c.in_ok-next.ensures.found (next_is c.in_ok-keyword.ensures.found (c.of-words.ensures ∙ words_are leg_words c.args.line.now x s e)).1 in
    not_spelled is_flight_name c.in_ok-next.field-0.now x.flight c.in_err-flight.ensures said.0 s.flight)

pub returns-in_err-next-2-clause-none : goal.returns-in_err-next-2-clause-none
returns-in_err-next-2-clause-none c =
    rw c.from_residual-in_err-next-2.ensures (λ x s e.
    let said = next_is c.in_ok-next.ensures.found (next_is c.in_ok-keyword.ensures.found (c.of-words.ensures ∙ words_are leg_words c.args.line.now x s e)).1 in
    no_word c.in_err-next-2.ensures.none said.1)

pub returns-in_err-day-clause-none : goal.returns-in_err-day-clause-none
returns-in_err-day-clause-none c =
    rw c.from_residual-in_err-day.ensures (λ x s e.
    let said = next_is c.in_ok-next-2.ensures.found (next_is c.in_ok-next.ensures.found (next_is c.in_ok-keyword.ensures.found (c.of-words.ensures ∙ words_are leg_words c.args.line.now x s e)).1).1 in
    not_spelled is_day c.in_ok-next-2.field-0.now x.day c.in_err-day.ensures said.0 s.day)

pub returns-in_err-next-3-clause-none : goal.returns-in_err-next-3-clause-none
returns-in_err-next-3-clause-none c =
    rw c.from_residual-in_err-next-3.ensures (λ x s e.
    let said = next_is c.in_ok-next-2.ensures.found (next_is c.in_ok-next.ensures.found (next_is c.in_ok-keyword.ensures.found (c.of-words.ensures ∙ words_are leg_words c.args.line.now x s e)).1).1 in
    no_word c.in_err-next-3.ensures.none said.1)

pub returns-in_err-registration-clause-none : goal.returns-in_err-registration-clause-none
returns-in_err-registration-clause-none c =
    rw c.from_residual-in_err-registration.ensures (λ x s e.
    let said = next_is c.in_ok-next-3.ensures.found (next_is c.in_ok-next-2.ensures.found (next_is c.in_ok-next.ensures.found (next_is c.in_ok-keyword.ensures.found (c.of-words.ensures ∙ words_are leg_words c.args.line.now x s e)).1).1).1 in
    not_spelled is_registration c.in_ok-next-3.field-0.now x.registration c.in_err-registration.ensures said.0 s.registration)

pub returns-in_err-next-4-clause-none : goal.returns-in_err-next-4-clause-none
returns-in_err-next-4-clause-none c =
    rw c.from_residual-in_err-next-4.ensures (λ x s e.
    let said = next_is c.in_ok-next-3.ensures.found (next_is c.in_ok-next-2.ensures.found (next_is c.in_ok-next.ensures.found (next_is c.in_ok-keyword.ensures.found (c.of-words.ensures ∙ words_are leg_words c.args.line.now x s e)).1).1).1 in
    no_word c.in_err-next-4.ensures.none said.1)

pub returns-in_err-origin-clause-none : goal.returns-in_err-origin-clause-none
returns-in_err-origin-clause-none c =
    rw c.from_residual-in_err-origin.ensures (λ x s e.
    let said = next_is c.in_ok-next-4.ensures.found (next_is c.in_ok-next-3.ensures.found (next_is c.in_ok-next-2.ensures.found (next_is c.in_ok-next.ensures.found (next_is c.in_ok-keyword.ensures.found (c.of-words.ensures ∙ words_are leg_words c.args.line.now x s e)).1).1).1).1 in
    not_spelled is_station c.in_ok-next-4.field-0.now x.origin c.in_err-origin.ensures said.0 s.origin)

pub returns-in_err-next-5-clause-none : goal.returns-in_err-next-5-clause-none
returns-in_err-next-5-clause-none c =
    rw c.from_residual-in_err-next-5.ensures (λ x s e.
    let said = next_is c.in_ok-next-4.ensures.found (next_is c.in_ok-next-3.ensures.found (next_is c.in_ok-next-2.ensures.found (next_is c.in_ok-next.ensures.found (next_is c.in_ok-keyword.ensures.found (c.of-words.ensures ∙ words_are leg_words c.args.line.now x s e)).1).1).1).1 in
    no_word c.in_err-next-5.ensures.none said.1)

pub returns-in_err-destination-clause-none : goal.returns-in_err-destination-clause-none
returns-in_err-destination-clause-none c =
    rw c.from_residual-in_err-destination.ensures (λ x s e.
    let said = next_is c.in_ok-next-5.ensures.found (next_is c.in_ok-next-4.ensures.found (next_is c.in_ok-next-3.ensures.found (next_is c.in_ok-next-2.ensures.found (next_is c.in_ok-next.ensures.found (next_is c.in_ok-keyword.ensures.found (c.of-words.ensures ∙ words_are leg_words c.args.line.now x s e)).1).1).1).1).1 in
    not_spelled is_station c.in_ok-next-5.field-0.now x.destination c.in_err-destination.ensures said.0 s.destination)

pub returns-in_err-end-clause-none : goal.returns-in_err-end-clause-none
returns-in_err-end-clause-none c =
    rw c.from_residual-in_err-end.ensures (λ x s e.
    let said = next_is c.in_ok-next-5.ensures.found (next_is c.in_ok-next-4.ensures.found (next_is c.in_ok-next-3.ensures.found (next_is c.in_ok-next-2.ensures.found (next_is c.in_ok-next.ensures.found (next_is c.in_ok-keyword.ensures.found (c.of-words.ensures ∙ words_are leg_words c.args.line.now x s e)).1).1).1).1).1 in
    c.in_err-end.ensures.none said.1)

pub returns-clause-found : goal.returns-clause-found
returns-clause-found c =
    let flight = is_spelled is_flight_name c.in_ok-next.field-0.now c.in_ok-flight.flight c.in_ok-flight.ensures in
    let day = is_spelled is_day c.in_ok-next-2.field-0.now c.in_ok-day.day c.in_ok-day.ensures in
    let registration = is_spelled is_registration c.in_ok-next-3.field-0.now c.in_ok-registration.registration c.in_ok-registration.ensures in
    let origin = is_spelled is_station c.in_ok-next-4.field-0.now c.in_ok-origin.origin c.in_ok-origin.ensures in
    let destination = is_spelled is_station c.in_ok-next-5.field-0.now c.in_ok-destination.destination c.in_ok-destination.ensures in
    let is : words_in c.args.line.now ≡ codes "leg" ∷ c.in_ok-flight.flight ∷ c.in_ok-day.day ∷ c.in_ok-registration.registration ∷ c.in_ok-origin.origin ∷ c.in_ok-destination.destination ∷ [] =
    cc (c.of-words.ensures, c.in_ok-keyword.ensures.found, c.in_ok-next.ensures.found, c.in_ok-next-2.ensures.found, c.in_ok-next-3.ensures.found, c.in_ok-next-4.ensures.found, c.in_ok-next-5.ensures.found, flight.1, day.1, registration.1, origin.1, destination.1, c.in_ok-end.ensures.found) in
    (record { flight = flight.0; day = day.0; registration = registration.0; origin = origin.0; destination = destination.0 }, sym (line_of-words c.args.line.now) ∙ ap line_of is)
