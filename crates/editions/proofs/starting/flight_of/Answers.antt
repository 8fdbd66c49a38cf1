use Rattle.std.proofs.Common.{◌≡◌, ℕ, List, subst}
use Rattle.std.specs.Prelude.{MatchResult}
use Rattle.flight_row.specs.declared.fault.RowFault.TheVariants as row_fault
use Rattle.flight_row.specs.Loading.{Reads}
use Rattle.flight_state.specs.declared.state.FlightState.{FlightState}
use Rattle.editions.specs.Sound.{IsSound}
use Rattle.editions.specs.StartRows.{IsFlightOf}
use Rattle.editions.proofs.StartLemmas.{IsOnly, row-sound, found-under, sound-under, none-under, refused-found, refused-none}
use Rattle.editions.proofs.starting.flight_of.Goals as goal

pub returns-in-Ok-clause-found : goal.returns-in-Ok-clause-found
returns-in-Ok-clause-found c =
    let reads = subst (λ (bytes : List ℕ). Reads c.args.fleet.now bytes c.in-Ok.state) c.as_slice.ensures c.in-Ok.ensures.read in
    found-under c.args.fleet.now c.args.row.now c.in-Ok.state c.under_key.result reads c.under_key.ensures.found

pub returns-in-Ok-clause-sound : goal.returns-in-Ok-clause-sound
returns-in-Ok-clause-sound c =
    let reads = subst (λ (bytes : List ℕ). Reads c.args.fleet.now bytes c.in-Ok.state) c.as_slice.ensures c.in-Ok.ensures.read in
    let sound = row-sound c.args.fleet.now c.args.row.now.bytes c.in-Ok.state reads c.in-Ok.ensures.kept c.aircraft_of-aircraft.ensures.lawful in
    sound-under c.args.fleet.now c.args.row.now c.in-Ok.state c.under_key.result sound c.under_key.ensures.found

pub returns-in-Ok-clause-none : goal.returns-in-Ok-clause-none
returns-in-Ok-clause-none c =
    let only : IsOnly c.args.fleet.now c.args.row.now c.read_row.result = subst (λ (bytes : List ℕ). (s : FlightState) → Reads c.args.fleet.now bytes s → MatchResult c.read_row.result (λ got. got ≡ s) (λ fault. fault ≡ row_fault.NoMemory)) c.as_slice.ensures c.read_row.ensures.complete in
    none-under c.args.fleet.now c.args.row.now c.in-Ok.state c.under_key.result c.read_row.result only c.in-Ok.is c.under_key.ensures.none

pub returns-in-Err-clause-found : goal.returns-in-Err-clause-found
returns-in-Err-clause-found c = refused-found (IsFlightOf c.args.fleet.now c.args.row.now) c.in-Err.fault c.no_flight.result c.no_flight.ensures

pub returns-in-Err-clause-sound : goal.returns-in-Err-clause-sound
returns-in-Err-clause-sound c = refused-found (IsSound c.args.fleet.now) c.in-Err.fault c.no_flight.result c.no_flight.ensures

pub returns-in-Err-clause-none : goal.returns-in-Err-clause-none
returns-in-Err-clause-none c =
    let only : IsOnly c.args.fleet.now c.args.row.now c.read_row.result = subst (λ (bytes : List ℕ). (s : FlightState) → Reads c.args.fleet.now bytes s → MatchResult c.read_row.result (λ got. got ≡ s) (λ fault. fault ≡ row_fault.NoMemory)) c.as_slice.ensures c.read_row.ensures.complete in
    refused-none c.args.fleet.now c.args.row.now c.read_row.result c.in-Err.fault c.no_flight.result only c.in-Err.is c.no_flight.ensures
