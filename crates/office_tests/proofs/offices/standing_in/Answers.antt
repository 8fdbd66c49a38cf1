use Rattle.std.proofs.Common.{refl, ◌≡◌, true, sym, subst}
use Rattle.flight_state.specs.declared.state.FlightState.{FlightState}
use Rattle.flight_state.specs.Effective.{can_add_all}
use Rattle.office_tests.proofs.offices.standing_in.Goals as goal

pub standing_after-requires : goal.standing_after-requires
standing_after-requires c = subst (λ (s : FlightState). can_add_all s.base s.lmcs ≡ true) (sym c.new_flight-opened.ensures.value) refl
