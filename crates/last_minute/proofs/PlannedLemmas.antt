-- which flights have a balance
use Rattle.std.proofs.Common.{◌≡◌, ℕ, true≢false, [], length, Option, Some, None, refl, sym, ap, ◌∙◌}
use Rattle.std.specs.Prelude.{option_map, unwrap_or, IfSome, IsSome}
use Rattle.arrayvec.specs.ArrayVec.{ArrayVec}
use Rattle.aircraft_file.specs.Craft.{Craft}
use Rattle.trim.specs.Refusals.{CanBeWeighed}
use Rattle.flight_state.specs.Effective.{effective}
use Rattle.flight_state.specs.declared.state.FlightState.{FlightState}
use Rattle.flight_row.specs.Loading.{HasRow, KeepsPlan, StillHolds}
use Rattle.last_minute.specs.Planned.{path_of, HasBalance}

-- what a plan that still holds says of its flight
planned : (a : Craft) (s : FlightState) (plan : Option (ArrayVec ℕ)) → s.plan ≡ plan → IsSome plan → IfSome plan (λ (p : ArrayVec ℕ). StillHolds a s p.items)
    → (length (path_of s) ≡ length s.base.containers) × CanBeWeighed a (effective s)
planned a s None is some holds = absurd (true≢false (sym some))
planned a s (Some p) is some holds =
    (ap (λ (o : Option (ArrayVec ℕ)). length (unwrap_or (option_map (λ (path : ArrayVec ℕ). path.items) o) [])) is ∙ holds.complete, holds.weighed)

-- a flight with a plan has a balance where it has a row and its plan still holds
pub has_balance : (a : Craft) (s : FlightState) → IsSome s.plan → HasRow a s → KeepsPlan a s → HasBalance a s
has_balance a s some row keeps =
    let of_plan = planned a s s.plan refl some keeps in
    record { limits = row.limits; plan = some; complete = of_plan.0; weighed = of_plan.1 }
