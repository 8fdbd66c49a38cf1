-- what a sheet is made of
use Rattle.std.proofs.Common.{◌≡◌, ℕ, ◌≤◌, ap, sym, ◌∙◌, subst, length, Some, []}
use Rattle.std.specs.Prelude.{option_map, unwrap_or}
use Rattle.arrayvec.specs.ArrayVec.{ArrayVec}
use Rattle.aircraft_file.specs.Craft.{Craft}
use Rattle.trim.specs.declared.figures.Dry.{Dry}
use Rattle.flight_state.specs.Effective.{effective, KeepsLimits}
use Rattle.flight_state.specs.declared.state.FlightState.{FlightState}
use Rattle.flight_state.proofs.LimitLemmas.{same_parts}
use Rattle.last_minute.specs.Planned.{HasBalance, path_of}

pub path-is : (s : FlightState) (path : ArrayVec ℕ) → s.plan ≡ Some path → path_of s ≡ path.items
path-is s path is = ap (λ plan. unwrap_or (option_map (λ (p : ArrayVec ℕ). p.items) plan) []) is

pub heavy : (s : FlightState) → KeepsLimits s → 1 ≤ (effective s).dry.mass.0
heavy s k =
    let same = same_parts s.base s.lmcs in
    subst (λ (dry : Dry). 1 ≤ dry.mass.0) (sym same.dry) k.dry

pub complete-effective : (a : Craft) (s : FlightState) (path : ArrayVec ℕ) → HasBalance a s → s.plan ≡ Some path → length path.items ≡ length (effective s).containers
complete-effective a s path has is =
    let same = same_parts s.base s.lmcs in
    sym (ap length (path-is s path is)) ∙ has.complete ∙ sym (ap length same.containers)
