-- the masses of a flight are numbers of 32 bits
use Rattle.std.proofs.Common.{◌≡◌, ◌*◌, ◌≤◌, length, arith}
use Rattle.std.proofs.lemmas.List.Sums.{sum_by-le}
use Rattle.mass_limits.specs.declared.figures.MassInput.{MassInput}
use Rattle.mass_limits.specs.Masses.{CanBeWeighed}
use Rattle.hold_parts.specs.declared.parts.Item.{Item}
use Rattle.aircraft_file.specs.Craft.{Craft}
use Rattle.trim.specs.declared.figures.Figures.{Figures}
use Rattle.trim.specs.Limits.{KeepsLimits}
use Rattle.trim.specs.Loads.{container_mass}
use Rattle.trim.specs.Balance.{traffic_mass, mass_input}

pub containers-light : (f : Figures) → KeepsLimits f → container_mass f.containers ≤ 64000000
containers-light f keeps =
    let most : container_mass f.containers ≤ length f.containers * 1000000 = sum_by-le (λ (item : Item). item.mass.0) 1000000 f.containers keeps.masses in
    omega (arith, most, keeps.containers)

pub masses-fit : (a : Craft) (f : Figures) (input : MassInput) → KeepsLimits f → input ≡ mass_input a f → traffic_mass a f ≤ 2000000000 → CanBeWeighed input
masses-fit a f input keeps is light =
    rw is (record {
      trip_on_board = keeps.trip;
      ramp_fits = omega (arith, keeps.dry, keeps.taxi, keeps.take_off, light);
    })
