-- what late changes change is what passengers and loose loads weigh
use Rattle.std.proofs.Common.{◌≡◌, ℕ, ◌+◌, ℤ, pos, ◌+ℤ◌, ◌-ℤ◌, List, ap, arith, zip}
use Rattle.std.proofs.lemmas.Int.{ints}
use Rattle.base_words.specs.Lists.{int_sum_by}
use Rattle.mass_limits.specs.Masses.{zero_fuel_mass}
use Rattle.payload.specs.Load.{cabin_mass, cabin_index}
use Rattle.hold_limits.specs.BranchOrder.{ordered}
use Rattle.hold_limits.specs.Placement.{placed_moment, loose_moment, placed}
use Rattle.hold_parts.specs.declared.parts.Item.{Item}
use Rattle.aircraft_file.specs.Craft.{Craft}
use Rattle.trim.specs.declared.figures.Figures.{Figures}
use Rattle.trim.specs.Balance.{mass_input, zero_fuel_index}
use Rattle.trim.specs.Loads.{container_mass, loose_mass, loose_loads, offer}
use Rattle.flight_state.proofs.LimitLemmas.{AreSameParts}

-- the masses of passengers and loose loads of a flight, and their index
abbrev pub moved_mass : Craft → Figures → ℕ
moved_mass a f = cabin_mass a.averages f.cabin + loose_mass (loose_loads a f)

abbrev pub moved_index : Craft → Figures → ℤ
moved_index a f = cabin_index a.averages a.zones f.cabin +ℤ int_sum_by (loose_moment a.hold) (loose_loads a f)

-- the dry aircraft and the containers cancel
pub net_mass : (a : Craft) (f g : Figures) → AreSameParts f g
    → pos (zero_fuel_mass (mass_input a g)) -ℤ pos (zero_fuel_mass (mass_input a f)) ≡ pos (moved_mass a g) -ℤ pos (moved_mass a f)
net_mass a f g same =
    let dry : g.dry.mass.0 ≡ f.dry.mass.0 = ap (λ dry. dry.mass.0) same.dry in
    let items : container_mass g.containers ≡ container_mass f.containers = ap container_mass same.containers in
    omega (arith, ints, dry, items)

pub net_index : (a : Craft) (f g : Figures) (path : List ℕ) → AreSameParts f g
    → zero_fuel_index a g path -ℤ zero_fuel_index a f path ≡ moved_index a g -ℤ moved_index a f
net_index a f g path same =
    let dry : g.dry.index.0 ≡ f.dry.index.0 = ap (λ dry. dry.index.0) same.dry in
    let items : int_sum_by (placed_moment a.hold) (placed (offer a g) path) ≡ int_sum_by (placed_moment a.hold) (placed (offer a f) path) =
    ap (λ (items : List Item). int_sum_by (placed_moment a.hold) (zip (ordered items) path)) same.containers in
    omega (arith, ints, dry, items)
