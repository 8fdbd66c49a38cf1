use Rattle.std.proofs.Common.{◌≡◌, ◌+◌, ◌≤◌, ap, ◌∙◌, arith, ◌+ℤ◌, unsigned_abs}
use Rattle.std.proofs.lemmas.Int.{ints}
use Rattle.mass_units.specs.declared.Kg.{Kg}
use Rattle.mass_limits.specs.declared.figures.MassInput.{MassInput}
use Rattle.payload.specs.Load.{cabin_mass, cabin_index}
use Rattle.payload.specs.declared.figures.Load.{Load}
use Rattle.trim.specs.Loads.{container_mass, loose_mass, loose_loads}
use Rattle.trim.specs.Balance.{traffic_mass, mass_input, zero_fuel_base}
use Rattle.trim.proofs.WeighingLemmas.{containers-light, masses-fit}
use Rattle.trim.proofs.weighing.weigh.Goals as goal

pub mass_of_containers-containers-requires : goal.mass_of_containers-containers-requires
mass_of_containers-containers-requires c =
    let light = containers-light c.args.f.now c.requires in
    rw c.as_slice-2.ensures (omega (arith, light))

pub overflow_add-traffic : goal.overflow_add-traffic
overflow_add-traffic c =
    let light = containers-light c.args.f.now c.requires in
    let containers : c.mass_of_containers-containers.result ≡ container_mass c.args.f.now.containers = c.mass_of_containers-containers.ensures ∙ ap container_mass c.as_slice-2.ensures in
    omega (arith, light, c.in_ok-cabin.ensures.light)

pub mass_of_loose-requires : goal.mass_of_loose-requires
mass_of_loose-requires c =
    rw c.as_slice-3.ensures.value (omega (arith, c.in_ok-loose.ensures.light))

pub overflow_add-traffic-2 : goal.overflow_add-traffic-2
overflow_add-traffic-2 c =
    let light = containers-light c.args.f.now c.requires in
    let containers : c.mass_of_containers-containers.result ≡ container_mass c.args.f.now.containers = c.mass_of_containers-containers.ensures ∙ ap container_mass c.as_slice-2.ensures in
    let loose : c.mass_of_loose.result ≡ loose_mass c.in_ok-loose.loose.items = c.mass_of_loose.ensures ∙ ap loose_mass c.as_slice-3.ensures.value in
    omega (arith, light, c.in_ok-cabin.ensures.light, c.in_ok-loose.ensures.light)

pub returns-clause-weighed : goal.returns-clause-weighed
returns-clause-weighed c =
    let a = c.args.a.now in
    let f = c.args.f.now in
    let light = containers-light f c.requires in
    let containers : c.mass_of_containers-containers.result ≡ container_mass f.containers = c.mass_of_containers-containers.ensures ∙ ap container_mass c.as_slice-2.ensures in
    let listed = c.as_slice.ensures in
    let loads = rw listed at c.in_ok-loose.ensures.loads in
    let all = rw listed at c.in_ok-loose.ensures.all in
    let told : c.mass_of_loose.result ≡ loose_mass c.in_ok-loose.loose.items = c.mass_of_loose.ensures ∙ ap loose_mass c.as_slice-3.ensures.value in
    let loose : c.mass_of_loose.result ≡ loose_mass (loose_loads a f) = told ∙ ap loose_mass loads in
    let cabin : c.in_ok-cabin.cabin.mass.0 ≡ cabin_mass a.averages f.cabin = ap (λ (l : Load). l.mass.0) c.in_ok-cabin.ensures.load in
    let cabin_at : c.in_ok-cabin.cabin.index.0 ≡ cabin_index a.averages a.zones f.cabin = ap (λ (l : Load). l.index.0) c.in_ok-cabin.ensures.load in
    let traffic : c.in_ok-cabin.cabin.mass.0 + c.mass_of_containers-containers.result + c.mass_of_loose.result ≡ traffic_mass a f = omega arith in
    let few : traffic_mass a f ≤ 2000000000 = omega (arith, light, c.in_ok-cabin.ensures.light, c.in_ok-loose.ensures.light) in
    let input : c.input_of.result ≡ mass_input a f = c.input_of.ensures ∙ ap (λ n. let t : Kg = record { 0 = n } in let m : MassInput = record (mass_input a f) { traffic = t } in m) traffic in
    let zero_fuel : c.sum-zero_fuel_base.result.0 ≡ zero_fuel_base a f = c.sum-zero_fuel_base.ensures ∙ ap (λ z. f.dry.index.0 +ℤ z) cabin_at in
    let dry : unsigned_abs f.dry.index.0 ≤ 1000000000 = c.requires.at in
    let first : c.sum-zero_fuel_base.result.0 ≡ f.dry.index.0 +ℤ c.in_ok-cabin.cabin.index.0 = c.sum-zero_fuel_base.ensures in
    let near : unsigned_abs c.sum-zero_fuel_base.result.0 ≤ 200000000000000 = omega (arith, ints, c.in_ok-cabin.ensures.near) in
    record {
      right = record { fuel = record { take_off = c.in_ok-take_off.ensures.there; landing = c.in_ok-landing.ensures.there }; cabin = c.in_ok-cabin.ensures.right; loose = all };
      input = input;
      zero_fuel = zero_fuel;
      take_off = (c.in_ok-take_off.take_off.0, c.in_ok-take_off.ensures.index, c.sum.ensures ∙ ap (λ z. z +ℤ c.in_ok-take_off.take_off.0) zero_fuel);
      landing = (c.in_ok-landing.landing.0, c.in_ok-landing.ensures.index, c.sum-2.ensures ∙ ap (λ z. z +ℤ c.in_ok-landing.landing.0) zero_fuel);
      loose = loads;
      masses = masses-fit a f c.input_of.result c.requires input few;
      near = record {
        zero_fuel = omega (arith, near);
        take_off = omega (arith, ints, near, c.sum.ensures, c.in_ok-take_off.ensures.bounded);
        landing = omega (arith, ints, near, c.sum-2.ensures, c.in_ok-landing.ensures.bounded);
      };
    }
