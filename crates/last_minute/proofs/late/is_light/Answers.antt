use Rattle.std.proofs.Common.{◌≡◌, ℕ, ◌≤◌, Option, Some, None, ap₂, sym, ◌∙◌, arith, rules, w16, w32, ℤ}
use Rattle.std.proofs.lemmas.Bool.{le-leb}
use Rattle.std.proofs.lemmas.Bool.Decides.{nat_tests}
use Rattle.std.proofs.lemmas.Int.{to_z-of_z}
use Rattle.std.specs.Prelude.{nat_le, is_some}
use Rattle.std.specs.Option.{SomeIff}
use Rattle.mass_units.specs.declared.Kg.{Kg}
use Rattle.payload.specs.Load.{loose_mass_of, most_loose}
use Rattle.payload.specs.declared.figures.Averages.{Averages}
use Rattle.trim.specs.declared.figures.LooseFigure.{LooseFigure}
use Rattle.flight_state.specs.Effective.{changed_load, load_at}
use Rattle.last_minute.proofs.late.is_light.Goals as goal

within-from_some : (mass : Option Kg) (n most : ℕ) (same : Kg) → SomeIff mass (n ≤ most) same → is_some mass ≡ nat_le n most
within-from_some None n most same none = grind (arith, nat_tests)
within-from_some (Some mass) n most same is = sym (le-leb n most is.0)

pub returns : goal.returns
returns c =
    let load = c.changed_load-load.result in
    let load_is : load ≡ changed_load (load_at c.args.position.now c.args.loads.now) c.args.mass c.args.pieces =
    c.changed_load-load.ensures ∙ ap₂ (λ (mass pieces : ℤ). changed_load (load_at c.args.position.now c.args.loads.now) mass pieces) (to_z-of_z w32 c.args.mass (search rules)) (to_z-of_z w16 c.args.pieces (search rules)) in
    c.is_some.ensures
    ∙ within-from_some c.loose_mass.result (loose_mass_of load.mass.0 load.pieces c.averages.result.now) most_loose _ c.loose_mass.ensures
    ∙ ap₂ (λ (load : LooseFigure) (averages : Averages). nat_le (loose_mass_of load.mass.0 load.pieces averages) most_loose) load_is c.averages.ensures.value
