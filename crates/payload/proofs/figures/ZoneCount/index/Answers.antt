-- the product in 64 bits is the zone's index, since its mass and its influence are numbers of 32
use Rattle.std.proofs.Common.{◌≡◌, ◌*◌, ◌^◌, ◌≤◌, ℤ, ◌*ℤ◌, FitsSigned, w32, w64, to_z, of_z, unsigned_abs, rules, subst, sym, ◌∙◌}
use Rattle.std.proofs.lemmas.Int.{to_z-of_z}
use Rattle.payload.specs.Load.{zone_index, zone_mass}
use Rattle.payload.proofs.IndexLemmas.{unsigned_abs-product, product_fits, product_is}
use Rattle.payload.proofs.figures.ZoneCount.index.Goals as goal

influence_fits : (c : goal.After-from) → FitsSigned w32 c.args.zone.now.influence
influence_fits c = search rules

computed : (c : goal.After-from) → to_z w64 c.mass.result *ℤ to_z w64 (of_z w64 c.from.result) ≡ zone_index c.args.averages.now (c.args.self.now, c.args.zone.now)
computed c = product_is _ _ _ _ c.mass.ensures.value c.requires (influence_fits c) c.from.ensures

fits : (c : goal.After-from) → FitsSigned w64 (to_z w64 c.mass.result *ℤ to_z w64 (of_z w64 c.from.result))
fits c = subst (FitsSigned w64) (sym (computed c)) (product_fits _ _ c.requires (influence_fits c))

pub overflow_mul-result : goal.overflow_mul-result
overflow_mul-result c = fits c

pub returns-clause-value : goal.returns-clause-value
returns-clause-value c = to_z-of_z w64 _ (fits c) ∙ computed c

pub returns-clause-bound : goal.returns-clause-bound
returns-clause-bound c =
    let bounded : ℤ → Type 0 = λ z. unsigned_abs z ≤ 2 ^ 31 * zone_mass c.args.averages.now c.args.self.now in
    subst bounded (sym (to_z-of_z w64 _ (fits c) ∙ computed c)) (unsigned_abs-product _ _ (influence_fits c))
