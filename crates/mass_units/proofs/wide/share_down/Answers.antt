use Rattle.std.proofs.Common.{rules, ap, ◌∙◌, ◌≡◌, ◌*ℤ◌, pos}
use Rattle.std.specs.Int.{w128, int_div_euclid}
use mir.Val.{to_z, of_z}
use Rattle.std.proofs.lemmas.Int.{to_z-of_z}
use Rattle.mass_units.proofs.LineLemmas.{quotient_is, share_low, share_high, share_bound}
use Rattle.mass_units.proofs.wide.share_down.Goals as goal

-- what the code divides is the product itself
quotient : (c : goal.After-div_euclid) → to_z w128 (of_z w128 c.div_euclid.result) ≡ int_div_euclid (c.args.n *ℤ pos c.args.part) (pos c.args.whole)
quotient c =
    let n = to_z-of_z w128 c.args.n c.ranges.n in
    let product : to_z w128 (of_z w128 c.product.result) ≡ c.args.n *ℤ pos c.args.part = to_z-of_z w128 c.product.result (search rules) ∙ c.product.ensures.value ∙ ap (λ x. x *ℤ pos c.args.part) n in
    let whole : to_z w128 (of_z w128 c.from.result) ≡ pos c.args.whole = to_z-of_z w128 c.from.result (search rules) ∙ c.from.ensures in
    to_z-of_z w128 c.div_euclid.result (search rules) ∙ c.div_euclid.ensures ∙ ap (λ x. int_div_euclid x (to_z w128 (of_z w128 c.from.result))) product ∙ ap (int_div_euclid (c.args.n *ℤ pos c.args.part)) whole

pub returns-clause-down : goal.returns-clause-down
returns-clause-down c = rw (quotient c) (quotient_is (c.args.n *ℤ pos c.args.part) c.args.whole c.requires.some)

pub returns-clause-low : goal.returns-clause-low
returns-clause-low c =
    rw (quotient c) (λ b below h. share_low c.args.n b c.args.part c.args.whole c.requires.some c.requires.within below h)

pub returns-clause-high : goal.returns-clause-high
returns-clause-high c =
    rw (quotient c) (λ b above h. share_high c.args.n b c.args.part c.args.whole c.requires.some c.requires.within above h)

pub returns-clause-bound : goal.returns-clause-bound
returns-clause-bound c =
    rw (quotient c) (share_bound c.args.n _ c.requires.size (record {
      low = λ b below h. share_low c.args.n b c.args.part c.args.whole c.requires.some c.requires.within below h;
      high = λ b above h. share_high c.args.n b c.args.part c.args.whole c.requires.some c.requires.within above h;
    }))
