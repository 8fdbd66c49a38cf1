use Rattle.std.proofs.Common.{◌≡◌, ap, ap₂, ◌∙◌, arith, length, List, filter}
use Rattle.hold_parts.specs.declared.parts.Item.{Item}
use Rattle.hold_limits.specs.Layout.{Layout}
use Rattle.hold_limits.specs.Placement.{loose_moment}
use Rattle.hold_limits.specs.Stowage.{stowed}
use Rattle.mass_limits.specs.MassRule.{is_broken, rules}
use Rattle.mass_limits.specs.declared.figures.MassRule.TheVariants as mass
use Rattle.base_words.specs.Lists.{int_sum_by}
use Rattle.trim.specs.Verdicts.{stowed_in, hold_index_in}
use Rattle.trim.proofs.RuleLemmas.{mass-kept}
use Rattle.trim.proofs.rules.verdicts_on.Goals as goal

pub branch_order-order-requires : goal.branch_order-order-requires
branch_order-order-requires c =
    omega (arith, ap length c.as_slice-items.ensures, c.requires.complete, ap length c.as_slice-numbers.ensures.value, c.as_slice-numbers.ensures.fits)

pub returns : goal.returns
returns c =
    let a = c.args.a.now in
    let w = c.args.flight.now in
    let items = c.args.f.now.containers in
    let path = c.args.path.now.items in
    let all : c.stowage_of-stowage.result.items ≡ stowed_in items path w =
    c.stowage_of-stowage.ensures
    ∙ ap₂ (λ (xs : List Item) (ys : List _). stowed xs ys c.as_slice-2.result.now) c.as_slice-items.ensures c.as_slice-numbers.ensures.value
    ∙ ap (stowed items path) c.as_slice-2.ensures.value in
    let hold : c.hold_index_of.result.0 ≡ hold_index_in a items path w =
    c.hold_index_of.ensures.value ∙ ap₂ (λ (h : Layout) (loads : List _). int_sum_by (loose_moment h) loads) c.hold-hold.ensures.value all in
    let b = c.balance_of-balance.ensures in
    let found : c.as_slice-masses.result.now ≡ filter (is_broken w.input a.certified) rules = c.as_slice-masses.ensures.value ∙ rw c.certified.ensures.value at c.broken-found.ensures in
    record {
      ramp = mass-kept w.input a.certified c.as_slice-masses.result.now mass.Ramp c.is_listed.result found c.is_listed.ensures;
      zero_fuel = mass-kept w.input a.certified c.as_slice-masses.result.now mass.ZeroFuel c.is_listed-2.result found c.is_listed-2.ensures;
      take_off = mass-kept w.input a.certified c.as_slice-masses.result.now mass.TakeOff c.is_listed-3.result found c.is_listed-3.ensures;
      landing = mass-kept w.input a.certified c.as_slice-masses.result.now mass.Landing c.is_listed-4.result found c.is_listed-4.ensures;
      regulated = mass-kept w.input a.certified c.as_slice-masses.result.now mass.RegulatedAboveCertified c.is_listed-5.result found c.is_listed-5.ensures;
      zero_fuel_envelope = rw (c.zero_fuel.ensures.value, b.masses, b.zero_fuel, hold) at c.inside.ensures;
      take_off_envelope = rw (c.take_off.ensures.value, b.masses, b.take_off, hold) at c.inside-2.ensures;
      landing_envelope = rw (c.landing.ensures.value, b.masses, b.landing, hold) at c.inside-3.ensures;
      hold = rw (c.hold-hold.ensures.value, c.as_slice-items.ensures, c.as_slice-numbers.ensures.value, all) at c.stands_soundly.ensures;
      lateral = rw (c.hold-hold.ensures.value, all) at c.keeps_lateral_limit.ensures;
    }
