use Rattle.std.proofs.Common.{◌≡◌, ◌+ℤ◌, ap, ap₂, ◌∙◌, arith, length, List}
use Rattle.hold_parts.specs.declared.parts.Item.{Item}
use Rattle.hold_parts.specs.declared.parts.Loose.{Loose}
use Rattle.hold_limits.specs.Layout.{Layout}
use Rattle.hold_limits.specs.Placement.{hold_index, loose_moment}
use Rattle.hold_limits.specs.Stowage.{stowed}
use Rattle.hold_limits.proofs.StowageLemmas.{moment-stowed}
use Rattle.mass_limits.specs.Masses.{masses_of}
use Rattle.base_words.specs.Lists.{int_sum_by}
use Rattle.trim.specs.Loads.{offer, loose_loads}
use Rattle.trim.proofs.balance.state_of.Goals as goal

pub branch_order-order-requires : goal.branch_order-order-requires
branch_order-order-requires c =
    omega (arith, ap length c.as_slice-items.ensures, c.requires.complete, ap length c.as_slice-numbers.ensures.value, c.as_slice-numbers.ensures.fits)

all-stowed : (c : goal.After-balance_of) → c.stowage_of-stowage.result.items ≡ stowed c.args.f.now.containers c.args.path.now.items (loose_loads c.args.a.now c.args.f.now)
all-stowed c =
    c.stowage_of-stowage.ensures
    ∙ ap₂ (λ (xs : List Item) (ys : List _). stowed xs ys c.as_slice-2.result.now) c.as_slice-items.ensures c.as_slice-numbers.ensures.value
    ∙ ap (stowed c.args.f.now.containers c.args.path.now.items) (c.as_slice-2.ensures.value ∙ c.in_ok-flight.ensures.weighed.loose)

hold-is : (c : goal.After-balance_of) → c.hold_index_of-hold.result.0 ≡ hold_index (offer c.args.a.now c.args.f.now) c.args.path.now.items
hold-is c =
    let a = c.args.a.now in
    c.hold_index_of-hold.ensures.value
    ∙ ap₂ (λ (h : Layout) (loads : List Loose). int_sum_by (loose_moment h) loads) c.hold.ensures.value (all-stowed c)
    ∙ moment-stowed (loose_moment a.hold) (offer a c.args.f.now) c.args.path.now.items

pub returns-clause-balance : goal.returns-clause-balance
returns-clause-balance c =
    let w = c.in_ok-flight.ensures.weighed in
    let b = c.balance_of.ensures in
    record {
      masses = b.masses ∙ ap masses_of w.input;
      underload = rw w.input at b.underload;
      limiting = rw w.input at b.limiting;
      zero_fuel = b.zero_fuel ∙ ap₂ (λ x y. x +ℤ y) w.zero_fuel (hold-is c);
      take_off = (c.in_ok-flight.flight.take_off_base.0, w.take_off, b.take_off ∙ ap (λ z. c.in_ok-flight.flight.take_off_base.0 +ℤ z) (hold-is c));
      landing = (c.in_ok-flight.flight.landing_base.0, w.landing, b.landing ∙ ap (λ z. c.in_ok-flight.flight.landing_base.0 +ℤ z) (hold-is c));
    }
