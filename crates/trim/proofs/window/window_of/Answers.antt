use Rattle.std.proofs.Common.{◌∙◌, ap}
use Rattle.std.specs.Int.{int_max, int_min}
use Rattle.trim.proofs.window.window_of.Goals as goal

pub returns-clause-window : goal.returns-clause-window
returns-clause-window c = record {
  rooms = record { zero_fuel = c.in-Some.zero_fuel; take_off = c.in-Some-room_in.take_off; landing = c.in-Some-room_in-2.landing };
  rooms_are = record {
    zero_fuel = rw (c.zero_fuel.ensures.value, c.masses-masses.ensures) at c.in-Some.ensures.room;
    take_off = rw (c.take_off.ensures.value, c.masses-masses.ensures) at c.in-Some-room_in.ensures.room;
    landing = rw (c.landing.ensures.value, c.masses-masses.ensures) at c.in-Some-room_in-2.ensures.room;
  };
  low = c.common-2.ensures.low ∙ ap (λ z. int_max z c.in-Some-room_in-2.landing.low.0) c.common.ensures.low;
  high = c.common-2.ensures.high ∙ ap (λ z. int_min z c.in-Some-room_in-2.landing.high.0) c.common.ensures.high;
}
