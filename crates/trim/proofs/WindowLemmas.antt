-- from an envelope's window to the room that it leaves
use Rattle.std.proofs.Common.{◌≡◌, ℕ, ℤ, ◌+ℤ◌, ◌-ℤ◌, ◌≤ℤ◌, arith}
use Rattle.std.proofs.lemmas.Int.{ints}
use Rattle.mass_units.specs.declared.Band.{Band}
use Rattle.envelope.specs.Outline.{Outline, IsInside}
use Rattle.trim.specs.Points.{IsRoom}

pub room-from_window : (o : Outline) (mass : ℕ) (base low high : ℤ) (room : Band) → IsInside o mass low × ((z : ℤ) → IsInside o mass z → low ≤ℤ z) → IsInside o mass high × ((z : ℤ) → IsInside o mass z → z ≤ℤ high)
    → ((z : ℤ) → low ≤ℤ z → z ≤ℤ high → IsInside o mass z) → room.low.0 ≡ low -ℤ base → room.high.0 ≡ high -ℤ base → IsRoom o mass base room
room-from_window o mass base low high room least greatest between low_is high_is =
    let ends : low ≤ℤ high = least.1 high greatest.0 in
    record {
      some = omega (arith, ints);
      exactly = λ z. (
        λ inside.
            let above : low ≤ℤ (base +ℤ z) = least.1 (base +ℤ z) inside in
            let below : (base +ℤ z) ≤ℤ high = greatest.1 (base +ℤ z) inside in
            (omega (arith, ints), omega (arith, ints)),
        λ within.
            let over : room.low.0 ≤ℤ z = within.0 in
            let under : z ≤ℤ room.high.0 = within.1 in
            between (base +ℤ z) (omega (arith, ints)) (omega (arith, ints)),
      );
    }
