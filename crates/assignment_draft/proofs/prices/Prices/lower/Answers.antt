use Rattle.std.proofs.Common.{w64, refl, arith}
use Rattle.std.specs.Prelude.{◌-ℤ◌}
use Rattle.std.proofs.Math.ListN.{length-set}
use Rattle.std.proofs.lemmas.Int.{ints, to_z-of_z}
use Rattle.assignment.specs.Prices.{price_at}
use Rattle.assignment.specs.Tables.{IsWithin}
use Rattle.assignment.proofs.Refills.{refill-whole}
use Rattle.assignment_draft.specs.Drafts.{place_span}
use Rattle.assignment_draft.proofs.NearNumbers.{read, read-place}
use Rattle.assignment_draft.proofs.PriceSteps.{moved-place}
use Rattle.assignment_draft.proofs.prices.Prices.lower.Goals as goal

pub returns : goal.returns
returns c =
    let prices = c.args.self.now in
    let position = c.args.position in
    let sign = c.requires.sound.lower.signs position in
    let near : IsWithin place_span (price_at prices.places.items position -ℤ c.args.by) =
    record { above = omega (arith, ints, c.requires.room); below = omega (arith, ints, sign, c.requires.not_up) } in
    rw (
      c.deref_mut.ensures.value,
      c.from.ensures,
      read-place prices c.requires.sound position,
      to_z-of_z w64 c.args.by c.ranges.by,
      read place_span (price_at prices.places.items position -ℤ c.args.by) (omega arith) near,
      refill-whole prices.places.items _ (length-set prices.places.items position (price_at prices.places.items position -ℤ c.args.by)),
    )
    record {
      moved = moved-place prices position (price_at prices.places.items position -ℤ c.args.by) c.requires.sound c.requires.position (omega (arith, ints, sign, c.requires.not_up)) near
          (λ number may. let allowed = c.requires.sound.lower.lower number position may in omega (arith, ints, allowed, c.requires.not_up));
      items = refl;
      places = refl;
    }
