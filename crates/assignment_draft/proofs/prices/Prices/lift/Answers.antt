use Rattle.std.proofs.Common.{w64, refl, arith}
use Rattle.std.specs.Prelude.{◌+ℤ◌}
use Rattle.std.proofs.Math.ListN.{length-set}
use Rattle.std.proofs.lemmas.Int.{ints, to_z-of_z}
use Rattle.assignment.specs.Prices.{price_at}
use Rattle.assignment.specs.Tables.{IsWithin}
use Rattle.assignment.proofs.Refills.{refill-whole}
use Rattle.assignment_draft.specs.Drafts.{item_span}
use Rattle.assignment_draft.proofs.NearNumbers.{read, read-item}
use Rattle.assignment_draft.proofs.PriceSteps.{moved-item}
use Rattle.assignment_draft.proofs.prices.Prices.lift.Goals as goal

pub returns : goal.returns
returns c =
    let prices = c.args.self.now in
    let number = c.args.number in
    let item = c.requires.sound.items number in
    let near : IsWithin item_span (price_at prices.items.items number +ℤ c.args.by) =
    record { above = omega (arith, ints, item.above, c.requires.not_down); below = c.requires.room } in
    rw (
      c.deref_mut.ensures.value,
      c.from.ensures,
      read-item prices c.requires.sound number,
      to_z-of_z w64 c.args.by c.ranges.by,
      read item_span (price_at prices.items.items number +ℤ c.args.by) (omega arith) near,
      refill-whole prices.items.items _ (length-set prices.items.items number (price_at prices.items.items number +ℤ c.args.by)),
    )
    record {
      moved = moved-item prices number (price_at prices.items.items number +ℤ c.args.by) c.requires.sound c.requires.number near c.requires.bound;
      places = refl;
      items = refl;
    }
