use Rattle.std.proofs.Common.{w64, ap, arith}
use Rattle.std.specs.Prelude.{ℤ, ◌+ℤ◌, ◌-ℤ◌}
use Rattle.std.proofs.lemmas.Int.{ints, to_z-of_z}
use Rattle.assignment.specs.Prices.{price_at}
use Rattle.assignment.specs.Standings.{greatest_cost}
use Rattle.assignment.specs.Tables.{IsWithin}
use Rattle.assignment_draft.specs.Drafts.{place_span}
use Rattle.assignment_draft.specs.Trees.{gap_span}
use Rattle.assignment_draft.proofs.NearNumbers.{fits, read, read-place}
use Rattle.assignment_draft.proofs.search.gap_from.Goals as goal

sum-near : (offset cost : ℤ) → IsWithin 5000000000000 offset → IsWithin greatest_cost cost → IsWithin 5002000000000 (offset +ℤ cost)
sum-near offset cost near small = record { above = omega (arith, ints, near.above, small.above); below = omega (arith, ints, near.below, small.below) }

gap-near : (sum place : ℤ) → IsWithin 5002000000000 sum → IsWithin place_span place → IsWithin gap_span (sum -ℤ place)
gap-near sum place near small = record { above = omega (arith, ints, near.above, small.below); below = omega (arith, ints, near.below, small.above) }

pub overflow_sub-result : goal.overflow_sub-result
overflow_sub-result c =
    let prices = c.args.prices.now in
    let sum = sum-near c.args.offset c.cost.result c.requires.offset c.cost.ensures.near in
    let gap = gap-near _ (price_at prices.places.items c.args.position) sum (c.requires.sound.places c.args.position) in
    rw (
      to_z-of_z w64 c.args.offset c.ranges.offset,
      read greatest_cost c.cost.result (omega arith) c.cost.ensures.near,
      read 5002000000000 (c.args.offset +ℤ c.cost.result) (omega arith) sum,
      c.deref.ensures.0,
      c.from.ensures,
      read-place prices c.requires.sound c.args.position,
    )
    (fits gap_span _ (omega arith) gap)

pub returns : goal.returns
returns c =
    let prices = c.args.prices.now in
    let sum = sum-near c.args.offset c.cost.result c.requires.offset c.cost.ensures.near in
    let gap = gap-near _ (price_at prices.places.items c.args.position) sum (c.requires.sound.places c.args.position) in
    rw (
      to_z-of_z w64 c.args.offset c.ranges.offset,
      read greatest_cost c.cost.result (omega arith) c.cost.ensures.near,
      read 5002000000000 (c.args.offset +ℤ c.cost.result) (omega arith) sum,
      c.deref.ensures.0,
      c.from.ensures,
      read-place prices c.requires.sound c.args.position,
      read gap_span ((c.args.offset +ℤ c.cost.result) -ℤ price_at prices.places.items c.args.position) (omega arith) gap,
    )
    record { gap = ap (λ cost. (c.args.offset +ℤ cost) -ℤ price_at prices.places.items c.args.position) c.cost.ensures.value; near = gap }
