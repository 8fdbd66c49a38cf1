use Rattle.std.proofs.Common.{◌∷◌, arith}
use Rattle.std.specs.Prelude.{◌+ℤ◌, ◌-ℤ◌}
use Rattle.std.proofs.lemmas.Int.{ints}
use Rattle.assignment.specs.Costs.{MayStand, cost_in}
use Rattle.assignment.specs.Tables.{nobody, IsWithin, cost_at}
use Rattle.assignment.proofs.Ends.{lower-prices}
use Rattle.assignment.proofs.WeakDuality.{lower-bounds}
use Rattle.assignment_draft.specs.Drafts.{table}
use Rattle.assignment_draft.proofs.FirstPlaces.{least-on}
use Rattle.assignment_draft.proofs.NearNumbers.{read}
use Rattle.assignment_draft.proofs.draft.Draft.least_on.Goals as goal

pub returns-then-is_empty-clause-least : goal.returns-then-is_empty-clause-least
returns-then-is_empty-clause-least c =
    let prices = c.self.inside.prices in
    let kept = c.self.invariant in
    rw (← c.self.view_is, read 200000000000000 c.self.inside.total (omega arith) kept.near, kept.together)
    (λ later way. lower-bounds MayStand (cost_in prices.influences.items) prices.candidates.items prices.items.items prices.places.items (c.args.position ∷ later)
    (lower-prices (table prices.candidates.items prices.influences.items) prices.items.items prices.places.items kept.sound.lower) way)

pub returns-clause-least : goal.returns-clause-least
unfolding cost_at
returns-clause-least c =
    let prices = c.self.inside.prices in
    let kept = c.self.invariant in
    let first = c.first_on.ensures.near in
    let cost = c.cost.ensures.near in
    let left : IsWithin 300000000000000 (c.self.inside.total -ℤ c.first_on.result) =
    record { above = omega (arith, ints, kept.near.above, kept.near.below, first.above, first.below); below = omega (arith, ints, kept.near.above, kept.near.below, first.above, first.below) } in
    let near : IsWithin 400000000000000 ((c.self.inside.total -ℤ c.first_on.result) +ℤ c.cost.result) =
    record { above = omega (arith, ints, left.above, cost.above); below = omega (arith, ints, left.below, cost.below) } in
    rw (
      ← c.self.view_is,
      read 200000000000000 c.self.inside.total (omega arith) kept.near,
      read 3000000000000 c.first_on.result (omega arith) first,
      read 300000000000000 _ (omega arith) left,
      read 2000000000 c.cost.result (omega arith) cost,
      read 400000000000000 _ (omega arith) near,
      c.first_on.ensures.prices,
      c.cost.ensures.value,
      kept.together,
    )
    (λ later way. least-on MayStand (cost_in prices.influences.items) c.args.position prices.candidates.items prices.items.items prices.places.items later nobody
    (lower-prices (table prices.candidates.items prices.influences.items) prices.items.items prices.places.items kept.sound.lower) way)
