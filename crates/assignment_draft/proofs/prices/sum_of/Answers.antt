use Rattle.std.proofs.Common.{◌≡◌, ℕ, ◌+◌, ◌*◌, ◌<◌, w64, to_z, List, [], ◌∷◌, ◌++◌, length, take, ap, sym, ◌∙◌, arith}
use Rattle.std.specs.Prelude.{ℤ, pos, ◌+ℤ◌}
use Rattle.std.proofs.lemmas.Int.{ints}
use Rattle.std.proofs.lemmas.List.{take_more}
use Rattle.assignment.specs.Prices.{price_at, total}
use Rattle.assignment.specs.Tables.{IsWithin}
use Rattle.assignment_draft.specs.Drafts.{item_span}
use Rattle.assignment_draft.proofs.NearNumbers.{read}
use Rattle.assignment_draft.proofs.prices.sum_of.Goals as goal

total-push : (prices : List ℤ) (price : ℤ) → total (prices ++ price ∷ []) ≡ total prices +ℤ price
total-push [] price = omega (arith, ints)
total-push (first ∷ prices) price = omega (arith, ints, total-push prices price)

total-more : (prices : List ℤ) (k : ℕ) → k < length prices → total (take (k + 1) prices) ≡ total (take k prices) +ℤ price_at prices k
total-more prices k known = ap total (take_more prices k (pos 0) known) ∙ total-push (take k prices) (price_at prices k)

pub loop-price-preserved : goal.loop-price-preserved
loop-price-preserved c =
    let k = c.loop-price.price-index in
    let prices = c.args.prices.now in
    let kept = c.loop-price.invariant in
    let known : k < length prices = c.loop-price-test.true in
    let price = c.requires.near k in
    let sum : ℤ = to_z w64 c.loop-price.sum-bits in
    let near : IsWithin (item_span * (k + 1)) (sum +ℤ price_at prices k) =
    record { above = omega (arith, ints, price.above, kept.near.above); below = omega (arith, ints, price.below, kept.near.below) } in
    rw (read item_span (price_at prices k) (omega arith) price, read (item_span * (k + 1)) (sum +ℤ price_at prices k) (omega (arith, known, c.requires.few)) near)
    record { total = ap (λ s. s +ℤ price_at prices k) kept.total ∙ sym (total-more prices k known); near = near }
