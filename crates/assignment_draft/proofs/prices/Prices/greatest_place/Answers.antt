use Rattle.std.proofs.Common.{ℕ, w64, to_z, sym, ◌∙◌, arith, below_more}
use Rattle.std.specs.Prelude.{ℤ, pos, ◌+ℤ◌, ◌-ℤ◌, ◌≤ℤ◌}
use Rattle.std.proofs.lemmas.Int.{ints}
use Rattle.std.proofs.lemmas.Bool.{false≢true}
use Rattle.assignment.specs.Prices.{price_at}
use Rattle.assignment.specs.Tables.{IsWithin, MayTake, cost_at}
use Rattle.assignment.specs.Standings.{greatest_cost}
use Rattle.assignment.proofs.Bounds.{may-known}
use Rattle.assignment_draft.specs.Drafts.{place_span, table}
use Rattle.assignment_draft.proofs.NearNumbers.{read, read-item}
use Rattle.assignment_draft.proofs.prices.Prices.greatest_place.Goals as goal
use Rattle.assignment_draft.proofs.prices.Prices.greatest_place.Goals.{then-contains, else-contains}

pub loop-number-preserved : goal.loop-number-preserved
unfolding MayTake
loop-number-preserved c =
    let prices = c.args.self.now in
    let costs = table prices.candidates.items prices.influences.items in
    let position = c.args.position in
    let kept = c.loop-number.invariant in
    let k : ℕ = c.loop-number.number in
    let old : ℤ = to_z w64 c.loop-number.greatest-bits in
    elim c.if-contains.branch [
      | then-contains w ↦
          let item = c.requires.sound.items k in
          let most : ℤ = w.cost.result -ℤ price_at prices.items.items k in
          let wide : IsWithin 1004000000000 (w.cost.result -ℤ price_at prices.items.items k) =
          record { above = omega (arith, ints, item.below, w.cost.ensures.near.above); below = omega (arith, ints, item.above, w.cost.ensures.near.below) } in
          let lesser = rw (
            read greatest_cost w.cost.result (omega arith) w.cost.ensures.near,
            w.deref-then-contains.ensures.0,
            read-item prices c.requires.sound k,
            read 1004000000000 (w.cost.result -ℤ price_at prices.items.items k) (omega arith) wide,
          ) at w.lesser-greatest.ensures in
          let may : MayTake costs k position = rw (← c.deref.ensures.0) (sym c.contains.ensures ∙ w.if-contains.true) in
          let allowed = c.requires.sound.lower.lower k position may in
          let at_least : price_at prices.places.items position ≤ℤ w.lesser-greatest.result = lesser.greatest (price_at prices.places.items position) kept.at_least
          (omega (arith, ints, allowed, w.cost.ensures.value)) in
          let at_most : w.lesser-greatest.result ≤ℤ pos 0 = omega (arith, ints, lesser.one, kept.at_most) in
          let place = c.requires.sound.places position in
          let near : IsWithin place_span w.lesser-greatest.result = record { above = omega (arith, ints, place.above, at_least); below = omega (arith, ints, at_most) } in
          rw (w.greatest-is, read place_span w.lesser-greatest.result (omega arith) near) record {
            at_least = at_least;
            at_most = at_most;
            bound = below_more (λ (n : ℕ). MayTake costs n position → (price_at prices.items.items n +ℤ w.lesser-greatest.result) ≤ℤ cost_at costs n position) k
                (λ n below may_too. let before = kept.bound n below may_too in omega (arith, ints, before, lesser.one))
                (λ may_too. omega (arith, ints, lesser.other, w.cost.ensures.value));
          }
      | else-contains w ↦
          rw w.greatest-is record {
            at_least = kept.at_least;
            at_most = kept.at_most;
            bound = below_more (λ (n : ℕ). MayTake costs n position → (price_at prices.items.items n +ℤ to_z w64 c.loop-number.greatest-bits) ≤ℤ cost_at costs n position) k
                kept.bound
                (λ may. absurd (false≢true (sym w.if-contains.false ∙ c.contains.ensures ∙ rw c.deref.ensures.0 may)));
          }
    ]

pub returns-clause-bound : goal.returns-clause-bound
returns-clause-bound c = λ number may.
    let known = may-known (table c.args.self.now.candidates.items c.args.self.now.influences.items) c.requires.sound.ordinary number c.args.position may in
    c.loop-number.invariant.bound number (omega (arith, known.0, c.loop-number-test.false, c.len-number-end.ensures.value)) may
