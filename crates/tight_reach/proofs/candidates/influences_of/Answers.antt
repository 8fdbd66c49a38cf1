use Rattle.std.proofs.Common.{rules, ◌≡◌, ℕ, ℤ, pos, w32, w64, to_z, of_z, length, ap, ◌∙◌, arith}
use Rattle.std.proofs.lemmas.Int.{to_z-of_z}
use Rattle.hold_limits.specs.Placement.{influence_at}
use Rattle.hold_partial.proofs.TableLemmas.{each-push}
use Rattle.assignment_prices.specs.Steps.{counted_from}
use Rattle.tight_reach.proofs.Crossing.{beyond-counted}
use Rattle.tight_reach.proofs.candidates.influences_of.Goals as goal

pub loop-number-preserved : goal.loop-number-preserved
loop-number-preserved c =
    let P : ℕ → ℤ → Type 0 = λ q x. x ≡ counted_from c.args.end (influence_at c.args.hold.now q) in
    let number = c.loop-number.number in
    let influence : to_z w64 (of_z w64 c.from.result) ≡ influence_at c.args.hold.now number =
    to_z-of_z w64 c.from.result (search rules) ∙ c.from.ensures ∙ to_z-of_z w32 c.influence_at.result (search rules) ∙ c.influence_at.ensures in
    let here : P number (to_z w64 (of_z w64 c.count.result)) = to_z-of_z w64 c.count.result (search rules) ∙ c.count.ensures ∙ ap (counted_from c.args.end) influence in
    record {
      count = omega (arith, c.push.ensures.len, c.loop-number.invariant.count);
      each = rw c.push.ensures.items (each-push P c.loop-number.influences.items number (to_z w64 (of_z w64 c.count.result)) c.loop-number.invariant.count c.loop-number.invariant.each here);
    }

pub returns : goal.returns
returns c =
    let hold = c.args.hold.now in
    let influences = c.loop-number.influences.items in
    let count : length influences ≡ length hold.positions = omega (arith, c.loop-number.invariant.count, c.loop-number-test.false, c.loop-number.auto.number-end, c.position_count-number-end.ensures.value) in
    record { count = count; each = beyond-counted hold c.args.end influences count (λ q within. c.loop-number.invariant.each q (pos 0) (omega (arith, within, count, c.loop-number.invariant.count))) }
