use Rattle.std.proofs.Common.{◌≡◌, ◌<◌, length, get_or, ap, sym, ◌∙◌, arith}
use Rattle.std.proofs.lemmas.List.Sums.{position_or_len_is}
use Rattle.std.proofs.lemmas.Option.{get_or_from_slice_get, slice_get_within}
use borrow.Author.Count.{below_more}
use Rattle.hold_parts.specs.declared.parts.Item.{Item}
use Rattle.hold_parts.specs.Twins.{are_twins}
use Rattle.hold_limits.specs.BranchOrder.{ordered}
use Rattle.hold_limits.proofs.BranchOrderLemmas.{length-ordered}
use Rattle.hold_limits.proofs.task.Task.first_twin.Goals as goal

pub returns-then-is_twin_of : goal.returns-then-is_twin_of
returns-then-is_twin_of c =
    let t = c.args.self.now in
    let item = c.args.item.now in
    let rank = c.loop-rank.rank in
    let other = c.at_rank.result.now in
    let here : get_or (ordered t.items) rank item ≡ other = get_or_from_slice_get (ordered t.items) rank other item c.at_rank.ensures.value in
    let within : rank < length (ordered t.items) = slice_get_within (ordered t.items) rank other c.at_rank.ensures.value in
    sym (position_or_len_is (λ (other : Item). are_twins other item) (ordered t.items) rank item (omega arith) (λ k less. c.loop-rank.invariant k less item)
    (λ _. rw here (sym c.is_twin_of.ensures.value ∙ c.if-is_twin_of.true)))

pub loop-rank-preserved : goal.loop-rank-preserved
loop-rank-preserved c =
    below_more _ _ c.loop-rank.invariant
    (λ (d : Item). rw (get_or_from_slice_get (ordered c.args.self.now.items) c.loop-rank.rank c.at_rank.result.now d c.at_rank.ensures.value) (sym c.is_twin_of.ensures.value ∙ c.if-is_twin_of.false))

pub returns : goal.returns
returns c =
    let t = c.args.self.now in
    let all : length c.items-count.result.now ≡ length (ordered t.items) = ap length c.items-count.ensures.value ∙ sym (length-ordered t.items) in
    sym (position_or_len_is (λ (other : Item). are_twins other c.args.item.now) (ordered t.items) (length c.items-count.result.now) c.args.item.now (omega (arith, all))
    (λ k less. c.loop-rank.invariant k (omega arith) c.args.item.now) (λ less. absurd (omega (arith, all))))
