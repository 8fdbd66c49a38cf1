use Rattle.std.proofs.Common.{◌≡◌, ◌+◌, ℕ, List, map, take, length, slice_index_or, Some, subst, ◌∙◌, arith}
use Rattle.std.specs.Prelude.{◌↔◌, slice_get}
use Rattle.std.specs.Int.{◌∣◌}
use Rattle.std.proofs.lemmas.List.{length-map, take_all}
use Rattle.std.proofs.lemmas.List.Elements.{All-nil}
use Rattle.std.proofs.lemmas.Nat.Gcd.{dvd-zero}
use Rattle.hold_parts.specs.declared.parts.Item.{Item}
use Rattle.hold_limits.specs.BranchOrder.{ordered}
use Rattle.hold_limits.specs.Layout.{Layout}
use Rattle.hold_limits.proofs.BranchOrderLemmas.{length-ordered}
use Rattle.position_set.specs.declared.set.PositionSet.{PositionSet}
use Rattle.position_set.specs.Sets.{members}
use Rattle.price_trees.specs.Prices.{Candidate, candidates}
use Rattle.hold_choices.specs.Remainders.{LeaveOne, IsCommonDivisor}
use Rattle.hold_choices.proofs.ListLemmas.{zip-at, take-at, length-zip}
use Rattle.hold_choices.proofs.PassLemmas.{map-get}
use Rattle.hold_choices.proofs.RemainderLemmas.{containers-more}
use Rattle.hold_choices.proofs.missed.divisor_of.Goals as goal

pub loop-rank-init : goal.loop-rank-init
loop-rank-init c = λ d. (λ _. All-nil (LeaveOne c.args.task.now.hold d), λ _. dvd-zero d)

pub loop-rank-preserved : goal.loop-rank-preserved
loop-rank-preserved c = λ d.
    let t = c.args.task.now in
    let sets : List PositionSet = c.args.sets.now in
    let cs = candidates t (map members sets) in
    let rank : ℕ = c.loop-rank.rank in
    let none : PositionSet = record { 0 = 0 } in
    let item : Item = c.at_rank.result.now in
    let e : Candidate = (item, members (slice_index_or sets rank none)) in
    let there : slice_get cs rank ≡ Some e = zip-at (ordered t.items) (map members sets) rank item (members (slice_index_or sets rank none)) c.at_rank.ensures.value (map-get sets rank none c.loop-rank-test.true) in
    let more : (d ∣ c.divisor_with-divisor.result) ↔ ((d ∣ c.loop-rank.divisor) × LeaveOne t.hold d e) =
    subst (λ (h : Layout). (d ∣ c.divisor_with-divisor.result) ↔ ((d ∣ c.loop-rank.divisor) × LeaveOne h d e)) c.hold.ensures.value (c.divisor_with-divisor.ensures d) in
    containers-more (LeaveOne t.hold d) (take rank cs) (take (rank + 1) cs) e (d ∣ c.loop-rank.divisor) (d ∣ c.divisor_with-divisor.result) (take-at cs rank e there) (c.loop-rank.invariant d) more

pub returns : goal.returns
returns c =
    let t = c.args.task.now in
    let sets : List PositionSet = c.args.sets.now in
    let cs = candidates t (map members sets) in
    let count : length cs ≡ length sets = length-zip (ordered t.items) (map members sets) (omega (arith, length-map sets members, c.requires, length-ordered t.items)) ∙ length-map sets members in
    subst (λ (xs : List Candidate). IsCommonDivisor t.hold xs c.loop-rank.divisor) (take_all c.loop-rank.rank cs (omega (arith, count, c.loop-rank-test.false))) c.loop-rank.invariant
