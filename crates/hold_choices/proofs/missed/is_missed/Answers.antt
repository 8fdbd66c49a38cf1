use Rattle.std.proofs.Common.{◌≡◌, ℕ, ℤ, ◌+ℤ◌, ◌-ℤ◌, w64, FitsSigned, List, map, take, length, min, ap, sym, subst, ◌∙◌, arith}
use Rattle.std.specs.Prelude.{◌↔◌, IsTrue}
use Rattle.std.proofs.lemmas.Int.{to_z-of_z, fits_signed_from_abs}
use Rattle.std.proofs.lemmas.List.{length-map, take-map}
use Rattle.base_words.specs.Lists.{int_sum_by}
use Rattle.hold_limits.specs.BranchOrder.{ordered}
use Rattle.hold_limits.specs.Placement.{Placed, placed_moment, loose_moment, hold_index}
use Rattle.hold_limits.proofs.BranchOrderLemmas.{length-ordered}
use Rattle.position_set.specs.declared.set.PositionSet.{PositionSet}
use Rattle.position_set.specs.Sets.{members}
use Rattle.price_trees.specs.Prices.{Candidate, Choice, candidates}
use Rattle.price_trees.specs.Narrowing.{IsIn}
use Rattle.price_trees.specs.Trees.{IsMultiple, first}
use Rattle.hold_choices.specs.Narrowed.{ticks_between}
use Rattle.hold_choices.specs.Remainders.{IsCommonDivisor}
use Rattle.hold_choices.proofs.ListLemmas.{zip-take}
use Rattle.hold_choices.proofs.RemainderLemmas.{of-three, missed-is}
use Rattle.hold_choices.proofs.missed.is_missed.Goals as goal

pub returns : goal.returns
returns c =
    let t = c.args.task.now in
    let sets : List PositionSet = c.sets-sets.result.now in
    let all = map members sets in
    let count : ℕ = c.min-count.result in
    let g : ℕ = c.divisor_of.result in
    let index : ℤ = c.hold_index_of-index.result.0 in
    let enough : count ≡ min (length all) (length (ordered t.items)) = omega (arith, c.min-count.ensures, length-map sets members, length-ordered t.items, ap length c.items.ensures.value) in
    let same : candidates t (map members (take count sets)) ≡ candidates t c.args.choice.now =
    ap (candidates t) (sym (take-map members count sets)) ∙ zip-take (ordered t.items) all count enough ∙ ap (candidates t) c.sets-sets.ensures.sets in
    let common : IsCommonDivisor t.hold (candidates t c.args.choice.now) g = subst (λ (cs : List Candidate). IsCommonDivisor t.hold cs g) same c.divisor_of.ensures in
    let path : c.as_slice.result.now ≡ take count (map first all) =
    c.as_slice.ensures.value ∙ c.firsts_of.ensures ∙ ap (map first) (sym (take-map members count sets)) ∙ sym (take-map first count all) in
    let is : index ≡ hold_index t (map first c.args.choice.now) =
    c.hold_index_of-index.ensures.value
    ∙ ap (hold_index t) path
    ∙ ap (λ (ps : List Placed). int_sum_by (placed_moment t.hold) ps +ℤ int_sum_by (loose_moment t.hold) t.loose) (zip-take (ordered t.items) (map first all) count (omega (arith, enough, length-map all first)))
    ∙ ap (λ (choice : Choice). hold_index t (map first choice)) c.sets-sets.ensures.sets in
    let fits : FitsSigned w64 index = fits_signed_from_abs w64 index (omega (arith, c.hold_index_of-index.ensures.bounded)) in
    let tells : IsTrue c.none_leaves.result ↔ ((tick : ℤ) → IsIn (ticks_between c.args.low c.args.high) tick → IsMultiple g (tick -ℤ index) → ⊥) =
    of-three (λ low high index. IsTrue c.none_leaves.result ↔ ((tick : ℤ) → IsIn (ticks_between low high) tick → IsMultiple g (tick -ℤ index) → ⊥)) _ _ _ _ _ _
    (to_z-of_z w64 c.args.low c.ranges.low) (to_z-of_z w64 c.args.high c.ranges.high) (to_z-of_z w64 index fits) c.none_leaves.ensures in
    missed-is t (ticks_between c.args.low c.args.high) c.args.choice.now g index (IsTrue c.none_leaves.result) common is tells
