use Rattle.std.proofs.Common.{rules, ◌≡◌, ◌++◌, ◌∷◌, ◌+◌, refl, List, [], ℕ, map, drop, ap, sym, ◌∙◌, arith}
use Rattle.std.proofs.lemmas.List.{append-nil, drop_all}
use Rattle.position_set.specs.declared.set.PositionSet.{PositionSet}
use Rattle.position_set.specs.Sets.{members}
use Rattle.price_trees.specs.Narrowing.{fixed}
use Rattle.hold_choices.proofs.ChoiceLemmas.{fixed-more}
use Rattle.hold_choices.proofs.choices.Choices.fixed.Goals as goal

pub push-requires : goal.push-requires
push-requires c = (search rules, omega (arith, c.sets-own.ensures.few, c.loop-rank-test.true, c.loop-rank.invariant.count))

pub loop-rank-preserved : goal.loop-rank-preserved
loop-rank-preserved c =
    let own : List PositionSet = c.sets-own.result.now in
    let prefix : List ℕ = c.args.prefix.now in
    let rank : ℕ = c.loop-rank.rank in
    record {
      count = omega (arith, c.push.ensures.len, c.loop-rank.invariant.count);
      so_far = ap (λ (xs : List PositionSet). map members xs ++ fixed (drop (rank + 1) prefix) (map members (drop (rank + 1) own))) c.push.ensures.items
          ∙ fixed-more prefix own rank record { 0 = 0 } c.fixed_at.result c.loop-rank.sets.items c.loop-rank-test.true c.fixed_at.ensures c.loop-rank.invariant.so_far;
    }

none-fixed : (prefix : List ℕ) → fixed prefix [] ≡ []
none-fixed [] = refl
none-fixed (q ∷ prefix) = refl

pub returns : goal.returns
returns c =
    let own : List PositionSet = c.sets-own.result.now in
    let rank : ℕ = c.loop-rank.rank in
    let left = map members c.loop-rank.sets.items in
    let rest = drop rank c.args.prefix.now in
    let end : drop rank own ≡ [] = drop_all rank own (omega (arith, c.loop-rank-test.false)) in
    sym (ap (λ (xs : List PositionSet). left ++ fixed rest (map members xs)) end ∙ ap (λ xs. left ++ xs) (none-fixed rest) ∙ append-nil left)
    ∙ c.loop-rank.invariant.so_far
    ∙ ap (fixed c.args.prefix.now) c.sets-own.ensures.sets
