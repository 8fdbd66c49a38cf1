use Rattle.std.proofs.Common.{rules, ◌≡◌, List, [], ◌∷◌, map, refl, ap, ◌∙◌, arith}
use Rattle.std.proofs.lemmas.List.{take_all}
use Rattle.std.proofs.lemmas.Option.{slice_get-get_or}
use Rattle.position_set.specs.declared.set.PositionSet.{PositionSet}
use Rattle.position_set.specs.Sets.{members}
use Rattle.price_trees.specs.Trees.{first}
use Rattle.hold_choices.proofs.ListLemmas.{map-more}
use Rattle.hold_choices.proofs.missed.firsts_of.Goals as goal

map-map : (sets : List PositionSet) → map (λ (set : PositionSet). first (members set)) sets ≡ map first (map members sets)
map-map [] = refl
map-map (set ∷ sets) = ap (λ qs. first (members set) ∷ qs) (map-map sets)

pub push-requires : goal.push-requires
push-requires c = (search rules, omega (arith, c.requires, c.loop-set-test.true, c.loop-set.invariant.count))

pub loop-set-preserved : goal.loop-set-preserved
loop-set-preserved c =
    let sets : List PositionSet = c.args.sets.now in
    record {
      count = omega (arith, c.push.ensures.len, c.loop-set.invariant.count);
      items = c.push.ensures.items ∙ map-more (λ (set : PositionSet). first (members set)) sets c.loop-set.set-index _ _ c.first_of.result
          (slice_get-get_or sets c.loop-set.set-index record { 0 = 0 } c.loop-set-test.true) c.loop-set.invariant.items c.first_of.ensures;
    }

pub returns : goal.returns
returns c =
    let sets : List PositionSet = c.args.sets.now in
    c.loop-set.invariant.items ∙ ap (map (λ (set : PositionSet). first (members set))) (take_all c.loop-set.set-index sets (omega (arith, c.loop-set-test.false))) ∙ map-map sets
