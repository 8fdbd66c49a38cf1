use Rattle.std.proofs.Common.{rules, ◌≡◌, ◌+◌, ℕ, not, ◌&&◌, ◌||◌, ◌==◌, List, [], ◌++◌, map, length, take, drop, get_or, ap, sym, ◌∙◌, arith}
use Rattle.std.specs.List.{list_all}
use Rattle.std.proofs.lemmas.List.{append-nil, length-map, drop_all}
use Rattle.hold_limits.specs.BranchOrder.{ordered}
use Rattle.hold_limits.proofs.BranchOrderLemmas.{length-ordered}
use Rattle.position_set.specs.declared.set.PositionSet.{PositionSet}
use Rattle.position_set.specs.Sets.{has, members}
use Rattle.price_trees.specs.Prices.{Candidate, candidates}
use Rattle.price_trees.specs.Narrowing.{leaves_later, leaves_earlier, left_by}
use Rattle.hold_limits.specs.Twins.{first_twin}
use Rattle.hold_choices.specs.Passing.{leaves_class_later, is_taken}
use Rattle.hold_choices.proofs.ClassLemmas.{length-classes, class-is, class-known}
use Rattle.hold_choices.proofs.ListLemmas.{take-at, length-zip}
use Rattle.hold_choices.proofs.PassLemmas.{here, class-room, taken-behind, taken-later, all-later, left-more, left-is}
use Rattle.hold_choices.proofs.narrowing.left_by_others.Goals as goal

pub bounds-classes-rank : goal.bounds-classes-rank
bounds-classes-rank c =
    let all = length-classes c.args.task.now c.classes-classes.result.now (c.classes-classes.ensures.value ∙ c.requires.conflicts.classes) in
    omega (arith, all, c.requires.few, c.loop-rank-test.true)

pub from_class-requires : goal.from_class-requires
from_class-requires c =
    class-room c.args.task.now c.args.sets.now c.classes-classes.result.now c.loop-rank.rank (c.classes-classes.ensures.value ∙ c.requires.conflicts.classes) c.classes-classes.ensures.few c.requires.few c.loop-rank-test.true

pub bounds-by_later-rank : goal.bounds-by_later-rank
bounds-by_later-rank c =
    let all = length-classes c.args.task.now c.classes-classes.result.now (c.classes-classes.ensures.value ∙ c.requires.conflicts.classes) in
    omega (arith, all, c.classes-classes.ensures.few, c.requires.few, c.loop-rank-test.true)

pub push-requires : goal.push-requires
push-requires c =
    let all = length-classes c.args.task.now c.classes-classes.result.now (c.classes-classes.ensures.value ∙ c.requires.conflicts.classes) in
    (search rules, omega (arith, all, c.classes-classes.ensures.few, c.requires.few, c.loop-rank-test.true, c.loop-rank.invariant.count))

pub add-requires : goal.add-requires
add-requires c =
    class-room c.args.task.now c.args.sets.now c.classes-classes.result.now c.loop-rank.rank (c.classes-classes.ensures.value ∙ c.requires.conflicts.classes) c.classes-classes.ensures.few c.requires.few c.loop-rank-test.true

pub loop-rank-init : goal.loop-rank-init
loop-rank-init c =
    let t = c.args.task.now in
    let cs = candidates t (map members c.args.sets.now) in
    record {
      count = ap length c.new-left.ensures;
      taken = λ class p in_range within. c.nothing-taken.ensures class p in_range;
      so_far = ap (λ (xs : List PositionSet). map members xs ++ left_by t.hold [] cs) c.new-left.ensures;
    }

pub loop-rank-preserved : goal.loop-rank-preserved
loop-rank-preserved c =
    let t = c.args.task.now in
    let sets = c.args.sets.now in
    let cs = candidates t (map members sets) in
    let rank : ℕ = c.loop-rank.rank in
    let none : PositionSet = record { 0 = 0 } in
    let own : PositionSet = get_or sets rank none in
    let h = here t sets rank none c.requires.few c.loop-rank-test.true in
    let e : Candidate = (h.item, members own) in
    let classes = c.classes-classes.result.now in
    let tied : classes ≡ map (first_twin t) (ordered t.items) = c.classes-classes.ensures.value ∙ c.requires.conflicts.classes in
    let class : get_or classes rank 0 ≡ first_twin t h.item = class-is t classes rank h.item tied h.there in
    let few = class-known t classes rank h.item tied c.classes-classes.ensures.few h.there in
    record {
      count = omega (arith, c.push.ensures.len, c.loop-rank.invariant.count);
      taken = taken-behind (leaves_class_later t) e (take rank cs) (take (rank + 1) cs) c.loop-rank.taken c.add.new.self c.loop-rank.invariant.taken
          (take-at cs rank e h.candidate)
          (λ k p in_range below. c.add.ensures k p in_range
          ∙ ap (λ b. is_taken c.loop-rank.taken k p || b) (ap (λ own. has c.taken_by.result p || ((own == k) && has c.taken_from_later_twins-from_twins.result p)) class
          ∙ taken-later t k p e (has c.taken_by.result p) (has c.taken_from_later_twins-from_twins.result p) (c.taken_by.ensures p below) (c.taken_from_later_twins-from_twins.ensures p below)));
      so_far = ap (λ (xs : List PositionSet). map members xs ++ left_by t.hold (take (rank + 1) cs) (drop (rank + 1) cs)) c.push.ensures.items
          ∙ left-more t cs rank h.item own c.difference.result c.loop-rank.left.items h.candidate c.loop-rank.invariant.so_far
          (λ p below. left-is own c.difference.result c.union.result c.from_class.result (get_or c.taken_by_later-by_later.result rank none) p
          (list_all (leaves_later t.hold h.item p) (take rank cs)) (list_all (leaves_earlier t.hold h.item p) (drop (rank + 1) cs))
          (c.difference.ensures p) (c.union.ensures p)
          (c.from_class.ensures p
          ∙ c.loop-rank.invariant.taken (get_or classes rank 0) p few below
          ∙ ap (λ k. not (list_all (leaves_class_later t k p) (take rank cs))) class
          ∙ ap not (all-later t rank h.item p h.there (take rank cs)))
          (c.taken_by_later-by_later.ensures rank p e none h.candidate below));
    }

pub returns : goal.returns
returns c =
    let t = c.args.task.now in
    let sets = c.args.sets.now in
    let cs = candidates t (map members sets) in
    let rank : ℕ = c.loop-rank.rank in
    let left = map members c.loop-rank.left.items in
    let count : length cs ≡ length sets = length-zip (ordered t.items) (map members sets) (omega (arith, length-map sets members, c.requires.few, length-ordered t.items)) ∙ length-map sets members in
    let end : drop rank cs ≡ [] = drop_all rank cs (omega (arith, count, c.loop-rank-test.false)) in
    c.of.ensures ∙ sym (ap (λ (rest : List Candidate). left ++ left_by t.hold (take rank cs) rest) end ∙ append-nil left) ∙ c.loop-rank.invariant.so_far
