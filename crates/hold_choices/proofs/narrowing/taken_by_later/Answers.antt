use Rattle.std.proofs.Common.{◌≡◌, ◌+◌, ◌-◌, ◌<◌, ℕ, not, ◌&&◌, ◌||◌, ◌==◌, List, ◌∷◌, map, length, drop, get_or, refl, ap, ap₂, sym, ◌∙◌, arith, Some}
use Rattle.std.specs.Prelude.{slice_get}
use Rattle.std.specs.List.{list_all}
use Rattle.std.proofs.lemmas.List.{length-map, length-set, drop_all}
use Rattle.std.proofs.lemmas.Option.{same_Some, slice_get_within}
use Rattle.hold_limits.specs.BranchOrder.{ordered}
use Rattle.hold_limits.proofs.BranchOrderLemmas.{length-ordered}
use Rattle.position_set.specs.declared.set.PositionSet.{PositionSet}
use Rattle.position_set.specs.Sets.{has, members}
use Rattle.price_trees.specs.Prices.{Candidate, candidates}
use Rattle.price_trees.specs.Narrowing.{leaves_earlier}
use Rattle.hold_limits.specs.Twins.{first_twin}
use Rattle.hold_choices.specs.Passing.{leaves_class_earlier, is_taken}
use Rattle.hold_choices.proofs.ClassLemmas.{length-classes, class-is, class-known}
use Rattle.hold_choices.proofs.ListLemmas.{drop-at, each-set_down, length-zip}
use Rattle.hold_choices.proofs.PassLemmas.{here, class-room, taken-front, taken-earlier, all-earlier}
use Rattle.hold_choices.proofs.narrowing.taken_by_later.Goals as goal

pub bounds-classes-rank : goal.bounds-classes-rank
bounds-classes-rank c =
    let all = length-classes c.args.task.now c.classes-classes.result.now (c.classes-classes.ensures.value ∙ c.requires.conflicts.classes) in
    omega (arith, all, c.requires.few, c.loop-rank-test.true, c.loop-rank.auto.rank)

pub from_class-requires : goal.from_class-requires
from_class-requires c =
    let within : c.loop-rank.rank - 1 < length c.args.sets.now = omega (arith, c.loop-rank-test.true, c.loop-rank.auto.rank) in
    class-room c.args.task.now c.args.sets.now c.classes-classes.result.now (c.loop-rank.rank - 1) (c.classes-classes.ensures.value ∙ c.requires.conflicts.classes) c.classes-classes.ensures.few c.requires.few within

pub bounds-by_later-rank : goal.bounds-by_later-rank
bounds-by_later-rank c =
    let all = length-classes c.args.task.now c.classes-classes.result.now (c.classes-classes.ensures.value ∙ c.requires.conflicts.classes) in
    omega (arith, all, c.classes-classes.ensures.few, c.requires.few, c.loop-rank-test.true, c.loop-rank.auto.rank)

pub add-requires : goal.add-requires
add-requires c =
    let within : c.loop-rank.rank - 1 < length c.args.sets.now = omega (arith, c.loop-rank-test.true, c.loop-rank.auto.rank) in
    class-room c.args.task.now c.args.sets.now c.classes-classes.result.now (c.loop-rank.rank - 1) (c.classes-classes.ensures.value ∙ c.requires.conflicts.classes) c.classes-classes.ensures.few c.requires.few within

pub loop-rank-init : goal.loop-rank-init
loop-rank-init c =
    let t = c.args.task.now in
    let sets = c.args.sets.now in
    let cs = candidates t (map members sets) in
    let count : length cs ≡ length sets = length-zip (ordered t.items) (map members sets) (omega (arith, length-map sets members, c.requires.few, length-ordered t.items)) ∙ length-map sets members in
    record {
      long = refl;
      taken = λ class p in_range within. c.nothing-taken.ensures class p in_range
          ∙ sym (ap (λ (xs : List Candidate). not (list_all (leaves_class_earlier t class p) xs)) (drop_all (length sets) cs (omega (arith, count))));
      each = λ k d from p e there within. absurd (omega (arith, count, from, slice_get_within cs k e there));
    }

pub loop-rank-preserved : goal.loop-rank-preserved
loop-rank-preserved c =
    let t = c.args.task.now in
    let sets = c.args.sets.now in
    let cs = candidates t (map members sets) in
    let rank : ℕ = c.loop-rank.rank - 1 in
    let next : rank + 1 ≡ c.loop-rank.rank = omega (arith, c.loop-rank-test.true) in
    let within : rank < length sets = omega (arith, c.loop-rank-test.true, c.loop-rank.auto.rank) in
    let none : PositionSet = record { 0 = 0 } in
    let h = here t sets rank none c.requires.few within in
    let e : Candidate = (h.item, members (get_or sets rank none)) in
    let classes = c.classes-classes.result.now in
    let tied : classes ≡ map (first_twin t) (ordered t.items) = c.classes-classes.ensures.value ∙ c.requires.conflicts.classes in
    let class : get_or classes rank 0 ≡ first_twin t h.item = class-is t classes rank h.item tied h.there in
    let few = class-known t classes rank h.item tied c.classes-classes.ensures.few h.there in
    let room : rank < length c.loop-rank.by_later = omega (arith, c.loop-rank.invariant.long, within, c.requires.few, length-classes t classes tied, c.classes-classes.ensures.few) in
    record {
      long = length-set c.loop-rank.by_later rank c.from_class.result ∙ c.loop-rank.invariant.long;
      taken = taken-front (leaves_class_earlier t) e (drop c.loop-rank.rank cs) (drop rank cs) c.loop-rank.taken c.add.new.self c.loop-rank.invariant.taken
          (drop-at cs rank e h.candidate ∙ ap (λ n. e ∷ drop n cs) next)
          (λ k p in_range below. c.add.ensures k p in_range
          ∙ ap (λ b. is_taken c.loop-rank.taken k p || b) (ap (λ own. has c.taken_by.result p || ((own == k) && has c.taken_from_earlier_twins-from_twins.result p)) class
          ∙ taken-earlier t k p e (has c.taken_by.result p) (has c.taken_from_earlier_twins-from_twins.result p) (c.taken_by.ensures p below) (c.taken_from_earlier_twins-from_twins.ensures p below)));
      each = each-set_down (λ k (set : PositionSet). (p : ℕ) (e : Candidate) → slice_get cs k ≡ Some e → p < 64 → has set p ≡ not (list_all (leaves_earlier t.hold e.0 p) (drop (k + 1) cs)))
          c.loop-rank.by_later rank c.loop-rank.rank c.from_class.result next room c.loop-rank.invariant.each
          (λ p other there below.
          let same : e ≡ other = same_Some e other (sym h.candidate ∙ there) in
          c.from_class.ensures p
          ∙ c.loop-rank.invariant.taken (get_or classes rank 0) p few below
          ∙ ap (λ k. not (list_all (leaves_class_earlier t k p) (drop c.loop-rank.rank cs))) class
          ∙ ap not (all-earlier t rank h.item p h.there (drop c.loop-rank.rank cs))
          ∙ ap₂ (λ (x : Candidate) n. not (list_all (leaves_earlier t.hold x.0 p) (drop n cs))) same (sym next));
    }

pub returns : goal.returns
returns c = λ rank p e d there within. c.loop-rank.invariant.each rank d (omega (arith, c.loop-rank-test.false)) p e there within
