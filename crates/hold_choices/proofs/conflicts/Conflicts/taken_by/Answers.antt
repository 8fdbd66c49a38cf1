use Rattle.std.proofs.Common.{◌≡◌, ◌<◌, ◌||◌, ◌==◌, ◌∷◌, [], not, ap, sym, ◌∙◌, arith}
use Rattle.hold_limits.specs.Enumeration.{exclude}
use Rattle.position_set.specs.Sets.{members}
use Rattle.price_trees.specs.Narrowing.{leaves}
use Rattle.hold_choices.proofs.NumberLemmas.{members-below}
use Rattle.hold_choices.proofs.ConflictLemmas.{twice, leaves-unless_one}
use Rattle.hold_choices.proofs.conflicts.Conflicts.taken_by.Goals as goal

pub bounds-self-from : goal.bounds-self-from
bounds-self-from c =
    let below : c.in-Some.number < 64 = members-below c.args.set c.in-Some.number [] c.in-Some.ensures in
    omega (arith, below)

pub returns-in-Some : goal.returns-in-Some
returns-in-Some c = λ p within.
    let hold = c.args.task.now.hold in
    let q = c.from.result in
    let same : c.in-Some.number ≡ q = omega arith in
    let below : c.in-Some.number < 64 = members-below c.args.set c.in-Some.number [] c.in-Some.ensures in
    let is : members c.args.set ≡ q ∷ [] = c.in-Some.ensures ∙ ap (λ n. n ∷ []) same in
    c.requires.taken q p _ (omega (arith, below)) within ∙ sym (twice ((q == p) || exclude hold q p)) ∙ sym (ap (λ qs. not (leaves hold qs p)) is)

pub returns-in-None : goal.returns-in-None
returns-in-None c = λ p within. c.empty.ensures p ∙ sym (ap not (leaves-unless_one c.args.task.now.hold (members c.args.set) p c.in-None.ensures))
