use Rattle.std.proofs.Common.{◌≡◌, ◌∙◌, ◌↔◌, List, ℕ, map, sym, subst, refl}
use Rattle.std.proofs.lemmas.Result.{err_from_is_err_and}
use Rattle.hold_limits.specs.Faults.{IsLawful}
use Rattle.hold_limits.specs.Placement.{IsAdmissible, hold_index}
use Rattle.hold_limits.specs.Problem.{Problem}
use Rattle.ldm_cpm.specs.Reading.{placing_said}
use Rattle.transit_tasks.specs.Joined.{IsJoinedAdmissible, joined_index}
use Rattle.transit_tasks.specs.NewTask.{task_around}
use Rattle.transit_tasks.proofs.JoinedLemmas.{index-joined, same-paths}
use Rattle.transit_tasks.proofs.NewTaskLemmas.{new-is, new-refused, new-right}
use Rattle.transit_tasks.proofs.staying.task_around.Goals as goal

pub returns-in_err-parts-clause-refused : goal.returns-in_err-parts-clause-refused
returns-in_err-parts-clause-refused c =
    let p = err_from_is_err_and c.from_residual.result c.from_residual.ensures.1 in
    rw (p.1, p.2) (λ other. absurd (other refl))

pub returns-in_err-around-clause-refused : goal.returns-in_err-around-clause-refused
returns-in_err-around-clause-refused c =
    let t = c.args.task.now in
    let stay = map placing_said c.args.stay.now in
    let p = err_from_is_err_and c.from_residual-in_err-around.result c.from_residual-in_err-around.ensures.1 in
    let is = new-is t stay c.in_ok-parts.parts.hold c.in_ok-parts.parts.items.items c.in_ok-parts.parts.loose.items _ _ _ _ _
    c.in_ok-parts.ensures.hold c.in_ok-parts.ensures.items c.in_ok-parts.ensures.loose c.base.ensures.value c.low.ensures.value c.high.ensures.value c.ideal_low.ensures.value c.ideal_high.ensures.value in
    rw (p.1, p.2) (λ other. new-refused t stay _ _ c.requires is c.in_err-around.ensures.refused)

made : (c : goal.In_ok-around) → c.in_ok-around.around ≡ task_around c.args.task.now (map placing_said c.args.stay.now)
made c =
    c.in_ok-around.ensures.made
    ∙ new-is c.args.task.now (map placing_said c.args.stay.now) c.in_ok-parts.parts.hold c.in_ok-parts.parts.items.items c.in_ok-parts.parts.loose.items _ _ _ _ _
    c.in_ok-parts.ensures.hold c.in_ok-parts.ensures.items c.in_ok-parts.ensures.loose c.base.ensures.value c.low.ensures.value c.high.ensures.value c.ideal_low.ensures.value c.ideal_high.ensures.value

pub returns-clause-made : goal.returns-clause-made
returns-clause-made c = made c

pub returns-clause-right : goal.returns-clause-right
returns-clause-right c = new-right c.args.task.now (map placing_said c.args.stay.now) c.requires (subst IsLawful (made c) c.in_ok-around.ensures.lawful)

pub returns-clause-admissible : goal.returns-clause-admissible
returns-clause-admissible c =
    let t = c.args.task.now in
    let stay = map placing_said c.args.stay.now in
    subst (λ (u : Problem). (path : List ℕ) → IsAdmissible u path ↔ IsJoinedAdmissible t stay path) (sym (made c))
    (same-paths t stay c.requires (subst IsLawful (made c) c.in_ok-around.ensures.lawful))

pub returns-clause-index : goal.returns-clause-index
returns-clause-index c =
    let t = c.args.task.now in
    let stay = map placing_said c.args.stay.now in
    subst (λ (u : Problem). (path : List ℕ) → hold_index u path ≡ joined_index t stay path) (sym (made c)) (index-joined t stay)
