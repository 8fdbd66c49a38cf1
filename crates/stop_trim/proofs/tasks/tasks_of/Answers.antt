use Rattle.std.proofs.Common.{◌≡◌, ◌∙◌, ap, sym, true, subst, ◌++◌, ◌∷◌, [], List, length, arith, not}
use Rattle.std.proofs.lemmas.Result.{err_from_is_err_and}
use Rattle.std.proofs.lemmas.List.{length_push}
use Rattle.std.specs.Result.{is_ok}
use Rattle.hold_limits.specs.Problem.{Problem}
use Rattle.stop_trim.specs.Sectors.{AreTasksAt}
use Rattle.stop_trim.proofs.TaskLemmas.{tasks-push, next-refused}
use Rattle.stop_trim.proofs.tasks.tasks_of.Goals as goal

pub returns-in_err-task-clause-refused : goal.returns-in_err-task-clause-refused
returns-in_err-task-clause-refused c =
    let p = err_from_is_err_and c.from_residual.result c.from_residual.ensures.1 in
    rw (p.1, p.2) (next-refused c.args.a.now c.args.sectors.now c.loop-place.tasks.items c.index-sectors-place.result c.loop-place.place _ c.loop-place.invariant.each c.loop-place.invariant.so_far
    c.loop-place-test.true c.index-sectors-place.is c.in_err-task.ensures.refused)

pub loop-place-preserved : goal.loop-place-preserved
loop-place-preserved c =
    let ok : is_ok c.push.result ≡ true = c.is_err.ensures.negation ∙ ap not c.if-is_err.false in
    let pushed : c.push.new.self.items ≡ c.loop-place.tasks.items ++ c.in_ok-task.task ∷ [] = rw ok at c.push.ensures.items in
    record {
      so_far = ap length pushed ∙ length_push c.loop-place.tasks.items c.in_ok-task.task ∙ omega (arith, c.loop-place.invariant.so_far);
      each = subst (λ (tasks : List Problem). AreTasksAt c.args.a.now c.args.sectors.now tasks) (sym pushed)
          (tasks-push c.args.a.now c.args.sectors.now c.loop-place.tasks.items c.index-sectors-place.result c.in_ok-task.task c.loop-place.invariant.each
          (rw c.loop-place.invariant.so_far c.index-sectors-place.is) c.in_ok-task.ensures.task);
    }
