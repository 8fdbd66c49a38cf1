use Rattle.std.proofs.Common.{◌∙◌, refl}
use Rattle.std.proofs.lemmas.Result.{err_from_is_err_and}
use Rattle.trim.specs.Refusals.{HasParts}
use Rattle.trim.proofs.TaskLemmas.{parts-are, admissible-is, take_off-is, closed-refused}
use Rattle.trim.proofs.task.task_of.Goals as goal

pub returns-in_err-window-clause-refused : goal.returns-in_err-window-clause-refused
returns-in_err-window-clause-refused c =
    let p = err_from_is_err_and c.from_residual-in_err-window.result c.from_residual-in_err-window.ensures.1 in
    rw (p.1, p.2) (closed-refused c.args.a.now c.args.f.now c.in_ok-flight.flight _ c.in_ok-flight.ensures.weighed c.in_err-window.ensures.closed)

parts : (c : goal.In-Ok-new) → HasParts c.args.a.now c.args.f.now c.in-Ok-new.task
parts c =
    parts-are c.args.a.now c.args.f.now c.in_ok-flight.flight c.in_ok-window.window c.in-Ok.parts.hold c.in-Ok.parts.items.items c.in-Ok.parts.loose.items c.ideal_low.result c.ideal_high.result c.in-Ok-new.task
    c.in_ok-flight.ensures.weighed c.in_ok-window.ensures.window c.in-Ok.ensures.hold c.in-Ok.ensures.items (c.in-Ok.ensures.loose ∙ c.as_slice.ensures.value)
    c.ideal_low.ensures.value c.ideal_high.ensures.value c.in-Ok-new.ensures.made

pub returns-in-Ok-new-clause-task : goal.returns-in-Ok-new-clause-task
returns-in-Ok-new-clause-task c = record {
  weighed = c.in_ok-flight.ensures.weighed.right;
  parts = parts c;
  right = c.in-Ok-new.ensures.lawful.right;
}

pub returns-in-Ok-new-clause-admissible : goal.returns-in-Ok-new-clause-admissible
returns-in-Ok-new-clause-admissible c = admissible-is c.args.a.now c.args.f.now c.in-Ok-new.task (parts c)

pub returns-in-Ok-new-clause-index : goal.returns-in-Ok-new-clause-index
returns-in-Ok-new-clause-index c = take_off-is c.args.a.now c.args.f.now c.in-Ok-new.task (parts c)

pub returns-in-Err-new-clause-refused : goal.returns-in-Err-new-clause-refused
returns-in-Err-new-clause-refused c = (
  c.in_ok-flight.ensures.weighed.right,
  _,
  parts-are c.args.a.now c.args.f.now c.in_ok-flight.flight c.in_ok-window.window c.in-Ok.parts.hold c.in-Ok.parts.items.items c.in-Ok.parts.loose.items c.ideal_low.result c.ideal_high.result _
      c.in_ok-flight.ensures.weighed c.in_ok-window.ensures.window c.in-Ok.ensures.hold c.in-Ok.ensures.items (c.in-Ok.ensures.loose ∙ c.as_slice.ensures.value)
      c.ideal_low.ensures.value c.ideal_high.ensures.value refl,
  c.in-Err-new.ensures.refused,
)
