use Rattle.hold_limits.proofs.LawfulBounds.{hold-bounds, hold-rules, lawful-bounds, task-rules}
use Rattle.hold_limits.proofs.laws.lawful_bounds.Goals as goal

pub returns : goal.returns
returns c = record {
  hold = hold-bounds;
  task = lawful-bounds;
  hold_rules = hold-rules;
  task_rules = task-rules;
  lawful_hold = λ h spelled kept. record { right = (hold-rules h).1 kept; spelled = spelled };
  lawful_task = λ t hold kept. record { hold = hold; right = (task-rules t hold).1 kept };
}
