use Rattle.std.proofs.Common.{◌≡◌, ◌≤◌, ◌*◌, take}
use Rattle.plan_answers.specs.ReplyText.{total_mass}
use Rattle.plan_answers.proofs.summary_jobs.total_mass.Given as goal

abbrev pub invariant-loop-item : goal.invariant-loop-item
invariant-loop-item l = record {
  sum : l.total ≡ total_mass (take l.item-index l.items);
  few : l.total ≤ 20000 * l.item-index;
}
