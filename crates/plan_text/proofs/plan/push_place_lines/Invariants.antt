use Rattle.std.proofs.Common.{◌≡◌, ◌++◌, take}
use Rattle.hold_limits.specs.Placement.{placed}
use Rattle.text_lines.specs.Lines.{text_of}
use Rattle.plan_text.specs.PlanText.{place_lines}
use Rattle.plan_text.proofs.plan.push_place_lines.Given as goal

abbrev pub invariant-loop-rank : goal.invariant-loop-rank
invariant-loop-rank l = l.out ≡ l.fn.out ++ text_of (place_lines l.task (take l.rank (placed l.task l.path)))
