-- Loads over several sectors: what is read of them, and their placements.
use Rattle.std.proofs.Common.{◌≡◌, ℕ, ◌≤◌, List, length, sym, ap, subst, ◌∙◌}
use Rattle.std.proofs.lemmas.List.Elements.{All-weaker}
use Rattle.std.specs.Prelude.{All}
use Rattle.hold_limits.specs.Faults.{IsLawful}
use Rattle.hold_limits.specs.Problem.{Problem}
use Rattle.path_search.specs.Promising.{AreMoreThan}
use Rattle.placer.specs.AnswerText.{budget_text}
use Rattle.stop_tasks.specs.Stops.{Stops}
use Rattle.stop_tasks.specs.StopFaults.{AreLawfulStops}
use Rattle.stop_tasks.specs.StopPaths.{IsStopNear}
use Rattle.stop_text.specs.StopFile.{StopFile, Spells, sectors_of, stops_of_file}
use Rattle.stop_text.specs.StopRefusals.{HasNoFault}
use Rattle.stop_placer.specs.StopAnswers.{IsStopAnswerTo}
use Rattle.stop_placer.specs.declared.answer.StopAnswer.{StopAnswer}
use Rattle.stop_placer.specs.declared.answer.StopAnswer.TheVariants.{Best, NoneFits, Budget}
use Rattle.stop_answer.specs.AnswerText.{stop_answer_text}
use Rattle.task_answers.specs.declared.reply.Outcome.TheVariants.{Done, NothingFits, OverBudget}
use Rattle.plan_answers.specs.Outcomes.{stop_outcome}
use Rattle.task_answers.specs.Limits.{longest_task}
use Rattle.plan_answers.specs.StopReply.{IsStopsIn, IsStopPlacing}
use Rattle.plan_answers.specs.StopReply.IsStopPlacing.{plan, nothing_fits, over_budget}

-- what the reader says of a load
abbrev pub IsRead : List ℕ → Stops → Type 0
IsRead bytes t = (file : StopFile) × Spells bytes file × (t ≡ stops_of_file file) × AreLawfulStops t × All IsLawful t.sectors

pub read-stops : (bytes : List ℕ) (t : Stops) → length bytes ≤ longest_task → IsRead bytes t → IsStopsIn bytes t
read-stops bytes t short is = record {
  short = short;
  file = is.0;
  spelled = is.1;
  tasks = All-weaker IsLawful HasNoFault (λ (sector : Problem) lawful. (lawful.hold.right, lawful.right)) (sectors_of is.0)
      (subst (λ (s : Stops). All IsLawful s.sectors) is.2 is.4);
  is = is.2;
  lawful = is.3;
}

pub is-stop-placing : (t : Stops) (budget : ℕ) (answer : StopAnswer) (text : List ℕ) → IsStopAnswerTo t budget answer → text ≡ stop_answer_text t answer
    → IsStopPlacing t budget (stop_outcome answer) text
is-stop-placing t budget (Best path) text to is = subst (IsStopPlacing t budget Done) (sym is) (plan path.items to.best to.enough)
is-stop-placing t budget NoneFits text to is = subst (IsStopPlacing t budget NothingFits) (sym is) (nothing_fits to.none to.enough)
is-stop-placing t budget (Budget n) text to is =
    subst (IsStopPlacing t budget OverBudget) (sym (is ∙ ap budget_text to.spent)) (over_budget (subst (AreMoreThan (IsStopNear t)) to.spent to.over))
