-- What an answer of the best-first search comes to.
use Rattle.placer.specs.declared.answer.Answer.{Answer}
use Rattle.placer.specs.declared.answer.Answer.TheVariants.{Best, NoneFits, Budget}
use Rattle.task_answers.specs.declared.reply.Outcome.{Outcome}
use Rattle.task_answers.specs.declared.reply.Outcome.TheVariants.{Done, NothingFits, OverBudget}

abbrev pub outcome_of : Answer → Outcome
outcome_of (Best proven) = Done
outcome_of (NoneFits no_plan) = NothingFits
outcome_of (Budget n) = OverBudget
