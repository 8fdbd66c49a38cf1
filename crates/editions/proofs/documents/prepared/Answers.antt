use Rattle.std.proofs.Common.{sym, subst}
use Rattle.trim.specs.declared.figures.Figures.{Figures}
use Rattle.trim.specs.Limits.{KeepsLimits}
use Rattle.flight_state.proofs.LimitLemmas.{effective_keeps}
use Rattle.editions.proofs.documents.prepared.Goals as goal

pub task_of-requires : goal.task_of-requires
task_of-requires c = subst (λ (f : Figures). KeepsLimits f) (sym c.in_ok-figures.ensures) (effective_keeps c.args.state c.requires.limits)
