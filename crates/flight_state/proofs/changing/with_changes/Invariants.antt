use Rattle.std.proofs.Common.{drop}
use Rattle.flight_state.specs.Effective.{with_changes}
use Rattle.flight_state.proofs.ChangeLemmas.{IsLeft}
use Rattle.flight_state.proofs.changing.with_changes.Given as goal

abbrev pub invariant-loop-change : goal.invariant-loop-change
invariant-loop-change l = IsLeft (with_changes l.fn.base l.changes) l.figures (drop l.change-index l.changes)
