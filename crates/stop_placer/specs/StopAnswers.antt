-- what an answer over several sectors says
use Rattle.std.specs.Prelude.{◌≡◌, ℕ, List}
use Rattle.certificate.specs.Good.{AreAtMost}
use Rattle.path_search.specs.Promising.{AreMoreThan}
use Rattle.stop_tasks.specs.Stops.{Stops}
use Rattle.stop_tasks.specs.StopPaths.{IsStopAdmissible, IsStopBest, IsStopNear}
use Rattle.stop_placer.specs.declared.answer.StopAnswer.{StopAnswer}
use Rattle.stop_placer.specs.declared.answer.StopAnswer.TheVariants.{Best, NoneFits, Budget}

-- P holds of the path, if the answer is the best path
abbrev pub IfBest : StopAnswer → (List ℕ → Type 0) → Type 0
IfBest (Best path) P = P path.items
IfBest NoneFits P = Unit {0}
IfBest (Budget n) P = Unit {0}

-- P, if the answer is that nothing fits
abbrev pub IfNoneFits : StopAnswer → Type 0 → Type 0
IfNoneFits (Best path) P = Unit {0}
IfNoneFits NoneFits P = P
IfNoneFits (Budget n) P = Unit {0}

-- P, if the answer is one of these
abbrev pub IfAnswered : StopAnswer → Type 0 → Type 0
IfAnswered (Best path) P = P
IfAnswered NoneFits P = P
IfAnswered (Budget n) P = Unit {0}

-- P holds of the number, if the answer is that the budget is spent
abbrev pub IfBudget : StopAnswer → (ℕ → Type 0) → Type 0
IfBudget (Best path) P = Unit {0}
IfBudget NoneFits P = Unit {0}
IfBudget (Budget n) P = P n

-- no path can be unloaded at each stop and is admissible on each sector
abbrev pub HasNoStopPath : Stops → Type 0
HasNoStopPath t = (path : List ℕ) → IsStopAdmissible t path → ⊥

-- What an answer says, where the search had this budget: the best path, or that there is none, and then no more prefixes
-- are near than the budget; or that more are.
pub record IsStopAnswerTo (t : Stops) (budget : ℕ) (answer : StopAnswer) : Type 0 where
  pub best : IfBest answer (IsStopBest t)
  pub none : IfNoneFits answer (HasNoStopPath t)
  pub enough : IfAnswered answer (AreAtMost (IsStopNear t) budget)
  pub spent : IfBudget answer (λ n. n ≡ budget)
  pub over : IfBudget answer (λ n. AreMoreThan (IsStopNear t) n)
