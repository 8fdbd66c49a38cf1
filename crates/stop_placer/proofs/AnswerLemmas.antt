-- what a search finds is an answer
use Rattle.std.proofs.Common.{◌≡◌, ℕ, List, [], ◌∷◌, Option, Some, None, subst, arith}
use Rattle.std.proofs.lemmas.List.Elements.{All-head, All-weaker}
use Rattle.std.specs.Prelude.{◌↔◌, MatchOption}
use Rattle.certificate.specs.Good.{AreAtMost}
use Rattle.path_search.specs.Promising.{IsPromising}
use Rattle.path_search.specs.Worlds.{HasNone}
use Rattle.stop_tasks.specs.Stops.{Stops}
use Rattle.stop_tasks.specs.StopPaths.{IsStopBest, IsStopNear, IsStopViable}
use Rattle.stop_world.specs.StopWorlds.{stop_world}
use Rattle.stop_world.proofs.SectorLemmas.{admissible-viable}
use Rattle.stop_placer.specs.declared.answer.StopAnswer.{StopAnswer}
use Rattle.stop_placer.specs.declared.answer.StopAnswer.TheVariants.{Best, NoneFits, Budget}
use Rattle.stop_placer.specs.StopAnswers.{IfBest, IfBudget, IfNoneFits, IsStopAnswerTo}

module _ (t : Stops) (budget : ℕ) where
  -- where no prefix is viable, nothing fits
  pub nothing-fits : ((prefix : List ℕ) → IsStopViable t prefix → ⊥) → IsStopAnswerTo t budget NoneFits
  nothing-fits not = record {
    best = tt;
    none = λ path admissible. not path (admissible-viable t path admissible);
    enough = few;
    spent = tt;
    over = tt;
  }
    where
      few : AreAtMost (IsStopNear t) budget
      few [] different near = omega arith
      few (prefix ∷ rest) different near = absurd (not prefix (All-head (IsStopNear t) prefix rest near).viable)

  module _ (near : (prefix : List ℕ) → IsStopNear t prefix ↔ IsPromising (stop_world t) prefix) where
    -- what is said of the claim is so of the answer
    pub claim-answers : (claim : Option (List ℕ)) (answer : StopAnswer) → MatchOption claim (HasNone (stop_world t)) (IsStopBest t) → AreAtMost (IsPromising (stop_world t)) budget
        → IfBest answer (λ path. claim ≡ Some path) → IfNoneFits answer (claim ≡ None) → IfBudget answer (λ _. ⊥) → IsStopAnswerTo t budget answer
    claim-answers claim answer said few = of_answer answer
      where
        few_near : AreAtMost (IsStopNear t) budget
        few_near lists different all = few lists different (All-weaker (IsStopNear t) (IsPromising (stop_world t)) (λ prefix is. (near prefix).0 is) lists all)

        of_answer : (answer : StopAnswer) → IfBest answer (λ path. claim ≡ Some path) → IfNoneFits answer (claim ≡ None) → IfBudget answer (λ _. ⊥) → IsStopAnswerTo t budget answer
        of_answer (Best path) is _ _ = record { best = subst (λ c. MatchOption c (HasNone (stop_world t)) (IsStopBest t)) is said; none = tt; enough = few_near; spent = tt; over = tt }
        of_answer NoneFits _ is _ = record { best = tt; none = subst (λ c. MatchOption c (HasNone (stop_world t)) (IsStopBest t)) is said; enough = few_near; spent = tt; over = tt }
        of_answer (Budget n) _ _ not = absurd not
