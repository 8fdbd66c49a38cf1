-- What is found by trees, with the path of the best plan; and what a desk answers.
use Rattle.std.specs.Prelude.{◌≡◌, ◌≢◌, ℕ, ◌<◌, ◌≤◌, List, [], ◌∷◌, ◌++◌, length, codes, Option, MatchOption}
use Rattle.std.specs.Option.{option_map}
use Rattle.arrayvec.specs.ArrayVec.{ArrayVec}
use Rattle.hold_limits.specs.Problem.{Problem}
use Rattle.hold_limits.specs.Placement.{IsBest}
use Rattle.plan_text.specs.PlanText.{one_line}
use Rattle.placer.specs.AnswerText.{claim_text}
use Rattle.task_answers.specs.declared.reply.Outcome.{Outcome}
use Rattle.task_answers.specs.declared.reply.Outcome.TheVariants.{Done, Undecided}
use Rattle.task_answers.specs.declared.reply.TreePlacing.{TreePlacing}
use Rattle.task_answers.specs.Limits.{longest_answer}
use Rattle.task_answers.specs.TreeReply.{IsTreePlacing}

-- the path is the best one, and there is one exactly where the outcome is a plan
abbrev pub HasPath : Problem → Outcome → Option (List ℕ) → Type 0
HasPath t outcome path = MatchOption path (outcome ≢ Done) (λ (best : List ℕ). (outcome ≡ Done) × IsBest t best)

-- the placement of a task by a search with so many looks, with the path of its plan
pub record IsTreePlacingOf (t : Problem) (looks : ℕ) (path : Option (List ℕ)) (outcome : Outcome) (text : List ℕ) : Type 0 where
  pub placing : IsTreePlacing t looks outcome text
  pub has_path : HasPath t outcome path

-- the same, as the program keeps it
abbrev pub IsFound : Problem → ℕ → TreePlacing → Type 0
IsFound t looks found = IsTreePlacingOf t looks (option_map (λ (path : ArrayVec ℕ). path.items) found.path) found.reply.outcome found.reply.text.items

-- a plan, or `NONE`, and then `END` in place of a certificate
abbrev pub short_text : Problem → Option (List ℕ) → List ℕ
short_text t path = claim_text t path ++ one_line (codes "END" ∷ [])

-- what a desk answers to the question for the best plan: its path, where there is one, and the text
pub data IsBestAnswer (t : Problem) (looks : ℕ) : Option (List ℕ) → List ℕ → Type 0 where
  -- the text of the placement, where it is not too long
  whole : (path : Option (List ℕ)) (outcome : Outcome) (text : List ℕ) → IsTreePlacingOf t looks path outcome text
      → length text ≤ longest_answer → IsBestAnswer t looks path text
  -- else the text without its certificate
  short : (path : Option (List ℕ)) (outcome : Outcome) (text : List ℕ) → IsTreePlacingOf t looks path outcome text
      → longest_answer < length text → outcome ≢ Undecided → IsBestAnswer t looks path (short_text t path)
