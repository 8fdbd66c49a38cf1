-- the text of an answer over several sectors
use Rattle.std.specs.Prelude.{ℕ, ◌+◌, ℤ, List, [], ◌∷◌, ◌++◌, codes}
use Rattle.mass_units.specs.Spelling.{number_text, index_text}
use Rattle.hold_limits.specs.Placement.{placed, take_off_index}
use Rattle.hold_limits.specs.Problem.{Problem}
use Rattle.text_lines.specs.Lines.{line_of, text_of}
use Rattle.plan_text.specs.PlanText.{one_line, place_lines, balance_lines}
use Rattle.placer.specs.AnswerText.{budget_text}
use Rattle.stop_tasks.specs.Stops.{Stops, leaves_in_order}
use Rattle.stop_tasks.specs.StopPaths.{part_of}
use Rattle.stop_placer.specs.declared.answer.StopAnswer.{StopAnswer}
use Rattle.stop_placer.specs.declared.answer.StopAnswer.TheVariants.{Best, NoneFits, Budget}

-- `sector NUMBER INDEX`: a later sector, and its take-off index
abbrev pub sector_line : ℕ → ℤ → List ℕ
sector_line number index = line_of (codes "sector" ∷ number_text number ∷ index_text index ∷ [])

-- a line for each of these sectors, of which the first one has this number: the take-off index with what is still aboard.
-- The containers, in branch order, have these last sectors
abbrev pub sector_lines : List ℕ → List ℕ → ℕ → List Problem → List (List ℕ)
sector_lines last path number [] = []
sector_lines last path number (sector ∷ later) =
    sector_line number (take_off_index sector (part_of last number path)) ∷ sector_lines last path (number + 1) later

-- A plan over sectors: the containers with their positions, in branch order; the take-off index of the first sector and
-- its distance from the ideal; the take-off index of each later sector.
abbrev pub stop_plan_lines : List Problem → List ℕ → List ℕ → List (List ℕ)
stop_plan_lines [] leaves path = []
stop_plan_lines (first ∷ later) leaves path =
    (codes "PLAN" ∷ []) ++ place_lines first (placed first path) ++ balance_lines first path
    ++ sector_lines (leaves_in_order first.items leaves) path 2 later ++ (codes "END" ∷ [])

-- the plan of a path
abbrev pub stop_plan_text : Stops → List ℕ → List ℕ
stop_plan_text t path = text_of (stop_plan_lines t.sectors t.leaves path)

-- what is said where no path is admissible
abbrev pub none_text : List ℕ
none_text = one_line (codes "NONE" ∷ [])

abbrev pub stop_answer_text : Stops → StopAnswer → List ℕ
stop_answer_text t (Best path) = stop_plan_text t path.items
stop_answer_text t NoneFits = none_text
stop_answer_text t (Budget n) = budget_text n
