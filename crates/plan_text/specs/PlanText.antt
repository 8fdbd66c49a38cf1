-- the text of a plan
use Rattle.std.specs.Prelude.{ℕ, pos, List, [], ◌∷◌, ◌++◌, map, codes}
use Rattle.std.specs.Option.{option_map_or}
use Rattle.mass_units.specs.Spelling.{signed_text, index_text}
use Rattle.hold_parts.specs.declared.parts.Lateral.{Lateral}
use Rattle.hold_limits.specs.Layout.{Layout, name_at}
use Rattle.hold_limits.specs.Problem.{Problem}
use Rattle.hold_limits.specs.Placement.{Placed, placed, take_off_index, distance, lateral_difference}
use Rattle.text_lines.specs.Lines.{line_of, text_of}

-- a line of these words
abbrev pub one_line : List (List ℕ) → List ℕ
one_line words = text_of (line_of words ∷ [])

-- `place ID NAME`: a container and its position
abbrev pub place_line : Layout → Placed → List ℕ
place_line hold p = line_of (codes "place" ∷ p.0.id ∷ name_at hold.positions p.1 ∷ [])

abbrev pub place_lines : Problem → List Placed → List (List ℕ)
place_lines t containers = map (place_line t.hold) containers

-- `lateral DIFFERENCE`, in kilograms, where the hold has a lateral limit
abbrev pub difference_lines : Problem → List ℕ → List (List ℕ)
difference_lines t path =
    option_map_or (λ (limit : Lateral). line_of (codes "lateral" ∷ signed_text (lateral_difference t path) ∷ []) ∷ []) t.hold.lateral []

-- the take-off index, and its distance from the ideal
abbrev pub balance_lines : Problem → List ℕ → List (List ℕ)
balance_lines t path =
    line_of (codes "index" ∷ index_text (take_off_index t path) ∷ []) ∷ line_of (codes "distance" ∷ index_text (pos (distance t path)) ∷ []) ∷ []

-- a plan: its containers in branch order with their positions, the take-off index, its distance from the ideal, and the
-- lateral difference
abbrev pub plan_lines : Problem → List ℕ → List (List ℕ)
plan_lines t path = (codes "PLAN" ∷ []) ++ place_lines t (placed t path) ++ balance_lines t path ++ difference_lines t path

abbrev pub plan_text : Problem → List ℕ → List ℕ
plan_text t path = text_of (plan_lines t path)
