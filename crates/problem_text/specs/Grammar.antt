-- which lines a task has from some point of its text on
use Rattle.std.specs.Prelude.{◌≡◌, ℕ, List, [], ◌∷◌, ◌++◌, map, Option, Some, None, codes}
use Rattle.hold_parts.specs.declared.parts.Position.{Position}
use Rattle.hold_parts.specs.declared.parts.Lateral.{Lateral}
use Rattle.hold_limits.specs.Problem.{Problem}
use Rattle.text_lines.specs.Stated.{AreLinesOf}
use Rattle.problem_text.specs.TaskText.{exclude_line, combined_line, cumulative_line, lateral_lines, item_line, loose_line, base_line, window_line, ideal_line, IsSpelled}
use Rattle.problem_text.specs.Parts.{AreIndices, last_lines}
use Rattle.problem_text.specs.declared.parts.Version.{Version}
use Rattle.problem_text.specs.declared.parts.Version.TheVariants.{One, Two}

-- the two forms of a task's text, by their first line: the second is that of a task with a lateral limit
abbrev pub version_line : Version → List ℕ
version_line One = codes "TASK 1"
version_line Two = codes "TASK 2"

abbrev pub version_of : Option Lateral → Version
version_of None = One
version_of (Some lateral) = Two

-- the lines from that of the base index on
abbrev pub last_part : Problem → List (List ℕ)
last_part t = base_line t.base ∷ window_line t.low t.high ∷ ideal_line t.ideal_low t.ideal_high ∷ codes "END" ∷ []

-- from those of the loose loads, of the containers, of the lateral limit, and of the other limits on
abbrev pub loose_part : List Position → Problem → List (List ℕ)
loose_part ps t = map (loose_line ps) t.loose ++ last_part t

abbrev pub item_part : List Position → Problem → List (List ℕ)
item_part ps t = map item_line t.items ++ loose_part ps t

abbrev pub lateral_part : List Position → Problem → List (List ℕ)
lateral_part ps t = lateral_lines ps t.hold.lateral ++ item_part ps t

abbrev pub cumulative_part : List Position → Problem → List (List ℕ)
cumulative_part ps t = map (cumulative_line ps) t.hold.cumulative ++ lateral_part ps t

abbrev pub combined_part : List Position → Problem → List (List ℕ)
combined_part ps t = map (combined_line ps) t.hold.combined ++ cumulative_part ps t

abbrev pub limit_part : List Position → Problem → List (List ℕ)
limit_part ps t = map (exclude_line ps) t.hold.excludes ++ combined_part ps t

-- a task whose text has this version, and that has these positions
pub record IsTaskOf (version : Version) (ps : List Position) (t : Problem) : Type 0 where
  pub spelled : IsSpelled t
  pub version_is : version_of t.hold.lateral ≡ version
  pub positions_are : t.hold.positions ≡ ps

-- these are all lines of some such task from behind those of its positions on
abbrev pub AreLimits : Version → List Position → List (List ℕ) → Type 0
AreLimits version ps = AreLinesOf (IsTaskOf version ps) (limit_part ps)

-- from behind those of the cumulative limits on
abbrev pub AreLateral : Version → List Position → List (List ℕ) → Type 0
AreLateral version ps = AreLinesOf (IsTaskOf version ps) (lateral_part ps)

-- and from the line of the base index on
abbrev pub AreLast : List (List ℕ) → Type 0
AreLast = AreLinesOf AreIndices last_lines
