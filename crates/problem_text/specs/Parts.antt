-- the parts of a task, as its lines state them
use Rattle.std.specs.Prelude.{◌≡◌, ℕ, ◌+◌, List, [], ◌∷◌, ◌++◌, Option, Some, None, codes}
use Rattle.mass_units.specs.Spelling.{IsIndex, IsNumber}
use Rattle.hold_parts.specs.declared.parts.Position.{Position}
use Rattle.hold_parts.specs.declared.parts.Lateral.{Lateral}
use Rattle.hold_parts.specs.declared.parts.Indices.{Indices}
use Rattle.hold_limits.specs.Problem.{Problem, problem_of}
use Rattle.hold_limits.specs.Layout.{layout_under}
use Rattle.problem_text.specs.TaskText.{exclude_line, combined_line, cumulative_line, side_line, lateral_line, item_line, loose_line, base_line, window_line, ideal_line, IsSpelledExclude, IsSpelledCombined, IsSpelledCumulative, IsSpelledSide, IsSpelledItem, IsSpelledLoose}
use Rattle.problem_text.specs.PositionNumbers.{keep_pair, keep_combined, keep_cumulative, keep_side, keep_loose}
use Rattle.text_lines.specs.Sections.{IsSection}
use Rattle.text_lines.specs.declared.lines.Lines.{Lines}
use Rattle.problem_text.specs.declared.parts.Version.{Version}
use Rattle.problem_text.specs.declared.parts.Version.TheVariants.{One, Two}
use Rattle.problem_text.specs.declared.parts.Sections.{Sections}
use Rattle.problem_text.specs.declared.parts.Parts.{Parts}

-- a lateral limit, where the version has one, lies between two points of a text; a point is what is still to be read,
-- with the number of its first line
pub data IsLateral (ps : List Position) (here there : Lines) : Version → Option Lateral → Type 0 where
  absent : here.rest.now ≡ there.rest.now → here.number ≡ there.number → IsLateral ps here there One None
  present : (got : Lateral) (behind : Lines)
      → IsSection (side_line ps) (IsSpelledSide ps) keep_side here.rest.now behind.rest.now here.number behind.number got.sides
      → IsNumber got.most.0 → behind.rest.now ≡ lateral_line got.most.0 ++ 10 ∷ there.rest.now → there.number ≡ behind.number + 1
      → IsLateral ps here there Two (Some got)

-- the sections after the positions lie between two points of a text
pub record AreSections (version : Version) (ps : List Position) (here there : Lines) (got : Sections) : Type 0 where
  pub after_excludes : Lines
  pub after_combined : Lines
  pub after_cumulative : Lines
  pub after_lateral : Lines
  pub after_items : Lines
  pub excludes : IsSection (exclude_line ps) (IsSpelledExclude ps) keep_pair here.rest.now after_excludes.rest.now
      here.number after_excludes.number got.excludes.items
  pub combined : IsSection (combined_line ps) (IsSpelledCombined ps) keep_combined after_excludes.rest.now after_combined.rest.now
      after_excludes.number after_combined.number got.combined.items
  pub cumulative : IsSection (cumulative_line ps) (IsSpelledCumulative ps) keep_cumulative after_combined.rest.now after_cumulative.rest.now
      after_combined.number after_cumulative.number got.cumulative.items
  pub lateral : IsLateral ps after_cumulative after_lateral version got.lateral
  pub items : IsSection item_line IsSpelledItem (λ x. x) after_lateral.rest.now after_items.rest.now after_lateral.number
      after_items.number got.items.items
  pub loose : IsSection (loose_line ps) (IsSpelledLoose ps) keep_loose after_items.rest.now there.rest.now after_items.number
      there.number got.loose.items

-- the indices are in their spelling
pub record AreIndices (at : Indices) : Type 0 where
  pub base : IsIndex at.base.0
  pub low : IsIndex at.window.low.0
  pub high : IsIndex at.window.high.0
  pub ideal_low : IsIndex at.ideal.low.0
  pub ideal_high : IsIndex at.ideal.high.0

-- the last lines of a task with these indices
abbrev pub last_lines : Indices → List (List ℕ)
last_lines at =
    base_line at.base.0 ∷ window_line at.window.low.0 at.window.high.0 ∷ ideal_line at.ideal.low.0 at.ideal.high.0 ∷ codes "END" ∷ []

-- the task with these parts
abbrev pub problem_of_parts : Parts → Problem
problem_of_parts p =
    problem_of (layout_under p.sections.lateral p.positions.items p.sections.excludes.items p.sections.combined.items
    p.sections.cumulative.items) p.sections.items.items p.sections.loose.items p.indices
