-- the text of a load over several sectors, line by line
use Rattle.std.specs.Prelude.{◌≡◌, ℕ, ◌≤◌, Bool, ◌&&◌, List, [], ◌∷◌, ◌++◌, map, All, Option, Some, None, IfSome, bytes_eq, nat_eq, length, zip, if◌then◌else◌, codes}
use Rattle.std.specs.List.{list_all}
use Rattle.std.specs.Option.{option_map_or}
use Rattle.mass_units.specs.Spelling.{number_text}
use Rattle.hold_parts.specs.declared.parts.Item.{Item}
use Rattle.hold_parts.specs.declared.parts.Position.{Position}
use Rattle.hold_parts.specs.Names.{number_named}
use Rattle.hold_parts.specs.Spellings.{IsName, IsUldId}
use Rattle.hold_limits.specs.Problem.{Problem}
use Rattle.text_lines.specs.Lines.{line_of, text_of}
use Rattle.text_lines.specs.Names.{byte_of}
use Rattle.problem_text.specs.TaskText.{task_lines, IsSpelled}
use Rattle.stop_tasks.specs.Stops.{Stops, stops_of}
use Rattle.stop_text.specs.declared.parts.Leave.{Leave}

-- What the lines say: for containers, by identity, the numbers of their last sectors; pairs of names, where what stands
-- on the second one is behind what stands on the first one, seen from the door; and the task of each of two sectors
-- or of three.
pub record StopFile : Type 0 where
  pub leaves : List Leave
  pub behind : List (List ℕ × List ℕ)
  pub first : Problem
  pub second : Problem
  pub third : Option Problem

-- Lines -------------------------------------------------------------------------------------------

-- `leave ID NUMBER`
abbrev pub leave_line : Leave → List ℕ
leave_line leave = line_of (codes "leave" ∷ leave.id ∷ number_text leave.sector ∷ [])

-- `behind NAME NAME`
abbrev pub behind_line : List ℕ × List ℕ → List ℕ
behind_line pair = line_of (codes "behind" ∷ pair.0 ∷ pair.1 ∷ [])

-- the lines of the third task, where there is one
abbrev pub third_lines : Option Problem → List (List ℕ)
third_lines None = []
third_lines (Some t) = task_lines t

-- the lines of the tasks
abbrev pub sector_lines : StopFile → List (List ℕ)
sector_lines file = task_lines file.first ++ (task_lines file.second ++ third_lines file.third)

-- all lines, in their order
abbrev pub file_lines : StopFile → List (List ℕ)
file_lines file = codes "STOPS 1" ∷ (map leave_line file.leaves ++ (map behind_line file.behind ++ sector_lines file))

-- the identity in its spelling, and the number of a sector
pub record IsSpelledLeave (leave : Leave) : Type 0 where
  pub id : IsUldId leave.id
  pub least : 1 ≤ leave.sector
  pub most : leave.sector ≤ 3

-- both names in their spelling, whether the hold has such positions or not
abbrev pub IsSpelledBehind : List ℕ × List ℕ → Type 0
IsSpelledBehind pair = IsName pair.0 × IsName pair.1

-- each part in its spelling
pub record IsSpelledFile (file : StopFile) : Type 0 where
  pub leaves : All IsSpelledLeave file.leaves
  pub behind : All IsSpelledBehind file.behind
  pub first : IsSpelled file.first
  pub second : IsSpelled file.second
  pub third : IfSome file.third IsSpelled

-- the bytes spell what the file says
pub record Spells (text : List ℕ) (file : StopFile) : Type 0 where
  pub is : text ≡ text_of (file_lines file)
  pub spelled : IsSpelledFile file

-- The load ----------------------------------------------------------------------------------------

-- the tasks of the sectors
abbrev pub third_sector : Option Problem → List Problem
third_sector None = []
third_sector (Some t) = t ∷ []

abbrev pub sectors_of : StopFile → List Problem
sectors_of file = file.first ∷ file.second ∷ third_sector file.third

-- the line names the container
abbrev pub has_id : Item × Leave → Bool
has_id p = bytes_eq p.0.id p.1.id

-- the lines name the containers, each once, in the order of the offer
abbrev pub are_ids : List Item → List Leave → Bool
are_ids items leaves = nat_eq (length items) (length leaves) && list_all has_id (zip items leaves)

-- the numbers of the last sectors, and the one number 0, which no sector has, where the lines name other containers
abbrev pub leaves_of : List Item → List Leave → List ℕ
leaves_of items leaves = if are_ids items leaves then map (λ (leave : Leave). leave.sector) leaves else 0 ∷ []

-- the number of the position with this name, and 255, which no position has, where there is none
abbrev pub place_named : List Position → List ℕ → ℕ
place_named positions name = option_map_or byte_of (number_named positions name) 255

abbrev pub places_named : List Position → List ℕ × List ℕ → ℕ × ℕ
places_named positions pair = (place_named positions pair.0, place_named positions pair.1)

-- the load that the lines say, by the containers and the positions of the first task
abbrev pub stops_of_file : StopFile → Stops
stops_of_file file = stops_of (sectors_of file) (leaves_of file.first.items file.leaves) (map (places_named file.first.hold.positions) file.behind)
