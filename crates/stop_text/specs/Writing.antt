-- the file that is written of a load
use Rattle.std.specs.Prelude.{◌≡◌, ℕ, List, map, zip}
use Rattle.hold_parts.specs.declared.parts.Item.{Item}
use Rattle.hold_parts.specs.declared.parts.Position.{Position}
use Rattle.hold_limits.specs.Layout.{name_at}
use Rattle.stop_tasks.specs.Stops.{Stops}
use Rattle.stop_text.specs.StopFile.{StopFile, sectors_of}
use Rattle.stop_text.specs.declared.parts.Leave.{Leave}

-- the container by its identity, and its last sector
abbrev pub leave_of : Item × ℕ → Leave
leave_of p = record { id = p.0.id; sector = p.1 }

-- the containers in the order of the offer, each with its last sector
abbrev pub leaves_said : List Item → List ℕ → List Leave
leaves_said items leaves = map leave_of (zip items leaves)

-- both positions of the pair by their names
abbrev pub names_of : List Position → ℕ × ℕ → List ℕ × List ℕ
names_of positions pair = (name_at positions pair.0, name_at positions pair.1)

-- The file says the load: for each container of the first task, in the order of the offer, its identity and its last
-- sector; each pair by the names of its positions; and the tasks in their order.
pub record IsFileOf (t : Stops) (file : StopFile) : Type 0 where
  pub leaves : file.leaves ≡ leaves_said file.first.items t.leaves
  pub behind : file.behind ≡ map (names_of file.first.hold.positions) t.behind
  pub tasks : sectors_of file ≡ t.sectors
