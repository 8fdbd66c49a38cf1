-- what the plain program says of entries that were all accepted
use Rattle.std.specs.Prelude.{◌≡◌, true, ◌<◌, ◌≤◌, ◌↔◌, ℕ, List, length, map, take, drop}
use Rattle.std.specs.List.{list_any}
use Rattle.trim.specs.declared.figures.Figures.{Figures}
use Rattle.flight_state.specs.Effective.{with_change}
use Rattle.flight_history.specs.declared.entry.Act.{Act}
use Rattle.flight_history.specs.declared.entry.Act.TheVariants.{Set, Late}
use Rattle.flight_history.specs.declared.entry.Entry.{Entry}
use Rattle.flight_history.specs.LastOnes.{since, up_to}
use Rattle.flight_history.specs.Standing.{folds_lates}
use Rattle.flight_history.specs.Step.{replaced}

-- the acts of these entries
abbrev pub acts_in : List Entry → List Act
acts_in entries = map (λ (entry : Entry). entry.act) entries

-- what an act makes of the figures that count
abbrev pub figures_by : Figures → Act → Figures
figures_by f (Set edition told) = replaced f told
figures_by f (Late edition lmc) = with_change f lmc
figures_by f _ = f

-- this many entries come up to the last one at which late changes are folded into the figures
pub record IsLastFold (entries : List Entry) (place : ℕ) : Type 0 where
  pub within : place ≤ length entries
  pub folded : acts_in (take place entries) ≡ up_to folds_lates (acts_in entries)
  pub later : acts_in (drop place entries) ≡ since folds_lates (acts_in entries)
  pub some : (list_any folds_lates (acts_in entries) ≡ true) ↔ (0 < place)
