-- how an office starts
use Rattle.std.specs.Prelude.{◌≡◌, ℕ, ◌≤◌, List, [], length, Option}
use Rattle.aircraft_file.specs.Craft.{Craft}
use Rattle.keeper.specs.declared.row.KeptRow.{KeptRow}
use Rattle.keeper.specs.Tables.{Tables, AreAllRows, AreInKeyOrder}
use Rattle.editions.specs.Books.{Books}
use Rattle.editions.specs.StartRows.{AreFlightsOf, IsStartRefused}
use Rattle.editions.specs.declared.starting.StartFault.{StartFault}
use Rattle.editions.specs.declared.starting.StartFault.TheVariants.{Keeper, BadTable, TooMany, NoMemory}

-- the rows of the keeper's tables, where it exposes them, in the order of their keys
pub record AreLoaded (held : Option Tables) (rows : List KeptRow) : Type 0 where
  pub all : AreAllRows held rows
  pub rising : AreInKeyOrder rows

-- an office of these rows, before its first request
pub record IsStarted (fleet : List Craft) (capacity : ℕ) (held : Option Tables) (b : Books) : Type 0 where
  pub of_fleet : b.fleet ≡ fleet
  pub loaded : AreLoaded held b.rows
  pub few : length b.rows ≤ 2000
  pub opened : AreFlightsOf fleet b.rows b.opening
  pub unasked : b.history ≡ []
  pub reserved : b.spare ≡ capacity

-- why nothing was loaded: the keeper failed, or memory ran out
abbrev pub IsLoadFault : StartFault → Type 0
IsLoadFault Keeper = Unit {0}
IsLoadFault NoMemory = Unit {0}
IsLoadFault _ = ⊥

-- why no office starts: the keeper failed, the loaded rows make none, or memory ran out
abbrev pub IsRefusedStart : List Craft → Option Tables → StartFault → Type 0
IsRefusedStart fleet held Keeper = Unit {0}
IsRefusedStart fleet held (BadTable key) = (rows : List KeptRow) × AreLoaded held rows × IsStartRefused fleet rows (BadTable key)
IsRefusedStart fleet held TooMany = (rows : List KeptRow) × AreLoaded held rows × IsStartRefused fleet rows TooMany
IsRefusedStart fleet held NoMemory = Unit {0}
