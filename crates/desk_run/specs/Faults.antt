-- why a desk is not opened
use Rattle.std.specs.Prelude.{◌≡◌, ℕ, ⊤, List, Option, IfSome, IsSomeAnd}
use Rattle.load_io.specs.Shelf.{Files}
use Rattle.aircraft_file.specs.Craft.{Craft}
use Rattle.keeper.specs.Tables.{Tables}
use Rattle.desk_fleet.specs.Fleet.{IsFleet, IsRefused}
use Rattle.desk_fleet.specs.declared.fault.RefusedFile.{RefusedFile}
use Rattle.desk_fleet.specs.declared.fault.FleetFault.{FleetFault}
use Rattle.desk_fleet.specs.declared.fault.FleetFault.TheVariants as fleet
use Rattle.editions.specs.Starting.{IsRefusedStart}
use Rattle.editions.specs.declared.starting.StartFault.{StartFault}
use Rattle.editions.specs.declared.starting.StartFault.TheVariants as start
use Rattle.desk_run.specs.declared.fault.DeskFault.{DeskFault}
use Rattle.desk_run.specs.declared.fault.DeskFault.TheVariants.{Fleet, Unread, Keeper, BadTable, TooMany, NoMemory}

abbrev pub fault_of_fleet : FleetFault → DeskFault
fault_of_fleet (fleet.Refused file) = Fleet file
fault_of_fleet fleet.Unread = Unread
fault_of_fleet fleet.NoMemory = NoMemory

abbrev pub fault_of_start : StartFault → DeskFault
fault_of_start start.Keeper = Keeper
fault_of_start (start.BadTable key) = BadTable key
fault_of_start start.TooMany = TooMany
fault_of_start start.NoMemory = NoMemory

-- the files describe a fleet, on which the office does not start for this reason
pub record IsNotStarted (exposed : Option Files) (names : List (List ℕ)) (held : Option Tables) (fault : StartFault) : Type 0 where
  pub fleet : List Craft
  pub of_files : IfSome exposed (λ files. IsFleet files names fleet)
  pub refused : IsRefusedStart fleet held fault

-- why a desk with the fleet of these files is not opened on these tables; that a call failed or memory ran out has its cause elsewhere
abbrev pub IsNotOpened : Option Files → List (List ℕ) → Option Tables → DeskFault → Type 0
IsNotOpened exposed names held (Fleet file) = IfSome exposed (λ files. IsRefused files names file)
IsNotOpened exposed names held Unread = ⊤
IsNotOpened exposed names held Keeper = IsNotStarted exposed names held start.Keeper
IsNotOpened exposed names held (BadTable key) = IsNotStarted exposed names held (start.BadTable key)
IsNotOpened exposed names held TooMany = IsNotStarted exposed names held start.TooMany
IsNotOpened exposed names held NoMemory = ⊤

-- the files are exposed, and this one of them is refused
abbrev pub HaveRefusedFile : Option Files → List (List ℕ) → RefusedFile → Type 0
HaveRefusedFile exposed names file = IsSomeAnd exposed (λ files. IsRefused files names file)

-- the fault reports this file, or else a file could not be read or memory ran out
abbrev pub ReportsFile : RefusedFile → DeskFault → Type 0
ReportsFile file (Fleet reported) = reported ≡ file
ReportsFile file Unread = ⊤
ReportsFile file Keeper = ⊥
ReportsFile file (BadTable key) = ⊥
ReportsFile file TooMany = ⊥
ReportsFile file NoMemory = ⊤
