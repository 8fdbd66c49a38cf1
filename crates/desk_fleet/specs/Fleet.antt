-- the fleet of which files describe the aircraft, and the first file that is not one of a fleet
use Rattle.std.specs.Prelude.{◌≡◌, ℕ, ◌+◌, ◌≤◌, ⊤, List, ◌∷◌, ◌++◌, length, map, Bool, true, Some, Err, Ok, String, string_bytes}
use Rattle.std.specs.List.{AllZip, list_any}
use Rattle.std.specs.Str.{bytes_eq}
use Rattle.std.specs.declared.alloc.Global.{Global}
use Rattle.load_io.specs.Shelf.{Files, HasMoreThan}
use Rattle.aircraft_file.specs.Craft.{Craft, AreApart}
use Rattle.aircraft_file.specs.Lawful.{IsAnswerTo}
use Rattle.aircraft_file.specs.declared.fault.FileFault.{FileFault}
use Rattle.desk_fleet.specs.declared.fault.FileReason.{FileReason}
use Rattle.desk_fleet.specs.declared.fault.FileReason.TheVariants.{Long, Fault, Twice}
use Rattle.desk_fleet.specs.declared.fault.FleetFault.{FleetFault}
use Rattle.desk_fleet.specs.declared.fault.FleetFault.TheVariants.{Refused, Unread, NoMemory}
use Rattle.desk_fleet.specs.declared.fault.RefusedFile.{RefusedFile}

-- a file of an aircraft has at most so many bytes
abbrev pub longest_file : ℕ
longest_file = 1048576

-- the names as bytes
abbrev pub names_of : List (String Global) → List (List ℕ)
names_of names = map string_bytes names

-- the file of this name has this text, and is not too long
pub record IsShortFile (files : Files) (name text : List ℕ) : Type 0 where
  pub is : files name ≡ Some text
  pub short : length text ≤ longest_file

-- the file of this name describes this aircraft
pub record IsFileOf (files : Files) (name : List ℕ) (craft : Craft) : Type 0 where
  pub text : List ℕ
  pub file : IsShortFile files name text
  pub described : IsAnswerTo text (Ok craft)

-- the files of these names describe these aircraft, one each, no two with one registration
pub record IsFleet (files : Files) (names : List (List ℕ)) (fleet : List Craft) : Type 0 where
  pub each : AllZip (IsFileOf files) names fleet
  pub apart : AreApart fleet

-- whether an aircraft of the fleet has this registration
abbrev pub is_taken : List Craft → List ℕ → Bool
is_taken fleet registration = list_any (λ (craft : Craft). bytes_eq craft.registration registration) fleet

-- why the file of this name cannot join the fleet of the files before it
pub data CannotJoin (files : Files) (fleet : List Craft) (name : List ℕ) : FileReason → Type 0 where
  too_long : HasMoreThan (Some files) name longest_file → CannotJoin files fleet name Long
  no_aircraft : {fault : FileFault} (text : List ℕ) → IsShortFile files name text → IsAnswerTo text (Err fault)
      → CannotJoin files fleet name (Fault fault)
  taken : (craft : Craft) → IsFileOf files name craft → is_taken fleet craft.registration ≡ true → CannotJoin files fleet name Twice

-- what a fault of a fleet says of the refused file, if it is about one
abbrev pub IfRefused : FleetFault → (RefusedFile → Type 0) → Type 0
IfRefused (Refused file) P = P file
IfRefused Unread P = ⊤
IfRefused NoMemory P = ⊤

-- what a reason says of the fault of the file's text, if it is about that
abbrev pub IfFault : FileReason → (FileFault → Type 0) → Type 0
IfFault Long P = ⊥
IfFault (Fault fault) P = P fault
IfFault Twice P = ⊥

-- the files before this one describe a fleet, which it cannot join
pub record IsRefused (files : Files) (names : List (List ℕ)) (refused : RefusedFile) : Type 0 where
  pub before : List (List ℕ)
  pub name : List ℕ
  pub after : List (List ℕ)
  pub fleet : List Craft
  pub at : names ≡ before ++ name ∷ after
  pub number : refused.number ≡ length before + 1
  pub described : IsFleet files before fleet
  pub reason : CannotJoin files fleet name refused.reason
