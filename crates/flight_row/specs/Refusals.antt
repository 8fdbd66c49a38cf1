-- why a text is refused
use Rattle.std.specs.Prelude.{◌≡◌, ℕ, List, None}
use Rattle.aircraft_file.specs.Craft.{Craft}
use Rattle.text_lines.specs.Grammar.{Fails}
use Rattle.text_lines.specs.Stated.{AreLinesOf}
use Rattle.text_lines.specs.declared.fault.LineFault.{LineFault}
use Rattle.text_lines.specs.declared.fault.LineFault.TheVariants as line
use Rattle.flight_row.specs.declared.row.Version.{Version}
use Rattle.flight_row.specs.declared.row.Row.{Row}
use Rattle.flight_row.specs.declared.fault.RowFault.{RowFault}
use Rattle.flight_row.specs.declared.fault.RowFault.TheVariants.{Line, NoEnd, NoAircraft, NoMemory}
use Rattle.flight_row.specs.RowText.{row_lines}
use Rattle.flight_row.specs.Spelled.{IsSpelled, Spells}
use Rattle.flight_row.specs.Loading.{aircraft_of}

-- these are all lines of some row, in one of the versions
abbrev pub AreRow : List (List ℕ) → Type 0
AreRow = AreLinesOf (λ (said : Version × Row). IsSpelled said.0 said.1) (λ (said : Version × Row). row_lines said.0 said.1)

-- a fault of the lines, as a fault of the row
abbrev pub row_fault : LineFault → RowFault
row_fault (line.Line n) = Line n
row_fault line.NoEnd = NoEnd
row_fault line.NoMemory = NoMemory

-- the text is refused for this fault
pub data IsRefused (fleet : List Craft) (text : List ℕ) : RowFault → Type 0 where
  -- it is not made of the lines of a row
  wrong_lines : (fault : LineFault) → Fails AreRow text 1 fault → IsRefused fleet text (row_fault fault)
  -- it is a row, and no aircraft of the fleet has the registration of its leg
  no_aircraft : (version : Version) (row : Row) → Spells version text row → aircraft_of fleet row.leg ≡ None
      → IsRefused fleet text NoAircraft
  -- running out of memory has no cause in the text
  no_memory : IsRefused fleet text NoMemory
