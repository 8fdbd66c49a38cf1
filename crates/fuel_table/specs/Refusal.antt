-- Why a list of rows does not make a fuel table: the first reason, in the order of the faults.
use Rattle.std.specs.Prelude.{◌≡◌, ◌<◌, List, [], length, Some}
use Rattle.fuel_table.specs.declared.row.FuelRow.{FuelRow}
use Rattle.fuel_table.specs.declared.FuelFault.{FuelFault}
use Rattle.fuel_table.specs.declared.FuelFault.TheVariants.{Empty, NotRising, TooMany}
use Rattle.fuel_table.specs.Rows.{IsRising, first_fall}

abbrev pub IsRefusedFor : FuelFault → List FuelRow → Type 0
IsRefusedFor Empty rows = rows ≡ []
IsRefusedFor (NotRising at) rows = first_fall rows ≡ Some at
IsRefusedFor TooMany rows = IsRising rows × (256 < length rows)
