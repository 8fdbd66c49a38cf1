-- replies that carry documents
use Rattle.std.specs.Prelude.{◌≡◌}
use Rattle.aircraft_file.specs.Craft.{Craft}
use Rattle.flight_state.specs.declared.state.FlightState.{FlightState}
use Rattle.last_minute.specs.Sheets.{IsSheet}
use Rattle.last_minute.specs.declared.sheet.Sheet.{Sheet}
use Rattle.flight_history.specs.declared.reply.Reply.{Reply}
use Rattle.flight_history.specs.declared.reply.Reply.TheVariants as says

-- the reply is the sheet of the flight
abbrev pub IsSheetWith : Craft → FlightState → Reply → Type 0
IsSheetWith a s reply = (sheet : Sheet) × IsSheet a s sheet × (reply ≡ says.Sheet sheet)
