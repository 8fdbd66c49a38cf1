-- what the office answers
use Rattle.std.specs.Prelude.{◌≡◌, ℕ, List, Option, None, Some, IsSomeAnd, option_map}
use Rattle.hold_limits.specs.Problem.{Problem}
use Rattle.aircraft_file.specs.Craft.{Craft}
use Rattle.trim.specs.Refusals.{IsTaskOf}
use Rattle.flight_state.specs.declared.state.FlightState.{FlightState}
use Rattle.flight_state.specs.Effective.{effective}
use Rattle.flight_state.specs.Legs.{key_of}
use Rattle.last_minute.specs.declared.sheet.Sheet.{Sheet}
use Rattle.last_minute.specs.Sheets.{IsSheet}
use Rattle.flight_row.specs.declared.row.Version.TheVariants.{Two}
use Rattle.flight_row.specs.Loading.{row_of}
use Rattle.flight_row.specs.RowText.{row_text}
use Rattle.flight_history.specs.declared.entry.Act.{Act}
use Rattle.flight_history.specs.declared.entry.Act.TheVariants.{NewFlight, Set, Take, Install, Release, Late, Reopen, Depart, Show}
use Rattle.flight_history.specs.declared.entry.Outcome.{Outcome}
use Rattle.flight_history.specs.declared.entry.Outcome.TheVariants as ended
use Rattle.flight_history.specs.declared.reply.Refusal.{Refusal}
use Rattle.flight_history.specs.declared.reply.Refusal.TheVariants as no
use Rattle.flight_history.specs.declared.reply.Reply.{Reply}
use Rattle.flight_history.specs.declared.reply.Reply.TheVariants as says
use Rattle.flight_history.specs.declared.request.What.TheVariants.{State}
use Rattle.flight_row.specs.Loading.{aircraft_of}
use Rattle.flight_history.specs.Step.{after}
use Rattle.flight_history.specs.History.{Judged, standing_of}

-- the row of a flight
abbrev pub row_bytes : List Craft → FlightState → Option (List ℕ)
row_bytes fleet s = option_map (λ a. row_text Two (row_of a s)) (aircraft_of fleet s.leg)

-- the reply is the sheet of a flight, or its task
abbrev pub IsSheetReply : Craft → FlightState → Reply → Type 0
IsSheetReply a s reply = (sheet : Sheet) × IsSheet a s sheet × (reply ≡ says.Sheet sheet)

abbrev pub IsTaskReply : Craft → FlightState → Reply → Type 0
IsTaskReply a s reply = (task : Problem) × IsTaskOf a (effective s) task × (reply ≡ says.Task task)

-- the reply to an accepted act, by the flight as it stands after it, and by its aircraft
abbrev pub AnswersWith : Craft → FlightState → Act → Reply → Type 0
AnswersWith a s (NewFlight leg) reply = reply ≡ says.Opened (key_of leg)
AnswersWith a s (Set edition told) reply = reply ≡ says.Edition s.edition
AnswersWith a s (Take edition) reply = IsTaskReply a s reply
AnswersWith a s (Install edition path same) reply = reply ≡ says.Edition s.edition
AnswersWith a s (Release edition) reply = IsSheetReply a s reply
AnswersWith a s (Late edition change) reply = reply ≡ says.Edition s.edition
AnswersWith a s (Reopen edition) reply = reply ≡ says.Edition s.edition
AnswersWith a s (Depart edition) reply = reply ≡ says.Edition s.edition
AnswersWith a s (Show State) reply = reply ≡ says.Row (row_text Two (row_of a s))
AnswersWith a s (Show what) reply = IsSheetReply a s reply

abbrev pub Answers : List Craft → FlightState → Act → Reply → Type 0
Answers fleet s act reply = IsSomeAnd (aircraft_of fleet s.leg) (λ a. AnswersWith a s act reply)

-- the reply to an act at a flight, or at none, by how its turn ended and by the verdict
abbrev pub IsReplyBy : List Craft → Option FlightState → Act → Outcome → Option Refusal → Reply → Type 0
IsReplyBy fleet s act ended.Done (Some refusal) reply = reply ≡ says.Refused refusal
IsReplyBy fleet s act ended.Done None reply = IsSomeAnd (after fleet s act) (λ next. Answers fleet next act reply)
IsReplyBy fleet s act ended.KeeperFailed verdict reply = reply ≡ says.Refused no.KeeperFault
IsReplyBy fleet s act ended.NoMemory verdict reply = reply ≡ says.NoMemory

-- the reply to an entry after a history
abbrev pub IsReply : List Craft → List FlightState → List Judged → Judged → Reply → Type 0
IsReply fleet opening history j reply =
    IsReplyBy fleet (standing_of fleet opening history j.entry.key) j.entry.act j.entry.outcome j.verdict reply
