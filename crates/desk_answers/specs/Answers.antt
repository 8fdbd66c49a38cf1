-- what a desk is answered to the replies of the office
use Rattle.std.specs.Prelude.{◌≡◌, ◌⊎◌, ℕ, List, true, false, codes, unsigned_abs, Result, Ok, Err}
use Rattle.serde_json.specs.Data.{Data, no_members, Members}
use Rattle.serde_json.specs.Written.{compact_text}
use Rattle.text_lines.specs.Lines.{text_of}
use Rattle.problem_text.specs.TaskText.{task_lines}
use Rattle.trim.specs.declared.fault.TrimFault.{TrimFault}
use Rattle.trim.specs.declared.fault.TrimFault.TheVariants as trim
use Rattle.last_minute.specs.declared.fault.LmcFault.{LmcFault}
use Rattle.last_minute.specs.declared.fault.LmcFault.TheVariants as lmc
use Rattle.last_minute.specs.declared.sheet.Sheet.{Sheet}
use Rattle.loadsheet_text.specs.SheetText.{sheet_text}
use Rattle.ldm_cpm.specs.Messages.{ldm_text, cpm_text}
use Rattle.ldm_cpm.specs.Sheets.{ldm_of, cpm_of}
use Rattle.flight_history.specs.declared.reply.Refusal.{Refusal}
use Rattle.flight_history.specs.declared.reply.Refusal.TheVariants as refused
use Rattle.flight_history.specs.declared.reply.Reply.{Reply}
use Rattle.flight_history.specs.declared.reply.Reply.TheVariants as says
use Rattle.desk_answers.specs.declared.answer.Answer.{Answer}
use Rattle.desk_answers.specs.declared.answer.Document.{Document}
use Rattle.desk_answers.specs.declared.answer.Document.TheVariants.{Loadsheet, LoadMessage, ContainerMessage}
use Rattle.desk_answers.specs.declared.errors.PlainError.{PlainError}
use Rattle.desk_answers.specs.declared.errors.PlainError.TheVariants as plain
use Rattle.desk_answers.specs.Words.{error_value, edition_value, opened_value, newest, reason, value, rules_told, status_of, body_of}

-- JSON without spaces
abbrev pub json_answer : ℕ → Data → Answer
json_answer status value = record { status = status; json = true; body = compact_text value }

abbrev pub text_answer : List ℕ → Answer
text_answer text = record { status = 200; json = false; body = text }

abbrev pub error_answer : PlainError → Answer
error_answer error = record { status = status_of error; json = true; body = body_of error }

-- Refusals ---------------------------------------------------------------------------------------

-- why a late change is refused, by its number
abbrev pub late_members : LmcFault → Members
late_members lmc.TooMany = reason 1 no_members
late_members lmc.NotThere = reason 2 no_members
late_members (lmc.Pay fault) = reason 3 no_members
late_members (lmc.MassOver mass) = reason 4 (value mass.0)
late_members (lmc.IndexOver index) = reason 5 (value (unsigned_abs index.0))
late_members (lmc.Breaks rules) = reason 6 (rules_told rules.items)
late_members lmc.NoMemory = reason 7 no_members

-- why there is no task, by its number
abbrev pub trim_members : TrimFault → Members
trim_members (trim.FuelOut fuel) = reason 1 (value fuel.0)
trim_members (trim.Pay fault) = reason 2 no_members
trim_members (trim.LooseName at) = reason 3 (value at)
trim_members (trim.NoWindow which) = reason 4 (value which)
trim_members (trim.Task fault) = reason 5 no_members
trim_members trim.NoMemory = reason 6 no_members

-- the answer to what the office refuses
abbrev pub refused_answer : Refusal → Answer
refused_answer refused.Exists = error_answer plain.Exists
refused_answer refused.NoAircraft = error_answer plain.NoAircraft
refused_answer refused.OfficeFull = error_answer plain.OfficeFull
refused_answer refused.NoFlight = error_answer plain.NoFlight
refused_answer refused.Gone = error_answer plain.Gone
refused_answer (refused.Stale edition) = json_answer 409 (error_value (codes "stale") (newest edition))
refused_answer (refused.Ahead edition) = json_answer 409 (error_value (codes "ahead") (newest edition))
refused_answer refused.NotReleased = error_answer plain.NotReleased
refused_answer refused.NoPlanYet = error_answer plain.NoPlan
refused_answer (refused.Broken rules) = json_answer 422 (error_value (codes "broken") (rules_told rules.items))
refused_answer (refused.Late fault) = json_answer 422 (error_value (codes "lmc") (late_members fault))
refused_answer (refused.Trim fault) = json_answer 422 (error_value (codes "trim") (trim_members fault))
refused_answer refused.OtherTask = error_answer plain.OtherTask
refused_answer refused.Spent = error_answer plain.Spent
refused_answer refused.KeeperFault = error_answer plain.Keeper

-- Replies ----------------------------------------------------------------------------------------

abbrev pub document_text : Document → Sheet → List ℕ
document_text Loadsheet sheet = sheet_text sheet
document_text LoadMessage sheet = ldm_text (ldm_of sheet)
document_text ContainerMessage sheet = cpm_text (cpm_of sheet)

-- the answer to a reply, which shows this document where it has a sheet
abbrev pub answer_to : Document → Reply → Answer
answer_to document (says.Opened key) = json_answer 201 (opened_value key)
answer_to document (says.Edition edition) = json_answer 200 (edition_value edition)
answer_to document (says.Row row) = text_answer row
answer_to document (says.Sheet sheet) = text_answer (document_text document sheet)
answer_to document (says.Task task) = text_answer (text_of (task_lines task))
answer_to document (says.Refused refusal) = refused_answer refusal
answer_to document says.NoMemory = error_answer plain.Memory

-- what is answered: an answer, or an error in one word
abbrev pub answered : Result Answer PlainError → Answer
answered (Ok answer) = answer
answered (Err error) = error_answer error

-- it is this answer, unless memory ran out
abbrev pub IsAnswered : Answer → Result Answer PlainError → Type 0
IsAnswered due result = (result ≡ Err plain.Memory) ⊎ (due ≡ answered result)
