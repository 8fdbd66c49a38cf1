-- each answer has a status that is known
use Rattle.std.proofs.Common.{◌≡◌, Result, Ok, Err, IsTrue, inl, inr, arith, subst, refl}
use Rattle.std.specs.Prelude.{IfOk}
use Rattle.http_wire.specs.Answer.{is_answered}
use Rattle.flight_history.specs.declared.reply.Refusal.{Refusal}
use Rattle.flight_history.specs.declared.reply.Refusal.TheVariants as refused
use Rattle.flight_history.specs.declared.reply.Reply.{Reply}
use Rattle.flight_history.specs.declared.reply.Reply.TheVariants as says
use Rattle.desk_answers.specs.Answers.{IsAnswered, answer_to, refused_answer}
use Rattle.desk_answers.specs.declared.answer.Answer.{Answer}
use Rattle.desk_answers.specs.declared.answer.Document.{Document}
use Rattle.desk_answers.specs.declared.errors.PlainError.{PlainError}

-- the status is one that the office answers
abbrev pub IsKnown : Answer → Type 0
IsKnown answer = IsTrue (is_answered answer.status)

refusal_known : (refusal : Refusal) → IsKnown (refused_answer refusal)
refusal_known refused.Exists = refl
refusal_known refused.NoAircraft = refl
refusal_known refused.OfficeFull = refl
refusal_known refused.NoFlight = refl
refusal_known refused.Gone = refl
refusal_known (refused.Stale edition) = refl
refusal_known (refused.Ahead edition) = refl
refusal_known refused.NotReleased = refl
refusal_known refused.NoPlanYet = refl
refusal_known (refused.Broken rules) = refl
refusal_known (refused.Late fault) = refl
refusal_known (refused.Trim fault) = refl
refusal_known refused.OtherTask = refl
refusal_known refused.Spent = refl
refusal_known refused.KeeperFault = refl

reply_known : (document : Document) (reply : Reply) (answer : Answer) → answer_to document reply ≡ answer → IsKnown answer
reply_known document (says.Opened key) answer due = subst IsKnown due refl
reply_known document (says.Edition edition) answer due = subst IsKnown due refl
reply_known document (says.Row row) answer due = subst IsKnown due refl
reply_known document (says.Sheet sheet) answer due = subst IsKnown due refl
reply_known document (says.Task task) answer due = subst IsKnown due refl
reply_known document (says.Refused refusal) answer due = subst IsKnown due (refusal_known refusal)
reply_known document says.NoMemory answer due = subst IsKnown due refl

-- the status of an answer to a reply is known
pub known_status : (document : Document) (reply : Reply) (result : Result Answer PlainError) → IsAnswered (answer_to document reply) result → IfOk result IsKnown
known_status document reply (Ok answer) (inl out) = absurd (grind arith)
known_status document reply (Ok answer) (inr due) = reply_known document reply answer due
known_status document reply (Err error) due = tt
