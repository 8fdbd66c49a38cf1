-- what is answered in a history is answered so in each that continues it
use Rattle.std.proofs.Common.{ℕ, List, Result, Ok, Err, inl, inr}
use Rattle.hold_limits.specs.Problem.{Problem}
use Rattle.flight_history.specs.declared.entry.Entry.{Entry}
use Rattle.flight_history.specs.declared.reply.Reply.TheVariants as says
use Rattle.flight_history.specs.declared.request.Request.{Request}
use Rattle.flight_history.specs.declared.request.Request.TheVariants.{Take}
use Rattle.desk_answers.specs.declared.answer.Answer.{Answer}
use Rattle.desk_answers.specs.declared.errors.PlainError.{PlainError}
use Rattle.desk_requests.specs.declared.asked.Asked.{Asked}
use Rattle.desk_requests.specs.declared.asked.Asked.TheVariants as asked
use Rattle.desk_service.specs.declared.searches.Search.{Search}
use Rattle.desk_service.specs.declared.searches.Search.TheVariants.{Within, ByTrees}
use Rattle.desk_service.specs.Places.{GoesOn}
use Rattle.desk_service.specs.Turns.{Setting, Placed}
use Rattle.desk_service.specs.Searches.{install_of}
use Rattle.desk_service.specs.Exchanges.{AnswersTurn, AnswersTask, AnswersPlan, Answers, AnswersLate, LacksEntry, LacksPlan, Exchange, IsServed, IsLate}
use Rattle.desk_service.proofs.Turns.{made_on}

module _ (s : Setting) (desk : ℕ) (h h' : List Entry) (g : GoesOn h h') where
  turn_on : (request : Request) (entries : List Placed) (answer : Answer) → AnswersTurn s desk h request entries answer → AnswersTurn s desk h' request entries answer
  turn_on request entries answer a = record {
    made = a.made;
    reply = a.reply;
    turn = made_on s desk h h' g request a.made a.reply a.turn;
    entries_are = a.entries_are;
    due = a.due;
  }

  task_on : (key : List ℕ) (edition : ℕ) (search : Search) (task : Problem) (rest : List Placed) (answer : Answer)
      → AnswersTask s desk h key edition search task rest answer → AnswersTask s desk h' key edition search task rest answer
  task_on key edition search task rest answer (inl out) = inl out
  task_on key edition search task rest answer (inr (inl told)) = inr (inl told)
  task_on key edition search task rest answer (inr (inr i)) = inr (inr record {
    found = i.found;
    installed = i.installed;
    reply = i.reply;
    turn = made_on s desk h h' g (install_of key edition i.found.plan) i.installed i.reply i.turn;
    rest_is = i.rest_is;
    answer_is = i.answer_is;
  })

  plan_on : (key : List ℕ) (edition : ℕ) (search : Search) (entries : List Placed) (answer : Answer)
      → AnswersPlan s desk h key edition search entries answer → AnswersPlan s desk h' key edition search entries answer
  plan_on key edition search entries answer (inl a) = inl (turn_on (Take key edition) entries answer a)
  plan_on key edition search entries answer (inr a) = inr record {
    taken = a.taken;
    task = a.task;
    rest = a.rest;
    take = made_on s desk h h' g (Take key edition) a.taken (says.Task a.task) a.take;
    entries_are = a.entries_are;
    later = a.later;
    planned = task_on key edition search a.task a.rest answer a.planned;
  }

  pub answers_on : (it : Result Asked PlainError) (entries : List Placed) (answer : Answer) → Answers s desk h it entries answer → Answers s desk h' it entries answer
  answers_on (Err error) entries answer a = a
  answers_on (Ok (asked.Entry request)) entries answer a = turn_on request entries answer a
  answers_on (Ok (asked.Plan key edition budget)) entries answer a = plan_on key edition (Within budget) entries answer a
  answers_on (Ok (asked.Best key edition looks)) entries answer a = plan_on key edition (ByTrees looks) entries answer a

  lacks_plan_on : (key : List ℕ) (edition : ℕ) (search : Search) (entries : List Placed) → LacksPlan s desk h key edition search entries → LacksPlan s desk h' key edition search entries
  lacks_plan_on key edition search entries (inl none) = inl none
  lacks_plan_on key edition search entries (inr l) =
      inr (l.0, l.1, made_on s desk h h' g (Take key edition) l.0 (says.Task l.1) l.2, l.3, l.4)

  lacks_on : (it : Asked) (entries : List Placed) → LacksEntry s desk h it entries → LacksEntry s desk h' it entries
  lacks_on (asked.Entry request) entries none = none
  lacks_on (asked.Plan key edition budget) entries lacks = lacks_plan_on key edition (Within budget) entries lacks
  lacks_on (asked.Best key edition looks) entries lacks = lacks_plan_on key edition (ByTrees looks) entries lacks

  pub late_on : (it : Result Asked PlainError) (entries : List Placed) (answer : Answer) → AnswersLate s desk h it entries answer → AnswersLate s desk h' it entries answer
  late_on (Err error) entries answer a = a
  late_on (Ok it) entries answer a = (lacks_on it entries a.0, a.1)

  pub exchange_on : (x : Exchange) → IsServed s desk h x → IsServed s desk h' x
  exchange_on x v = record { read = v.read; answers = answers_on x.asked x.entries x.answer v.answers }

  pub lacking_on : (x : Exchange) → IsLate s desk h x → IsLate s desk h' x
  lacking_on x v = record { read = v.read; answers = late_on x.asked x.entries x.answer v.answers }
