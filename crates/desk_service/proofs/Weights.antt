-- how many entries an exchange makes, and what its status says of them
use Rattle.std.proofs.Common.{◌≡◌, ◌+◌, ◌≤◌, ◌==◌, ℕ, Bool, true, false, cond, List, [], ◌∷◌, length, Option, None, Some, Result, Ok, Err, refl, sym, ap, ◌∙◌, subst, arith, inl, inr}
use Rattle.flight_history.specs.declared.entry.Entry.{Entry}
use Rattle.flight_history.specs.declared.reply.Refusal.{Refusal}
use Rattle.flight_history.specs.declared.reply.Refusal.TheVariants as no
use Rattle.flight_history.specs.declared.reply.Reply.{Reply}
use Rattle.flight_history.specs.declared.reply.Reply.TheVariants as says
use Rattle.flight_history.specs.declared.request.Request.{Request}
use Rattle.flight_history.specs.Replies.{IsReply}
use Rattle.http_wire.specs.Requests as http
use Rattle.desk_answers.specs.Answers.{answer_to, error_answer, refused_answer}
use Rattle.desk_answers.specs.declared.answer.Answer.{Answer}
use Rattle.desk_answers.specs.declared.answer.Document.{Document}
use Rattle.desk_answers.specs.declared.answer.Document.TheVariants.{Loadsheet}
use Rattle.desk_answers.specs.declared.errors.PlainError.{PlainError}
use Rattle.desk_answers.specs.declared.errors.PlainError.TheVariants as plain
use Rattle.desk_requests.specs.Asked.{AsksBy}
use Rattle.desk_requests.specs.declared.asked.Asked.{Asked}
use Rattle.desk_requests.specs.declared.asked.Asked.TheVariants as asked
use Rattle.desk_routes.specs.declared.route.Route.{Route}
use Rattle.desk_routes.specs.Targets.{route_of}
use Rattle.desk_service.specs.declared.searches.Search.{Search}
use Rattle.desk_service.specs.declared.searches.Search.TheVariants.{Within, ByTrees}
use Rattle.desk_service.specs.Turns.{Setting, Placed, IsMade}
use Rattle.desk_service.specs.Exchanges.{IsDue, AnswersTurn, AnswersInstallIf, AnswersTask, AnswersTaken, AnswersPlan, Answers, AnswersLate, LacksEntry, LacksPlan, Exchange, IsRead, IsServed, IsLate, is_installed}
use Rattle.desk_service.specs.Alone.{failures, is_failure}
use Rattle.desk_service.specs.Laws.{unplaced}
use Rattle.desk_service.proofs.Refusals.{failed_by_reply, no_way}

-- the status is not 507, and it is 503 only where P
pub record Tells (answer : Answer) (P : Type 0) : Type 0 where
  pub room : (answer.status == 507) ≡ false
  pub fault : (answer.status == 503) ≡ true → P

tells_otherwise : (answer other : Answer) (P : Type 0) → answer ≡ other → (other.status == 507) ≡ false → (other.status == 503) ≡ false → Tells answer P
tells_otherwise answer other P same room fault = record {
  room = ap (λ (a : Answer). a.status == 507) same ∙ room;
  fault = λ is. absurd (no_way (sym is ∙ (ap (λ (a : Answer). a.status == 503) same ∙ fault)));
}

refusal_tells : (refusal : Refusal) → Tells (refused_answer refusal) (says.Refused refusal ≡ says.Refused no.KeeperFault)
refusal_tells no.Exists = tells_otherwise _ _ _ refl refl refl
refusal_tells no.NoAircraft = tells_otherwise _ _ _ refl refl refl
refusal_tells no.OfficeFull = tells_otherwise _ _ _ refl refl refl
refusal_tells no.NoFlight = tells_otherwise _ _ _ refl refl refl
refusal_tells no.Gone = tells_otherwise _ _ _ refl refl refl
refusal_tells (no.Stale edition) = tells_otherwise _ _ _ refl refl refl
refusal_tells (no.Ahead edition) = tells_otherwise _ _ _ refl refl refl
refusal_tells no.NotReleased = tells_otherwise _ _ _ refl refl refl
refusal_tells no.NoPlanYet = tells_otherwise _ _ _ refl refl refl
refusal_tells (no.Broken rules) = tells_otherwise _ _ _ refl refl refl
refusal_tells (no.Late fault) = tells_otherwise _ _ _ refl refl refl
refusal_tells (no.Trim fault) = tells_otherwise _ _ _ refl refl refl
refusal_tells no.OtherTask = tells_otherwise _ _ _ refl refl refl
refusal_tells no.Spent = tells_otherwise _ _ _ refl refl refl
refusal_tells no.KeeperFault = record { room = refl; fault = λ _. refl }

tells_same : (answer other : Answer) (P : Type 0) → other ≡ answer → Tells other P → Tells answer P
tells_same answer other P same t = subst (λ (a : Answer). Tells a P) same t

reply_tells : (document : Document) (reply : Reply) (answer : Answer) → answer_to document reply ≡ answer → Tells answer (reply ≡ says.Refused no.KeeperFault)
reply_tells document (says.Opened key) answer due = tells_same _ _ _ due (tells_otherwise _ _ _ refl refl refl)
reply_tells document (says.Edition edition) answer due = tells_same _ _ _ due (tells_otherwise _ _ _ refl refl refl)
reply_tells document (says.Row row) answer due = tells_same _ _ _ due (tells_otherwise _ _ _ refl refl refl)
reply_tells document (says.Sheet sheet) answer due = tells_same _ _ _ due (tells_otherwise _ _ _ refl refl refl)
reply_tells document (says.Task task) answer due = tells_same _ _ _ due (tells_otherwise _ _ _ refl refl refl)
reply_tells document (says.Refused refusal) answer due = tells_same _ _ _ due (refusal_tells refusal)
reply_tells document says.NoMemory answer due = tells_same _ _ _ due (tells_otherwise _ _ _ refl refl refl)

due_tells : (document : Document) (reply : Reply) (answer : Answer) → IsDue (answer_to document reply) answer → Tells answer (reply ≡ says.Refused no.KeeperFault)
due_tells document reply answer (inl out) = tells_otherwise _ _ _ out refl refl
due_tells document reply answer (inr due) = reply_tells document reply answer due

-- Entries -----------------------------------------------------------------------------------------------

-- the entry was not kept, because the keeper failed
made_failed : (s : Setting) (desk : ℕ) (history : List Entry) (request : Request) (made : Placed) (reply : Reply) → IsMade s desk history request made reply
    → reply ≡ says.Refused no.KeeperFault → is_failure made.1.outcome ≡ true
made_failed s desk history request made reply m is =
    let t = m.turn in
    let reply_is = subst (λ (r : Reply). IsReply s.fleet s.opening t.history t.j r) is t.replied in
    let failed = failed_by_reply s.fleet s.opening t.history t.j t.j.entry.outcome t.judged reply_is in
    ap (λ (entry : Entry). is_failure entry.outcome) t.of_entry ∙ ap is_failure failed

-- at most two entries, no 507, and a 503 with an entry that was not kept
pub record Weighs (entries : List Placed) (answer : Answer) : Type 0 where
  pub two : length entries ≤ 2
  pub tells : Tells answer (1 ≤ failures (unplaced entries))

tells_with : (answer : Answer) (P Q : Type 0) → (P → Q) → Tells answer P → Tells answer Q
tells_with answer P Q f t = record { room = t.room; fault = λ is. f (t.fault is) }

one_failed : (made : Placed) → is_failure made.1.outcome ≡ true → 1 ≤ failures (unplaced (made ∷ []))
one_failed made is = rw is (let e : 1 ≤ 0 + 1 = omega arith in e)

second_failed : (taken made : Placed) → is_failure made.1.outcome ≡ true → 1 ≤ failures (unplaced (taken ∷ made ∷ []))
second_failed taken made is = rw is (let e : (n : ℕ) → 1 ≤ (0 + n) + 1 = λ n. omega arith in e (cond (is_failure taken.1.outcome) 1 0))

turn_weighs : (s : Setting) (desk : ℕ) (history : List Entry) (request : Request) (entries : List Placed) (answer : Answer) → AnswersTurn s desk history request entries answer → Weighs entries answer
turn_weighs s desk history request entries answer a =
    subst (λ (es : List Placed). Weighs es answer) (sym a.entries_are) record {
      two = omega arith;
      tells = tells_with answer _ _ (λ is. one_failed a.made (made_failed s desk history request a.made a.reply a.turn is)) (due_tells _ a.reply answer a.due);
    }

install_tells : (installed : Bool) (plan : Answer) (reply : Reply) (answer : Answer) → (plan.status == 507) ≡ false → (plan.status == 503) ≡ false → AnswersInstallIf installed plan reply answer
    → Tells answer (reply ≡ says.Refused no.KeeperFault)
install_tells true plan reply answer room fault is = tells_otherwise answer plan _ is room fault
install_tells false plan reply answer room fault is = due_tells Loadsheet reply answer is

taken_weighs : (s : Setting) (desk : ℕ) (history : List Entry) (key : List ℕ) (edition : ℕ) (search : Search) (entries : List Placed) (answer : Answer) → (a : AnswersTaken s desk history key edition search entries answer)
    → AnswersTask s desk history key edition search a.task a.rest answer → Weighs entries answer
taken_weighs s desk history key edition search entries answer a (inl (none, out)) =
    subst (λ (es : List Placed). Weighs es answer) (sym (a.entries_are ∙ ap (λ (zs : List Placed). a.taken ∷ zs) none)) record { two = omega arith; tells = tells_otherwise _ _ _ out refl refl }
taken_weighs s desk history key edition search entries answer a (inr (inl (none, told))) =
    subst (λ (es : List Placed). Weighs es answer) (sym (a.entries_are ∙ ap (λ (zs : List Placed). a.taken ∷ zs) none)) record { two = omega arith; tells = tells_otherwise _ _ _ told.told refl refl }
taken_weighs s desk history key edition search entries answer a (inr (inr i)) =
    subst (λ (es : List Placed). Weighs es answer) (sym (a.entries_are ∙ ap (λ (zs : List Placed). a.taken ∷ zs) i.rest_is)) record {
      two = omega arith;
      tells = tells_with answer _ _ (λ is. second_failed a.taken i.installed (made_failed s desk history _ i.installed i.reply i.turn is))
          (install_tells (is_installed i.reply) _ i.reply answer refl refl i.answer_is);
    }

plan_weighs : (s : Setting) (desk : ℕ) (history : List Entry) (key : List ℕ) (edition : ℕ) (search : Search) (entries : List Placed) (answer : Answer)
    → AnswersPlan s desk history key edition search entries answer → Weighs entries answer
plan_weighs s desk history key edition search entries answer (inl a) = turn_weighs s desk history _ entries answer a
plan_weighs s desk history key edition search entries answer (inr a) = taken_weighs s desk history key edition search entries answer a a.planned

-- Exchanges ----------------------------------------------------------------------------------------------

-- an error before the turn is no lack of room, and no fault of the keeper
abbrev IsEarly : PlainError → Type 0
IsEarly error = ((error_answer error).status == 507 ≡ false) × ((error_answer error).status == 503 ≡ false)

abbrev error_in : Result Asked PlainError → PlainError
error_in (Ok it) = plain.NoRoute
error_in (Err error) = error

early_by : (route : Option Route) (method target body : List ℕ) (error : PlainError) → AsksBy route method target body (Err error) → IsEarly error
early_by None method target body error is = subst IsEarly (sym (ap error_in is)) (refl, refl)
early_by (Some route) method target body plain.NoRoute is = absurd is
early_by (Some route) method target body plain.Method is = (refl, refl)
early_by (Some route) method target body plain.Edition is = (refl, refl)
early_by (Some route) method target body plain.Body is = (refl, refl)
early_by (Some route) method target body plain.NoFlight is = (refl, refl)
early_by (Some route) method target body plain.Full is = absurd is
early_by (Some route) method target body plain.Exists is = absurd is
early_by (Some route) method target body plain.NoAircraft is = absurd is
early_by (Some route) method target body plain.OfficeFull is = absurd is
early_by (Some route) method target body plain.Gone is = absurd is
early_by (Some route) method target body plain.NotReleased is = absurd is
early_by (Some route) method target body plain.NoPlan is = absurd is
early_by (Some route) method target body plain.OtherTask is = absurd is
early_by (Some route) method target body plain.Spent is = absurd is
early_by (Some route) method target body plain.Keeper is = absurd is
early_by (Some route) method target body plain.Memory is = absurd is

error_early : (request : http.Request) (error : PlainError) → IsRead request (Err error) → IsEarly error
error_early request error (inl out) = subst IsEarly (sym (ap error_in out)) (refl, refl)
error_early request error (inr asks) = early_by (route_of request.target) request.method request.target request.body error asks

module _ (s : Setting) (desk : ℕ) (history : List Entry) where
  served_by : (request : http.Request) (it : Result Asked PlainError) (entries : List Placed) (answer : Answer) → IsRead request it → Answers s desk history it entries answer → Weighs entries answer
  served_by request (Err error) entries answer read (none, is) =
      let early = error_early request error read in
      subst (λ (es : List Placed). Weighs es answer) (sym none) record { two = omega arith; tells = tells_otherwise answer (error_answer error) _ is early.0 early.1 }
  served_by request (Ok (asked.Entry asks)) entries answer read a = turn_weighs s desk history asks entries answer a
  served_by request (Ok (asked.Plan key edition budget)) entries answer read a = plan_weighs s desk history key edition (Within budget) entries answer a
  served_by request (Ok (asked.Best key edition looks)) entries answer read a = plan_weighs s desk history key edition (ByTrees looks) entries answer a

  pub served_weighs : (x : Exchange) → IsServed s desk history x → Weighs x.entries x.answer
  served_weighs x v = served_by x.request x.asked x.entries x.answer v.read v.answers

  -- at most one entry where one is lacking
  pub record Lacks (entries : List Placed) (answer : Answer) : Type 0 where
    pub one : length entries ≤ 1
    pub fault : (answer.status == 503) ≡ true → 1 ≤ failures (unplaced entries)

  lacks_plan : (key : List ℕ) (edition : ℕ) (search : Search) (entries : List Placed) → LacksPlan s desk history key edition search entries → length entries ≤ 1
  lacks_plan key edition search entries (inl none) = rw none (let e : 0 ≤ 1 = omega arith in e)
  lacks_plan key edition search entries (inr l) = rw l.4 (let e : 1 ≤ 1 = omega arith in e)

  lacks_entry : (it : Asked) (entries : List Placed) → LacksEntry s desk history it entries → length entries ≤ 1
  lacks_entry (asked.Entry request) entries none = rw none (let e : 0 ≤ 1 = omega arith in e)
  lacks_entry (asked.Plan key edition budget) entries lacks = lacks_plan key edition (Within budget) entries lacks
  lacks_entry (asked.Best key edition looks) entries lacks = lacks_plan key edition (ByTrees looks) entries lacks

  late_by : (request : http.Request) (it : Result Asked PlainError) (entries : List Placed) (answer : Answer) → IsRead request it → AnswersLate s desk history it entries answer → Lacks entries answer
  late_by request (Err error) entries answer read (none, is) =
      let early = error_early request error read in
      record { one = rw none (let e : 0 ≤ 1 = omega arith in e); fault = λ status. absurd (no_way (sym status ∙ (ap (λ (a : Answer). a.status == 503) is ∙ early.1))) }
  late_by request (Ok it) entries answer read (lacks, full) =
      record { one = lacks_entry it entries lacks; fault = λ status. absurd (no_way (sym status ∙ ap (λ (a : Answer). a.status == 503) full)) }

  pub late_weighs : (x : Exchange) → IsLate s desk history x → Lacks x.entries x.answer
  late_weighs x v = late_by x.request x.asked x.entries x.answer v.read v.answers
