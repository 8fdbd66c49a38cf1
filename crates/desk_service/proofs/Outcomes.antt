-- what the calls of one request make of the history
use Rattle.std.proofs.Common.{◌≡◌, ◌⊎◌, ◌+◌, ◌<◌, ◌≤◌, ℕ, true, false, List, [], ◌∷◌, ◌++◌, length, None, Some, Result, Ok, Err, refl, sym, ap, ◌∙◌, arith, append-nil, append_assoc, length-append, inl, inr}
use Rattle.std.specs.List.{All}
use Rattle.std.proofs.lemmas.List.Elements.{All-weaker}
use Rattle.hold_limits.specs.Problem.{Problem}
use Rattle.flight_history.specs.declared.entry.Entry.{Entry}
use Rattle.flight_history.specs.declared.reply.Reply.{Reply}
use Rattle.flight_history.specs.declared.reply.Reply.TheVariants as says
use Rattle.flight_history.specs.declared.request.Request.{Request}
use Rattle.flight_history.specs.declared.request.Request.TheVariants.{Take}
use Rattle.desk_answers.specs.Answers.{IsAnswered, answer_to, answered, error_answer, text_answer}
use Rattle.desk_answers.specs.declared.answer.Answer.{Answer}
use Rattle.desk_answers.specs.declared.errors.PlainError.{PlainError}
use Rattle.desk_answers.specs.declared.errors.PlainError.TheVariants.{Full, Memory}
use Rattle.desk_requests.specs.declared.asked.Asked.TheVariants as asked
use Rattle.desk_service.specs.declared.searches.FoundPlan.{FoundPlan}
use Rattle.desk_service.specs.declared.searches.Search.{Search}
use Rattle.desk_service.specs.declared.searches.Search.TheVariants.{Within, ByTrees}
use Rattle.desk_service.specs.Places.{GoesOn}
use Rattle.desk_service.specs.Turns.{Setting, Placed, placed, IsMade, Calls}
use Rattle.desk_service.specs.Searches.{Finds, install_of}
use Rattle.desk_service.specs.Exchanges.{IsDue, asks_plan, document_of, AnswersTurn, AnswersInstall, AnswersTask, AnswersPlan, LacksPlan, LacksRoom, Answers, AnswersLate}
use Rattle.desk_service.specs.Service.{Answered, Planned}
use Rattle.desk_service.proofs.Places.{same_history, goes_on, placed_behind}
use Rattle.desk_service.proofs.Turns as turns
use Rattle.desk_service.proofs.Turns.{made_on}

-- an answer that is due, or one that memory was lacking for
pub is_due : (due : Answer) (result : Result Answer PlainError) → IsAnswered due result → IsDue due (answered result)
is_due due result (inl out) = inl (ap answered out)
is_due due result (inr is) = inr is

-- what would be an error is not so
pub not_error : {A : Type 0} → (A → false ≡ true) → A → ⊥
not_error h a = let e = h a in grind arith

module _ (s : Setting) (desk : ℕ) where
  -- the answers to what asks for a plan are those to the plan
  plan_asked : (key : List ℕ) (edition : ℕ) (search : Search) (history : List Entry) (entries : List Placed) (answer : Answer)
      → AnswersPlan s desk history key edition search entries answer → Answers s desk history (Ok (asks_plan key edition search)) entries answer
  plan_asked key edition (Within budget) history entries answer is = is
  plan_asked key edition (ByTrees looks) history entries answer is = is

  plan_late : (key : List ℕ) (edition : ℕ) (search : Search) (history : List Entry) (entries : List Placed) (answer : Answer)
      → LacksPlan s desk history key edition search entries → answer ≡ error_answer Full → AnswersLate s desk history (Ok (asks_plan key edition search)) entries answer
  plan_late key edition (Within budget) history entries answer lacks is = (lacks, is)
  plan_late key edition (ByTrees looks) history entries answer lacks is = (lacks, is)

module _ (s : Setting) (desk : ℕ) (full full' : Type 0) where
  -- an error before the turn makes no entry
  pub no_turn : (error : PlainError) (seen seen' : List Entry) → seen' ≡ seen → Answered s desk full full' (Err error) (error_answer error) seen seen'
  no_turn error seen seen' same = record {
    entries = [];
    on = same_history seen seen' same;
    own = ap (placed desk) same ∙ sym (append-nil (placed desk seen));
    is = inl (refl, refl);
    stuck = λ _. (refl, refl);
  }

  -- a call that is answered makes one entry, and its answer is due to the reply
  turn_answered : (request : Request) (reply : Reply) (answer : Answer) (seen seen' : List Entry) → (c : Calls s desk request reply seen seen')
      → IsDue (answer_to (document_of request) reply) answer → AnswersTurn s desk seen' request (turns.made s desk request reply seen seen' c ∷ []) answer
  turn_answered request reply answer seen seen' c due = record {
    made = turns.made s desk request reply seen seen' c;
    reply = reply;
    turn = turns.call_made s desk request reply seen seen' c;
    entries_are = refl;
    due = due;
  }

  pub one_turn : (request : Request) (reply : Reply) (answer : Answer) (seen seen' : List Entry) → (full → ⊥) → Calls s desk request reply seen seen'
      → IsDue (answer_to (document_of request) reply) answer → Answered s desk full full' (Ok (asked.Entry request)) answer seen seen'
  one_turn request reply answer seen seen' free c due = record {
    entries = turns.made s desk request reply seen seen' c ∷ [];
    on = turns.call_on s desk request reply seen seen' c;
    own = turns.call_own s desk request reply seen seen' c;
    is = inl (turn_answered request reply answer seen seen' c due);
    stuck = λ f. absurd (free f);
  }

  pub no_room : (request : Request) (seen seen' : List Entry) → seen' ≡ seen → full' → Answered s desk full full' (Ok (asked.Entry request)) (error_answer Full) seen seen'
  no_room request seen seen' same f = record {
    entries = [];
    on = same_history seen seen' same;
    own = ap (placed desk) same ∙ sym (append-nil (placed desk seen));
    is = inr (f, (refl, refl));
    stuck = λ _. (refl, refl);
  }

  -- a plan whose task was not given
  pub no_task : (key : List ℕ) (edition : ℕ) (search : Search) (reply : Reply) (answer : Answer) (seen seen' : List Entry) → (full → ⊥) → Calls s desk (Take key edition) reply seen seen'
      → IsDue (answer_to (document_of (Take key edition)) reply) answer → Answered s desk full full' (Ok (asks_plan key edition search)) answer seen seen'
  no_task key edition search reply answer seen seen' free c due = record {
    entries = turns.made s desk (Take key edition) reply seen seen' c ∷ [];
    on = turns.call_on s desk (Take key edition) reply seen seen' c;
    own = turns.call_own s desk (Take key edition) reply seen seen' c;
    is = inl (plan_asked s desk key edition search seen' _ answer (inl (turn_answered (Take key edition) reply answer seen seen' c due)));
    stuck = λ f. absurd (free f);
  }

  pub no_room_to_take : (key : List ℕ) (edition : ℕ) (search : Search) (seen seen' : List Entry) → seen' ≡ seen → full' → Answered s desk full full' (Ok (asks_plan key edition search)) (error_answer Full) seen seen'
  no_room_to_take key edition search seen seen' same f = record {
    entries = [];
    on = same_history seen seen' same;
    own = ap (placed desk) same ∙ sym (append-nil (placed desk seen));
    is = inr (f, plan_late s desk key edition search seen' [] (error_answer Full) (inl refl) refl);
    stuck = λ _. plan_late s desk key edition search seen' [] (error_answer Full) (inl refl) refl;
  }

-- What follows the taking of a task -----------------------------------------------------------------

module _ (s : Setting) (desk : ℕ) (full : Type 0) (key : List ℕ) (edition : ℕ) (search : Search) (task : Problem) where
  -- nothing is asked
  pub memory_out : (seen : List Entry) → Planned s desk full key edition search task (error_answer Memory) seen seen
  memory_out seen = record {
    rest = [];
    on = same_history seen seen refl;
    own = sym (append-nil (placed desk seen));
    is = inl (inl (refl, refl));
  }

  pub no_plan : (text : List ℕ) (answer : Answer) (seen : List Entry) → Finds search task None text → answer ≡ text_answer text → Planned s desk full key edition search task answer seen seen
  no_plan text answer seen finds told = record {
    rest = [];
    on = same_history seen seen refl;
    own = sym (append-nil (placed desk seen));
    is = inl (inr (inl (refl, record { text = text; finds = finds; told = told })));
  }

  -- the plan was asked to be installed
  pub asked_install : (plan : FoundPlan) (text : List ℕ) (reply : Reply) (answer : Answer) (seen seen' : List Entry) → Finds search task (Some plan) text
      → Calls s desk (install_of key edition plan) reply seen seen' → AnswersInstall (text_answer text) reply answer → Planned s desk full key edition search task answer seen seen'
  asked_install plan text reply answer seen seen' finds c is =
      let request = install_of key edition plan in
      record {
        rest = turns.made s desk request reply seen seen' c ∷ [];
        on = turns.call_on s desk request reply seen seen' c;
        own = turns.call_own s desk request reply seen seen' c;
        is = inl (inr (inr record {
          found = record { plan = plan; text = text; finds = finds };
          installed = turns.made s desk request reply seen seen' c;
          reply = reply;
          turn = turns.call_made s desk request reply seen seen' c;
          rest_is = refl;
          answer_is = is;
        }));
      }

  pub no_room_to_install : (plan : FoundPlan) (text : List ℕ) (seen seen' : List Entry) → Finds search task (Some plan) text → seen' ≡ seen → full
      → Planned s desk full key edition search task (error_answer Full) seen seen'
  no_room_to_install plan text seen seen' finds same f = record {
    rest = [];
    on = same_history seen seen' same;
    own = ap (placed desk) same ∙ sym (append-nil (placed desk seen));
    is = inr (f, (record { plan = plan; text = text; finds = finds }, refl, refl));
  }

-- the answer to a plan whose task was taken
module _ (s : Setting) (desk : ℕ) (full full' : Type 0) (key : List ℕ) (edition : ℕ) (search : Search) (task : Problem) (answer : Answer) (seen mid seen' : List Entry)
    (c : Calls s desk (Take key edition) (says.Task task) seen mid) where
  abbrev taken : Placed
  taken = turns.made s desk (Take key edition) (says.Task task) seen mid c

  stands : GoesOn mid seen' → IsMade s desk seen' (Take key edition) taken (says.Task task)
  stands g = made_on s desk mid seen' g (Take key edition) taken (says.Task task) (turns.call_made s desk (Take key edition) (says.Task task) seen mid c)

  -- what is made after it stands later
  later : (rest : List Placed) → GoesOn mid seen' → placed desk seen' ≡ placed desk mid ++ rest → All (λ (one : Placed). taken.0 < one.0) rest
  later rest g own =
      let long : length mid ≡ taken.0 + 1 = ap length c.grown ∙ length-append (turns.before s desk (Take key edition) (says.Task task) seen mid c) (c.entry ∷ []) in
      All-weaker (λ (one : Placed). length mid ≤ one.0) (λ (one : Placed). taken.0 < one.0) (λ one after. omega (arith, long, after)) rest
      (placed_behind (λ (entry : Entry). entry.desk) desk mid seen' rest g own)

  outcome : (rest : List Placed) → GoesOn mid seen' → placed desk seen' ≡ placed desk mid ++ rest → AnswersTask s desk seen' key edition search task rest answer ⊎ (full' × LacksRoom search task rest answer)
      → Answers s desk seen' (Ok (asks_plan key edition search)) (taken ∷ rest) answer
      ⊎ (full' × AnswersLate s desk seen' (Ok (asks_plan key edition search)) (taken ∷ rest) answer)
  outcome rest g own (inl is) =
      inl (plan_asked s desk key edition search seen' (taken ∷ rest) answer
      (inr record { taken = taken; task = task; rest = rest; take = stands g; entries_are = refl; later = later rest g own; planned = is }))
  outcome rest g own (inr (f, (found, none, told))) =
      inr (f, plan_late s desk key edition search seen' (taken ∷ rest) answer (inr (taken, task, stands g, found, ap (λ (zs : List Placed). taken ∷ zs) none)) told)

  pub plan_answered : (full → ⊥) → Planned s desk full' key edition search task answer mid seen'
      → Answered s desk full full' (Ok (asks_plan key edition search)) answer seen seen'
  plan_answered free p = record {
    entries = taken ∷ p.rest;
    on = goes_on seen mid seen' (turns.call_on s desk (Take key edition) (says.Task task) seen mid c) p.on;
    own = p.own ∙ (ap (λ (zs : List Placed). zs ++ p.rest) (turns.call_own s desk (Take key edition) (says.Task task) seen mid c)
        ∙ append_assoc (placed desk seen) (taken ∷ []) p.rest);
    is = outcome p.rest p.on p.own p.is;
    stuck = λ f. absurd (free f);
  }
