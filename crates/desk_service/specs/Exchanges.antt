-- exchanges: what is asked of a desk, the entries that it makes for it, and what it answers
use Rattle.std.specs.Prelude.{◌≡◌, ◌⊎◌, ◌<◌, ℕ, Bool, true, false, List, [], ◌∷◌, All, None, Result, Ok, Err}
use Rattle.hold_limits.specs.Problem.{Problem}
use Rattle.flight_history.specs.declared.entry.Entry.{Entry}
use Rattle.flight_history.specs.declared.reply.Reply.{Reply}
use Rattle.flight_history.specs.declared.reply.Reply.TheVariants as says
use Rattle.flight_history.specs.declared.request.Request.{Request}
use Rattle.flight_history.specs.declared.request.Request.TheVariants.{Take, Show}
use Rattle.flight_history.specs.declared.request.What.TheVariants.{Ldm, Cpm}
use Rattle.http_wire.specs.Requests as http
use Rattle.desk_answers.specs.Answers.{answer_to, error_answer, text_answer}
use Rattle.desk_answers.specs.declared.answer.Answer.{Answer}
use Rattle.desk_answers.specs.declared.answer.Document.{Document}
use Rattle.desk_answers.specs.declared.answer.Document.TheVariants.{Loadsheet, LoadMessage, ContainerMessage}
use Rattle.desk_answers.specs.declared.errors.PlainError.{PlainError}
use Rattle.desk_answers.specs.declared.errors.PlainError.TheVariants.{Full, Memory}
use Rattle.desk_requests.specs.Asked.{Asks}
use Rattle.desk_requests.specs.declared.asked.Asked.{Asked}
use Rattle.desk_requests.specs.declared.asked.Asked.TheVariants as asked
use Rattle.desk_service.specs.declared.searches.Search.{Search}
use Rattle.desk_service.specs.declared.searches.Search.TheVariants.{Within, ByTrees}
use Rattle.desk_service.specs.Searches.{Finds, FindsPlan, install_of}
use Rattle.desk_service.specs.Turns.{Setting, Placed, IsMade}

-- Answers to one turn --------------------------------------------------------------------------------

-- the document that a request asks for; a release issues the loadsheet
abbrev pub document_of : Request → Document
document_of (Show key Ldm) = LoadMessage
document_of (Show key Cpm) = ContainerMessage
document_of _ = Loadsheet

-- the answer is the one that is due, or memory ran out
abbrev pub IsDue : Answer → Answer → Type 0
IsDue due answer = (answer ≡ error_answer Memory) ⊎ (due ≡ answer)

-- a request that makes one entry: the answer is that to the reply at the entry's place
pub record AnswersTurn (s : Setting) (desk : ℕ) (history : List Entry) (request : Request) (entries : List Placed) (answer : Answer) : Type 0 where
  pub made : Placed
  pub reply : Reply
  pub turn : IsMade s desk history request made reply
  pub entries_are : entries ≡ made ∷ []
  pub due : IsDue (answer_to (document_of request) reply) answer

-- Answers to a plan ----------------------------------------------------------------------------------

-- what asks for a plan by this search
abbrev pub asks_plan : List ℕ → ℕ → Search → Asked
asks_plan key edition (Within budget) = asked.Plan key edition budget
asks_plan key edition (ByTrees looks) = asked.Best key edition looks

-- the plan's task was taken: an entry, with the task as its reply
abbrev pub IsTaken : Setting → ℕ → List Entry → List ℕ → ℕ → Placed → Problem → Type 0
IsTaken s desk history key edition taken task = IsMade s desk history (Take key edition) taken (says.Task task)

-- the search found no plan for the task, and the answer tells what it found
pub record TellsNoPlan (search : Search) (task : Problem) (answer : Answer) : Type 0 where
  pub text : List ℕ
  pub finds : Finds search task None text
  pub told : answer ≡ text_answer text

-- the reply says that the plan was installed
abbrev pub is_installed : Reply → Bool
is_installed (says.Edition edition) = true
is_installed reply = false

-- the answer to a plan that was to be installed: the plan's text and no other where it was, and else what is due to the reply
abbrev pub AnswersInstallIf : Bool → Answer → Reply → Answer → Type 0
AnswersInstallIf true plan reply answer = answer ≡ plan
AnswersInstallIf false plan reply answer = IsDue (answer_to Loadsheet reply) answer

abbrev pub AnswersInstall : Answer → Reply → Answer → Type 0
AnswersInstall plan reply answer = AnswersInstallIf (is_installed reply) plan reply answer

-- the search found a plan for the task, and a second entry asked to install it
pub record InstallsPlan (s : Setting) (desk : ℕ) (history : List Entry) (key : List ℕ) (edition : ℕ) (search : Search) (task : Problem) (rest : List Placed) (answer : Answer) : Type 0 where
  pub found : FindsPlan search task
  pub installed : Placed
  pub reply : Reply
  pub turn : IsMade s desk history (install_of key edition found.plan) installed reply
  pub rest_is : rest ≡ installed ∷ []
  pub answer_is : AnswersInstall (text_answer found.text) reply answer

-- what is answered once the task was taken: memory ran out, there is no plan, or it was to be installed
abbrev pub AnswersTask : Setting → ℕ → List Entry → List ℕ → ℕ → Search → Problem → List Placed → Answer → Type 0
AnswersTask s desk history key edition search task rest answer =
    ((rest ≡ []) × (answer ≡ error_answer Memory))
    ⊎ (((rest ≡ []) × TellsNoPlan search task answer)
    ⊎ InstallsPlan s desk history key edition search task rest answer)

-- a request for a plan whose task was taken; its other entries stand later
pub record AnswersTaken (s : Setting) (desk : ℕ) (history : List Entry) (key : List ℕ) (edition : ℕ) (search : Search) (entries : List Placed) (answer : Answer) : Type 0 where
  pub taken : Placed
  pub task : Problem
  pub rest : List Placed
  pub take : IsTaken s desk history key edition taken task
  pub entries_are : entries ≡ taken ∷ rest
  pub later : All (λ (one : Placed). taken.0 < one.0) rest
  pub planned : AnswersTask s desk history key edition search task rest answer

-- a request for a plan: the task was not given, which is answered as any other reply, or it was taken
abbrev pub AnswersPlan : Setting → ℕ → List Entry → List ℕ → ℕ → Search → List Placed → Answer → Type 0
AnswersPlan s desk history key edition search entries answer =
    AnswersTurn s desk history (Take key edition) entries answer ⊎ AnswersTaken s desk history key edition search entries answer

-- Answers ------------------------------------------------------------------------------------------

-- what is refused before its turn makes no entry
abbrev pub AnswersError : PlainError → List Placed → Answer → Type 0
AnswersError error entries answer = (entries ≡ []) × (answer ≡ error_answer error)

-- the entries and the answer to what was asked, where there was room for each entry
abbrev pub Answers : Setting → ℕ → List Entry → Result Asked PlainError → List Placed → Answer → Type 0
Answers s desk history (Err error) entries answer = AnswersError error entries answer
Answers s desk history (Ok (asked.Entry request)) entries answer = AnswersTurn s desk history request entries answer
Answers s desk history (Ok (asked.Plan key edition budget)) entries answer = AnswersPlan s desk history key edition (Within budget) entries answer
Answers s desk history (Ok (asked.Best key edition looks)) entries answer = AnswersPlan s desk history key edition (ByTrees looks) entries answer

-- the search found a plan for the task, and there was no room for the entry that asks to install it
abbrev pub LacksRoom : Search → Problem → List Placed → Answer → Type 0
LacksRoom search task rest answer = FindsPlan search task × (rest ≡ []) × (answer ≡ error_answer Full)

-- the plan's task was taken, and there was no room for that entry
abbrev pub LacksInstall : Setting → ℕ → List Entry → List ℕ → ℕ → Search → List Placed → Type 0
LacksInstall s desk history key edition search entries =
    (taken : Placed) × (task : Problem)
    × IsTaken s desk history key edition taken task × FindsPlan search task × (entries ≡ taken ∷ [])

-- there was no room for that entry, or for the one that takes the task
abbrev pub LacksPlan : Setting → ℕ → List Entry → List ℕ → ℕ → Search → List Placed → Type 0
LacksPlan s desk history key edition search entries =
    (entries ≡ []) ⊎ LacksInstall s desk history key edition search entries

-- there was no room for an entry that was needed
abbrev pub LacksEntry : Setting → ℕ → List Entry → Asked → List Placed → Type 0
LacksEntry s desk history (asked.Entry request) entries = entries ≡ []
LacksEntry s desk history (asked.Plan key edition budget) entries = LacksPlan s desk history key edition (Within budget) entries
LacksEntry s desk history (asked.Best key edition looks) entries = LacksPlan s desk history key edition (ByTrees looks) entries

-- the entries and the answer to what was asked, where there is no room for an entry that it needs
abbrev pub AnswersLate : Setting → ℕ → List Entry → Result Asked PlainError → List Placed → Answer → Type 0
AnswersLate s desk history (Err error) entries answer = AnswersError error entries answer
AnswersLate s desk history (Ok it) entries answer = LacksEntry s desk history it entries × (answer ≡ error_answer Full)

-- Exchanges ----------------------------------------------------------------------------------------

-- a request over HTTP, what it asks, the entries that it made with their places, and its answer
pub record Exchange : Type 0 where
  pub request : http.Request
  pub asked : Result Asked PlainError
  pub entries : List Placed
  pub answer : Answer

-- it is what the request asks, or memory ran out before that was known
abbrev pub IsRead : http.Request → Result Asked PlainError → Type 0
IsRead request it = (it ≡ Err Memory) ⊎ Asks request.method request.target request.body it

pub record IsServed (s : Setting) (desk : ℕ) (history : List Entry) (x : Exchange) : Type 0 where
  pub read : IsRead x.request x.asked
  pub answers : Answers s desk history x.asked x.entries x.answer

pub record IsLate (s : Setting) (desk : ℕ) (history : List Entry) (x : Exchange) : Type 0 where
  pub read : IsRead x.request x.asked
  pub answers : AnswersLate s desk history x.asked x.entries x.answer
