-- on no entry of a service the verdict is that its plan is for another task
use Rattle.std.proofs.Common.{◌≡◌, ℕ, Bool, true, false, List, [], ◌∷◌, ◌++◌, length, Option, None, Some, Result, Ok, Err, refl, sym, ap, ◌∙◌, subst, inl, inr}
use Rattle.std.specs.Prelude.{IsSomeAnd, not}
use Rattle.std.specs.List.{All}
use Rattle.std.proofs.lemmas.List.Elements.{All-append, All-cons, All-nil, All-same, All-head, All-tail}
use Rattle.std.proofs.lemmas.Grind.{flat_map-append}
use Rattle.hold_limits.specs.Problem.{Problem}
use Rattle.arrayvec.specs.ArrayVec.{ArrayVec}
use Rattle.aircraft_file.specs.Craft.{Craft}
use Rattle.flight_state.specs.declared.state.FlightState.{FlightState}
use Rattle.flight_row.specs.Loading.{aircraft_of}
use Rattle.flight_history.specs.declared.entry.Act.{Act}
use Rattle.flight_history.specs.declared.entry.Act.TheVariants as act
use Rattle.flight_history.specs.declared.entry.Entry.{Entry}
use Rattle.flight_history.specs.declared.entry.Outcome.{Outcome}
use Rattle.flight_history.specs.declared.entry.Outcome.TheVariants as ended
use Rattle.flight_history.specs.declared.reply.Refusal.{Refusal}
use Rattle.flight_history.specs.declared.reply.Refusal.TheVariants as no
use Rattle.flight_history.specs.declared.reply.Reply.{Reply}
use Rattle.flight_history.specs.declared.reply.Reply.TheVariants as says
use Rattle.flight_history.specs.declared.request.Request.{Request}
use Rattle.flight_history.specs.declared.request.Request.TheVariants as request
use Rattle.flight_history.specs.History.{Judged, IsJudgedBy, IsJudgement, flight_at, is_full, standing_of}
use Rattle.flight_history.specs.Standing.{standing}
use Rattle.flight_history.specs.Verdict.{IsTaskFor, IsVerdict, Says, first_of, not_current, refuse_if}
use Rattle.flight_history.proofs.OneHistory.{one-acts}
use Rattle.flight_history.proofs.VerdictLemmas.{task-laws}
use Rattle.editions.specs.Acts.{IsActWith, HasPlanOf}
use Rattle.http_wire.specs.Requests as http
use Rattle.desk_answers.specs.declared.answer.Answer.{Answer}
use Rattle.desk_answers.specs.declared.errors.PlainError.{PlainError}
use Rattle.desk_requests.specs.Asked.{AsksBy, asked_of}
use Rattle.desk_requests.specs.declared.asked.Asked.{Asked}
use Rattle.desk_requests.specs.declared.asked.Asked.TheVariants as asked
use Rattle.desk_requests.specs.declared.wanted.Wanted.{Wanted}
use Rattle.desk_requests.specs.declared.wanted.Wanted.TheVariants as wanted
use Rattle.desk_routes.specs.declared.route.Route.{Route}
use Rattle.desk_routes.specs.Targets.{route_of}
use Rattle.desk_service.specs.declared.searches.Search.{Search}
use Rattle.desk_service.specs.declared.searches.Search.TheVariants.{Within, ByTrees}
use Rattle.desk_service.specs.Turns.{Setting, Placed, IsMade}
use Rattle.desk_service.specs.Searches.{install_of}
use Rattle.desk_service.specs.Exchanges.{AnswersTask, AnswersTaken, AnswersPlan, InstallsPlan, Answers, AnswersLate, Exchange, IsRead, IsServed, IsLate, LacksEntry, LacksPlan}
use Rattle.desk_service.specs.Laws.{IsForItsTask, NeverOtherTask}
use Rattle.desk_service.specs.Service.{entries_of}
use Rattle.desk_service.proofs.Plans.{task_of, finds_best, has_plan, key_of_install, writes_path}
use Rattle.desk_service.proofs.PlansStay.{WasCurrent, current, first_later, still, task_at}
use Rattle.desk_service.proofs.Refusals.{IsOwn, no_way, current_clear, first_passed, verdict_clear}

abbrev is_install : Request → Bool
is_install (request.Install key edition plan) = true
is_install (request.InstallBest key edition plan) = true
is_install _ = false

own_act : (asks : Request) (same : Bool) (x : Act) → is_install asks ≡ false → IsActWith same asks x → IsOwn true x
own_act (request.NewFlight leg) same x not_install is = subst (IsOwn true) (sym is) tt
own_act (request.Set key edition told) same x not_install is = subst (IsOwn true) (sym is) tt
own_act (request.Take key edition) same x not_install is = subst (IsOwn true) (sym is) tt
own_act (request.Install key edition plan) same x not_install is = absurd (no_way not_install)
own_act (request.InstallBest key edition plan) same x not_install is = absurd (no_way not_install)
own_act (request.Release key edition) same x not_install is = subst (IsOwn true) (sym is) tt
own_act (request.Late key edition change) same x not_install is = subst (IsOwn true) (sym is) tt
own_act (request.Reopen key edition) same x not_install is = subst (IsOwn true) (sym is) tt
own_act (request.Depart key edition) same x not_install is = subst (IsOwn true) (sym is) tt
own_act (request.Show key what) same x not_install is = subst (IsOwn true) (sym is) tt

-- the verdict is that of the office, where it is that refusal
as_verdict : (outcome : Outcome) (fleet : List Craft) (opening : List FlightState) (history : List Judged) (j : Judged) → IsJudgedBy outcome fleet opening history j → j.verdict ≡ Some no.OtherTask
    → IsVerdict fleet (is_full opening history) (standing_of fleet opening history j.entry.key) j.entry.act (Some no.OtherTask)
as_verdict ended.Done fleet opening history j judged is = subst (λ (v : Option Refusal). IsVerdict fleet (is_full opening history) (standing_of fleet opening history j.entry.key) j.entry.act v) is judged
as_verdict ended.KeeperFailed fleet opening history j judged is = subst (λ (v : Option Refusal). IsVerdict fleet (is_full opening history) (standing_of fleet opening history j.entry.key) j.entry.act v) is judged
as_verdict ended.NoMemory fleet opening history j judged is = absurd (no_refusal (sym judged ∙ is))
  where
    no_refusal : None ≡ Some no.OtherTask → ⊥
    no_refusal e = absurd (cc)

-- the entries before a place are the same ones
same_before : (xs ys us vs : List Entry) (x y : Entry) → xs ++ x ∷ us ≡ ys ++ y ∷ vs → length xs ≡ length ys → xs ≡ ys
same_before [] [] us vs x y is long = refl
same_before [] (w ∷ ws) us vs x y is long = absurd (cc)
same_before (z ∷ zs) [] us vs x y is long = absurd (cc)
same_before (z ∷ zs) (w ∷ ws) us vs x y is long =
    let head : z ≡ w = cc in
    let tail : zs ++ x ∷ us ≡ ws ++ y ∷ vs = cc in
    let less : length zs ≡ length ws = cc in
    ap (λ (e : Entry). e ∷ zs) head ∙ ap (λ (es : List Entry). w ∷ es) (same_before zs ws us vs x y tail less)

module _ (s : Setting) (desk : ℕ) (history : List Entry) where
  abbrev stand : List Judged → List ℕ → Option FlightState
  stand judged key = standing_of s.fleet s.opening judged key

  -- what asks for no installation is for its task
  other_clear : (asks : Request) (made : Placed) (reply : Reply) → IsMade s desk history asks made reply → is_install asks ≡ false → IsForItsTask s history made
  other_clear asks made reply m not_install before stands judged judgement j of_made is verdict =
      let t = m.turn in
      let own : IsOwn true j.entry.act = subst (λ (e : Entry). IsOwn true e.act) (sym (of_made ∙ t.of_entry)) (own_act asks t.of_act.same t.j.entry.act not_install t.of_act.asks) in
      verdict_clear true s.fleet (is_full s.opening judged) (stand judged j.entry.key) j.entry.act own (as_verdict j.entry.outcome s.fleet s.opening judged j is verdict)

  -- Plans ------------------------------------------------------------------------------------------------------

  other_current : (full : Bool) (st : Option FlightState) (edition : ℕ) (path : ArrayVec ℕ) (same : Bool) → IsVerdict s.fleet full st (act.Install edition path same) (Some no.OtherTask) → WasCurrent st edition
  other_current full None edition path same is = absurd (cc)
  other_current full (Some t) edition path same is = record {
    flight = t;
    stands = refl;
    edition_is = current t edition (first_passed true (not_current t edition) (first_of (refuse_if (not same) no.OtherTask ∷ []))
        (λ said. IsSomeAnd (aircraft_of s.fleet t.leg) (λ a. Says a t (act.Install edition path same) said)) (current_clear true t edition) is);
  }

  own_install : (full : Bool) (st : Option FlightState) (edition : ℕ) (path : ArrayVec ℕ) (same : Bool) → same ≡ true → IsVerdict s.fleet full st (act.Install edition path same) (Some no.OtherTask) → ⊥
  own_install full st edition path same is verdict = verdict_clear true s.fleet full st (act.Install edition path same) (rw is refl) verdict

  plan_clear : (key : List ℕ) (edition : ℕ) (search : Search) (entries : List Placed) (answer : Answer) (taken : AnswersTaken s desk history key edition search entries answer)
      (plan : InstallsPlan s desk history key edition search taken.task taken.rest answer) → IsForItsTask s history plan.installed
  plan_clear key edition search entries answer taken plan before stands judged judgement j of_made is verdict =
      let turn = plan.turn.turn in
      let found = plan.found.plan in
      let wrote = writes_path key edition found turn.of_act.same turn.j.entry.act turn.of_act.asks in
      let key_is : turn.j.entry.key ≡ key = turn.of_key ∙ key_of_install key edition found in
      let here = same_before before plan.turn.before stands.after plan.turn.stands.after plan.installed.1 plan.installed.1 (sym stands.at ∙ plan.turn.stands.at) (sym stands.long ∙ plan.turn.stands.long) in
      let ours : IsJudgement s.fleet s.opening plan.turn.before judged = subst (λ (es : List Entry). IsJudgement s.fleet s.opening es judged) here judgement in
      let one : j.entry ≡ turn.j.entry = of_made ∙ turn.of_entry in
      let own : j.entry.key ≡ key = ap (λ (e : Entry). e.key) one ∙ key_is in
      let x : j.entry.act ≡ act.Install edition wrote.path turn.of_act.same = ap (λ (e : Entry). e.act) one ∙ wrote.is in
      let said = as_verdict j.entry.outcome s.fleet s.opening judged j is verdict in
      let here_said = subst (λ (k : List ℕ). IsVerdict s.fleet (is_full s.opening judged) (stand judged k) j.entry.act (Some no.OtherTask)) own said in
      let install_said = subst (λ (y : Act). IsVerdict s.fleet (is_full s.opening judged) (stand judged key) y (Some no.OtherTask)) x here_said in
      let was = other_current (is_full s.opening judged) (stand judged key) edition wrote.path turn.of_act.same install_said in
      let st = still s desk history key edition taken.taken plan.installed taken.task (install_of key edition found) plan.reply taken.take plan.turn
      (first_later taken.taken plan.installed taken.rest taken.later plan.rest_is) judged ours in
      let at = task_at s desk history key edition taken.task judged st was in
      let acts = one-acts task-laws s.fleet s.opening plan.turn.before turn.history judged key turn.judgement ours in
      let stood : stand turn.history turn.j.entry.key ≡ Some at.flight =
      ap (stand turn.history) key_is ∙ (ap (standing s.fleet (flight_at s.opening key)) acts ∙ at.stands) in
      let best = finds_best search taken.task found plan.found.text plan.found.finds in
      let has : IsTaskFor s.fleet at.flight (task_of found) = subst (λ (t : Problem). IsTaskFor s.fleet at.flight t) (sym best.own) at.of_figures in
      let same : turn.of_act.same ≡ true = turn.of_act.exactly.1
      (subst (λ (o : Option FlightState). HasPlanOf s.fleet o (install_of key edition found)) (sym stood) (has_plan s.fleet at.flight key edition found has)) in
      own_install (is_full s.opening judged) (stand judged key) edition wrote.path turn.of_act.same same install_said

  -- Exchanges ----------------------------------------------------------------------------------------------------

  abbrev AreClear : List Placed → Type 0
  AreClear entries = All (IsForItsTask s history) entries

  none_clear : (entries : List Placed) → entries ≡ [] → AreClear entries
  none_clear entries is = All-same (IsForItsTask s history) entries [] is (All-nil (IsForItsTask s history))

  one_clear : (entries : List Placed) (made : Placed) → entries ≡ made ∷ [] → IsForItsTask s history made → AreClear entries
  one_clear entries made is clear = All-same (IsForItsTask s history) entries (made ∷ []) is (All-cons (IsForItsTask s history) made [] clear (All-nil (IsForItsTask s history)))

  both_clear : (entries rest : List Placed) (made : Placed) → entries ≡ made ∷ rest → IsForItsTask s history made → AreClear rest → AreClear entries
  both_clear entries rest made is clear more = All-same (IsForItsTask s history) entries (made ∷ rest) is (All-cons (IsForItsTask s history) made rest clear more)

  rest_clear : (key : List ℕ) (edition : ℕ) (search : Search) (entries : List Placed) (answer : Answer) (a : AnswersTaken s desk history key edition search entries answer)
      → AnswersTask s desk history key edition search a.task a.rest answer → AreClear a.rest
  rest_clear key edition search entries answer a (inl out) = none_clear a.rest out.0
  rest_clear key edition search entries answer a (inr (inl told)) = none_clear a.rest told.0
  rest_clear key edition search entries answer a (inr (inr plan)) = one_clear a.rest plan.installed plan.rest_is (plan_clear key edition search entries answer a plan)

  searched_clear : (key : List ℕ) (edition : ℕ) (search : Search) (entries : List Placed) (answer : Answer) → AnswersPlan s desk history key edition search entries answer → AreClear entries
  searched_clear key edition search entries answer (inl a) = one_clear entries a.made a.entries_are (other_clear (request.Take key edition) a.made a.reply a.turn refl)
  searched_clear key edition search entries answer (inr a) =
      both_clear entries a.rest a.taken a.entries_are (other_clear (request.Take key edition) a.taken (says.Task a.task) a.take refl) (rest_clear key edition search entries answer a a.planned)

  abbrev installs : Asked → Bool
  installs (asked.Entry asks) = is_install asks
  installs (asked.Plan key edition budget) = false
  installs (asked.Best key edition looks) = false

  abbrev installs_if_asked : Result Asked PlainError → Bool
  installs_if_asked (Ok it) = installs it
  installs_if_asked (Err error) = false

  asked_clear : (key : List ℕ) (edition : ℕ) (it : Wanted) → installs (asked_of key edition it) ≡ false
  asked_clear key edition (wanted.Open leg) = refl
  asked_clear key edition (wanted.Show what) = refl
  asked_clear key edition (wanted.Set told) = refl
  asked_clear key edition (wanted.Plan budget) = refl
  asked_clear key edition (wanted.Best looks) = refl
  asked_clear key edition wanted.Take = refl
  asked_clear key edition wanted.Release = refl
  asked_clear key edition (wanted.Late change) = refl
  asked_clear key edition wanted.Reopen = refl
  asked_clear key edition wanted.Depart = refl

  -- no request over HTTP asks for an installation by itself
  clear_by : (route : Option Route) (method target body : List ℕ) (it : Asked) → AsksBy route method target body (Ok it) → installs it ≡ false
  clear_by None method target body it is = ap installs_if_asked is
  clear_by (Some route) method target body it is = ap installs is.1.2.3 ∙ asked_clear _ is.1.0 is.1.2.0

  read_clear : (heard : http.Request) (it : Asked) → IsRead heard (Ok it) → installs it ≡ false
  read_clear heard it (inl out) = ap installs_if_asked out
  read_clear heard it (inr asks) = clear_by (route_of heard.target) heard.method heard.target heard.body it asks

  served_by : (heard : http.Request) (it : Result Asked PlainError) (entries : List Placed) (answer : Answer) → IsRead heard it → Answers s desk history it entries answer → AreClear entries
  served_by heard (Err error) entries answer read is = none_clear entries is.0
  served_by heard (Ok (asked.Entry asks)) entries answer read a = one_clear entries a.made a.entries_are (other_clear asks a.made a.reply a.turn (read_clear heard (asked.Entry asks) read))
  served_by heard (Ok (asked.Plan key edition budget)) entries answer read a = searched_clear key edition (Within budget) entries answer a
  served_by heard (Ok (asked.Best key edition looks)) entries answer read a = searched_clear key edition (ByTrees looks) entries answer a

  lacking_plan : (key : List ℕ) (edition : ℕ) (search : Search) (entries : List Placed) → LacksPlan s desk history key edition search entries → AreClear entries
  lacking_plan key edition search entries (inl none) = none_clear entries none
  lacking_plan key edition search entries (inr l) = one_clear entries l.0 l.4 (other_clear (request.Take key edition) l.0 (says.Task l.1) l.2 refl)

  lacking : (it : Asked) (entries : List Placed) → LacksEntry s desk history it entries → AreClear entries
  lacking (asked.Entry asks) entries none = none_clear entries none
  lacking (asked.Plan key edition budget) entries lacks = lacking_plan key edition (Within budget) entries lacks
  lacking (asked.Best key edition looks) entries lacks = lacking_plan key edition (ByTrees looks) entries lacks

  late_by : (it : Result Asked PlainError) (entries : List Placed) (answer : Answer) → AnswersLate s desk history it entries answer → AreClear entries
  late_by (Err error) entries answer is = none_clear entries is.0
  late_by (Ok it) entries answer is = lacking it entries is.0

  all_served : (xs : List Exchange) → All (IsServed s desk history) xs → AreClear (entries_of xs)
  all_served [] all = All-nil (IsForItsTask s history)
  all_served (x ∷ xs) all =
      let is = All-head (IsServed s desk history) x xs all in
      All-append (IsForItsTask s history) x.entries (entries_of xs) (served_by x.request x.asked x.entries x.answer is.read is.answers)
      (all_served xs (All-tail (IsServed s desk history) x xs all))

  all_late : (xs : List Exchange) → All (IsLate s desk history) xs → AreClear (entries_of xs)
  all_late [] all = All-nil (IsForItsTask s history)
  all_late (x ∷ xs) all =
      All-append (IsForItsTask s history) x.entries (entries_of xs) (late_by x.asked x.entries x.answer (All-head (IsLate s desk history) x xs all).answers)
      (all_late xs (All-tail (IsLate s desk history) x xs all))

pub never_other_task : NeverOtherTask
never_other_task s desk history exchanges v =
    All-same (IsForItsTask s history) (entries_of exchanges) (entries_of v.early ++ entries_of v.late)
    (ap entries_of v.all ∙ flat_map-append (λ (x : Exchange). x.entries) v.early v.late)
    (All-append (IsForItsTask s history) (entries_of v.early) (entries_of v.late) (all_served s desk history v.early v.served) (all_late s desk history v.late v.lacking))
