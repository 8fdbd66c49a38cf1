-- a plan that is installed is the best one for the figures of its edition: a flight's effective figures change only where its edition
-- rises, so the task that was taken is still the flight's
use Rattle.std.proofs.Common.{◌≡◌, ◌+◌, ◌<◌, ◌≤◌, ◌&&◌, ℕ, Bool, true, false, List, [], ◌∷◌, ◌++◌, length, map, filter, Option, None, Some, refl, sym, ap, ◌∙◌, subst, arith, append-nil, append_assoc}
use Rattle.std.specs.Prelude.{IsSomeAnd, nat_lt, not}
use Rattle.std.specs.List.{All, filter}
use Rattle.std.proofs.lemmas.Bool.Decides.{nat_tests}
use Rattle.std.proofs.lemmas.List.{map-append}
use Rattle.std.proofs.lemmas.List.Elements.{All-head, filter-append}
use Rattle.hold_limits.specs.Problem.{Problem}
use Rattle.aircraft_file.specs.Craft.{Craft}
use Rattle.trim.specs.declared.figures.Figures.{Figures}
use Rattle.trim.specs.Refusals.{IsTaskOf}
use Rattle.flight_state.specs.declared.state.FlightState.{FlightState}
use Rattle.flight_state.specs.Effective.{effective}
use Rattle.flight_row.specs.Loading.{aircraft_of}
use Rattle.flight_history.specs.declared.entry.Act.{Act}
use Rattle.flight_history.specs.declared.entry.Act.TheVariants as act
use Rattle.flight_history.specs.declared.entry.Entry.{Entry}
use Rattle.flight_history.specs.declared.entry.Outcome.{Outcome}
use Rattle.flight_history.specs.declared.entry.Outcome.TheVariants as ended
use Rattle.flight_history.specs.declared.reply.Refusal.{Refusal}
use Rattle.flight_history.specs.declared.reply.Refusal.TheVariants as no
use Rattle.flight_history.specs.declared.reply.Reply.{Reply}
use Rattle.flight_history.specs.declared.reply.Reply.TheVariants as says
use Rattle.flight_history.specs.declared.request.Request.{Request}
use Rattle.flight_history.specs.declared.request.Request.TheVariants.{Take}
use Rattle.flight_history.specs.History.{Judged, is_accepted, is_of, acts_of, flight_at, standing_of, is_full, IsJudgedBy, AreJudgedAfter, IsJudgement}
use Rattle.flight_history.specs.Replies.{IsTaskReply, IsReplyBy}
use Rattle.flight_history.specs.Standing.{standing}
use Rattle.flight_history.specs.Step.{step, after}
use Rattle.flight_history.specs.Verdict.{IsVerdict, IsTaskFor, first_of, is_departed, not_current, reasons, refuse_if}
use Rattle.flight_history.proofs.OneHistory.{one-acts}
use Rattle.flight_history.proofs.ReleaseLemmas.{first_none, both_none, current_by}
use Rattle.flight_history.proofs.StandingLemmas.{standing-push}
use Rattle.flight_history.proofs.VerdictLemmas.{task-laws}
use Rattle.desk_service.specs.Turns.{Setting, Placed, IsMade}
use Rattle.desk_service.specs.Searches.{install_of}
use Rattle.desk_service.specs.Exchanges.{is_installed}
use Rattle.desk_service.specs.Laws.{InstallsTheBest, IsTaskAt}
use Rattle.desk_service.proofs.Plans.{WritesPath, writes_path, key_of_install, finds_best}
use Rattle.desk_service.proofs.Refusals.{no_way}

-- Figures change with the edition ------------------------------------------------------------------------

-- a flight as it stands later
pub record Follows (s t : FlightState) : Type 0 where
  pub leg : t.leg ≡ s.leg
  pub rises : s.edition ≤ t.edition
  pub figures : t.edition ≡ s.edition → effective t ≡ effective s

follows_itself : (s : FlightState) → Follows s s
follows_itself s = record { leg = refl; rises = omega arith; figures = λ _. refl }

no_more : (n : ℕ) → n + 1 ≡ n → ⊥
no_more n e = omega (arith, e)

follows_step : (s : FlightState) (x : Act) → Follows s (step s x)
follows_step s (act.NewFlight leg) = record { leg = refl; rises = omega arith; figures = λ _. refl }
follows_step s (act.Set edition told) = record { leg = refl; rises = omega arith; figures = λ e. absurd (no_more s.edition e) }
follows_step s (act.Take edition) = follows_itself s
follows_step s (act.Install edition path same) = record { leg = refl; rises = omega arith; figures = λ _. refl }
follows_step s (act.Release edition) = record { leg = refl; rises = omega arith; figures = λ _. refl }
follows_step s (act.Late edition change) = record { leg = refl; rises = omega arith; figures = λ e. absurd (no_more s.edition e) }
follows_step s (act.Reopen edition) = record { leg = refl; rises = omega arith; figures = λ e. absurd (no_more s.edition e) }
follows_step s (act.Depart edition) = record { leg = refl; rises = omega arith; figures = λ _. refl }
follows_step s (act.Show what) = follows_itself s

follows_on : (s t u : FlightState) → Follows s t → Follows t u → Follows s u
follows_on s t u f g =
    let a = f.rises in
    let b = g.rises in
    record {
      leg = g.leg ∙ f.leg;
      rises = omega (arith, a, b);
      figures = λ e. g.figures (omega (arith, a, b, e)) ∙ f.figures (omega (arith, a, b, e));
    }

-- a flight that is there is there after more acts
pub record Stays (fleet : List Craft) (opened : Option FlightState) (acts : List Act) (s : FlightState) : Type 0 where
  pub flight : FlightState
  pub stands : standing fleet opened acts ≡ Some flight
  pub follows : Follows s flight

stays : (fleet : List Craft) (opened : Option FlightState) (acts more : List Act) (s : FlightState) → standing fleet opened acts ≡ Some s → Stays fleet opened (acts ++ more) s
stays fleet opened acts [] s here = record { flight = s; stands = ap (standing fleet opened) (append-nil acts) ∙ here; follows = follows_itself s }
stays fleet opened acts (x ∷ xs) s here =
    let next : standing fleet opened (acts ++ x ∷ []) ≡ Some (step s x) =
    standing-push fleet opened acts x (λ absent. absurd (there s (sym here ∙ absent))) ∙ ap (λ (o : Option FlightState). after fleet o x) here in
    let rest = stays fleet opened (acts ++ x ∷ []) xs (step s x) next in
    record {
      flight = rest.flight;
      stands = ap (standing fleet opened) (sym (append_assoc acts (x ∷ []) xs)) ∙ rest.stands;
      follows = follows_on s (step s x) rest.flight (follows_step s x) rest.follows;
    }
  where
    there : (t : FlightState) → Some t ≡ None → ⊥
    there t e = absurd (cc)

-- the task of the flight's figures is still the same one, at the same edition
same_task : (fleet : List Craft) (s t : FlightState) (task : Problem) → Follows s t → t.edition ≡ s.edition → IsTaskFor fleet s task → IsTaskFor fleet t task
same_task fleet s t task f same is =
    subst (λ (found : Option Craft). IsSomeAnd found (λ a. IsTaskOf a (effective t) task)) (ap (λ leg. aircraft_of fleet leg) (sym f.leg))
    (subst (λ (figures : Figures). IsSomeAnd (aircraft_of fleet s.leg) (λ a. IsTaskOf a figures task)) (sym (f.figures same)) is)

-- Histories that go on -------------------------------------------------------------------------------------

abbrev entry_in : Judged → Entry
entry_in j = j.entry

-- the judged entries of a part of the history
record Parts (xs ys : List Entry) (history : List Judged) : Type 0 where
  one : List Judged
  other : List Judged
  whole : history ≡ one ++ other
  first : xs ≡ map entry_in one

parts : (xs ys : List Entry) (history : List Judged) → xs ++ ys ≡ map entry_in history → Parts xs ys history
parts [] ys history is = record { one = []; other = history; whole = refl; first = refl }
parts (x ∷ xs) ys [] is = absurd (cc)
parts (x ∷ xs) ys (j ∷ js) is =
    let head : x ≡ j.entry = cc in
    let tail : xs ++ ys ≡ map entry_in js = cc in
    let p = parts xs ys js tail in
    record { one = j ∷ p.one; other = p.other; whole = ap (λ (zs : List Judged). j ∷ zs) p.whole; first = ap (λ (e : Entry). e ∷ xs) head ∙ ap (λ (zs : List Entry). j.entry ∷ zs) p.first }

judged_first : (fleet : List Craft) (opening : List FlightState) (before one other : List Judged) → AreJudgedAfter fleet opening before (one ++ other) → AreJudgedAfter fleet opening before one
judged_first fleet opening before [] other all = tt
judged_first fleet opening before (j ∷ js) other all = (all.0, judged_first fleet opening (before ++ j ∷ []) js other all.1)

abbrev counts : List ℕ → Judged → Bool
counts key j = is_of key j && is_accepted j

acts-append : (key : List ℕ) (one other : List Judged) → acts_of key (one ++ other) ≡ acts_of key one ++ acts_of key other
acts-append key one other =
    ap (map (λ (j : Judged). j.entry.act)) (filter-append (counts key) one other)
    ∙ map-append (λ (j : Judged). j.entry.act) (filter (counts key) one) (filter (counts key) other)

-- a flight that stands after a history stands after each that continues it
stands_later : (fleet : List Craft) (opening : List FlightState) (before more : List Entry) (history longer : List Judged) (key : List ℕ) (s : FlightState)
    → IsJudgement fleet opening before history → IsJudgement fleet opening (before ++ more) longer → standing_of fleet opening history key ≡ Some s
    → Stays fleet (flight_at opening key) (acts_of key longer) s
stands_later fleet opening before more history longer key s h g here =
    let p = parts before more longer g.entries_are in
    let first : IsJudgement fleet opening before p.one =
    record { entries_are = p.first; judged = judged_first fleet opening [] p.one p.other (subst (AreJudgedAfter fleet opening []) p.whole g.judged) } in
    let same : acts_of key p.one ≡ acts_of key history = one-acts task-laws fleet opening before p.one history key first h in
    let all : acts_of key longer ≡ acts_of key history ++ acts_of key p.other =
    ap (acts_of key) p.whole ∙ (acts-append key p.one p.other ∙ ap (λ (acts : List Act). acts ++ acts_of key p.other) same) in
    subst (λ (acts : List Act). Stays fleet (flight_at opening key) acts s) (sym all)
    (stays fleet (flight_at opening key) (acts_of key history) (acts_of key p.other) s here)

-- of two places in one history, the entries before the later one have the earlier one among them
behind : (xs ys us vs : List Entry) (x y : Entry) → xs ++ x ∷ us ≡ ys ++ y ∷ vs → length xs < length ys → (mid : List Entry) × (ys ≡ xs ++ mid)
behind [] ys us vs x y is less = (ys, refl)
behind (z ∷ zs) [] us vs x y is less = absurd (omega (arith, less))
behind (z ∷ zs) (w ∷ ws) us vs x y is less =
    let head : z ≡ w = cc in
    let tail : zs ++ x ∷ us ≡ ws ++ y ∷ vs = cc in
    let rest = behind zs ws us vs x y tail (omega (arith, less)) in
    (rest.0, ap (λ (e : Entry). e ∷ ws) (sym head) ∙ ap (λ (es : List Entry). z ∷ es) rest.1)

-- What was taken -------------------------------------------------------------------------------------------

newest : (edition own : ℕ) → nat_lt edition own ≡ false → nat_lt own edition ≡ false → own ≡ edition
newest edition own h g = grind (arith, nat_tests)

pub current : (s : FlightState) (edition : ℕ) → not_current s edition ≡ None → s.edition ≡ edition
current s edition passed =
    let c = current_by (is_departed s.stage) (nat_lt edition s.edition) (nat_lt s.edition edition) s.edition passed in
    newest edition s.edition c.1 c.2

-- the flight was at the edition, and the task was that of its figures
record Took (fleet : List Craft) (st : Option FlightState) (edition : ℕ) (task : Problem) : Type 0 where
  flight : FlightState
  stands : st ≡ Some flight
  edition_is : flight.edition ≡ edition
  of_figures : IsTaskFor fleet flight task

abbrev task_in : Reply → Problem → Problem
task_in (says.Task task) default = task
task_in _ default = default

task_replied : (found : Option Craft) (s : FlightState) (task : Problem) → IsSomeAnd found (λ a. IsTaskReply a s (says.Task task)) → IsSomeAnd found (λ a. IsTaskOf a (effective s) task)
task_replied None s task is = is
task_replied (Some a) s task is = subst (λ (t : Problem). IsTaskOf a (effective s) t) (ap (λ (reply : Reply). task_in reply task) (sym is.2)) is.1

abbrev is_task : Reply → Bool
is_task (says.Task task) = true
is_task _ = false

took : (fleet : List Craft) (full : Bool) (st : Option FlightState) (edition : ℕ) (task : Problem) (verdict : Option Refusal)
    → IsVerdict fleet full st (act.Take edition) verdict → IsReplyBy fleet st (act.Take edition) ended.Done verdict (says.Task task) → Took fleet st edition task
took fleet full st edition task (Some refusal) judged reply = absurd (no_way (ap is_task reply))
took fleet full None edition task None judged reply = absurd reply
took fleet full (Some s) edition task None judged reply = record {
  flight = s;
  stands = refl;
  edition_is = current s edition (both_none (not_current s edition) None (first_none (first_of (reasons s (act.Take edition))) _ judged).0).0;
  of_figures = task_replied (aircraft_of fleet s.leg) s task reply;
}

took_by : (outcome : Outcome) (fleet : List Craft) (opening : List FlightState) (history : List Judged) (j : Judged) (edition : ℕ) (task : Problem) → j.entry.act ≡ act.Take edition
    → IsJudgedBy outcome fleet opening history j → IsReplyBy fleet (standing_of fleet opening history j.entry.key) j.entry.act outcome j.verdict (says.Task task)
    → Took fleet (standing_of fleet opening history j.entry.key) edition task
took_by ended.Done fleet opening history j edition task is judged reply =
    took fleet (is_full opening history) (standing_of fleet opening history j.entry.key) edition task j.verdict
    (subst (λ (x : Act). IsVerdict fleet (is_full opening history) (standing_of fleet opening history j.entry.key) x j.verdict) is judged)
    (subst (λ (x : Act). IsReplyBy fleet (standing_of fleet opening history j.entry.key) x ended.Done j.verdict (says.Task task)) is reply)
took_by ended.KeeperFailed fleet opening history j edition task is judged reply = absurd (no_way (ap is_task reply))
took_by ended.NoMemory fleet opening history j edition task is judged reply = absurd (no_way (ap is_task reply))

-- What was installed -----------------------------------------------------------------------------------------

-- the flight was at the edition
pub record WasCurrent (st : Option FlightState) (edition : ℕ) : Type 0 where
  pub flight : FlightState
  pub stands : st ≡ Some flight
  pub edition_is : flight.edition ≡ edition

accepted : (fleet : List Craft) (full : Bool) (st : Option FlightState) (edition : ℕ) (x : Act) (given : FlightState → List (Option Refusal))
    → ((s : FlightState) → reasons s x ≡ not_current s edition ∷ given s) → (IsVerdict fleet full None x None → ⊥) → IsVerdict fleet full st x None → WasCurrent st edition
accepted fleet full None edition x given by_edition none judged = absurd (none judged)
accepted fleet full (Some s) edition x given by_edition none judged =
    let passed = (first_none (first_of (reasons s x)) _ judged).0 in
    record { flight = s; stands = refl; edition_is = current s edition (both_none (not_current s edition) (first_of (given s)) (ap first_of (sym (by_edition s)) ∙ passed)).0 }

no_flight : Some no.NoFlight ≡ None → ⊥
no_flight e = absurd (cc)

installed : (outcome : Outcome) (fleet : List Craft) (opening : List FlightState) (history : List Judged) (j : Judged) (edition : ℕ) (x : Act) (reply : Reply) → j.entry.act ≡ x
    → ((s : FlightState) → (given : List (Option Refusal)) × (reasons s x ≡ not_current s edition ∷ given)) → ((full : Bool) → IsVerdict fleet full None x None → ⊥) → is_installed reply ≡ true
    → IsJudgedBy outcome fleet opening history j → IsReplyBy fleet (standing_of fleet opening history j.entry.key) j.entry.act outcome j.verdict reply
    → WasCurrent (standing_of fleet opening history j.entry.key) edition
installed ended.Done fleet opening history j edition x reply is reason none agrees judged replied =
    accepted fleet (is_full opening history) (standing_of fleet opening history j.entry.key) edition x (λ s. (reason s).0) (λ s. (reason s).1) (none (is_full opening history))
    (agreed j.verdict (subst (λ (y : Act). IsVerdict fleet (is_full opening history) (standing_of fleet opening history j.entry.key) y j.verdict) is judged) replied)
  where
    agreed : (verdict : Option Refusal) → IsVerdict fleet (is_full opening history) (standing_of fleet opening history j.entry.key) x verdict
        → IsReplyBy fleet (standing_of fleet opening history j.entry.key) j.entry.act ended.Done verdict reply
        → IsVerdict fleet (is_full opening history) (standing_of fleet opening history j.entry.key) x None
    agreed None judged replied = judged
    agreed (Some refusal) judged replied = absurd (no_way (sym agrees ∙ ap is_installed replied))
installed ended.KeeperFailed fleet opening history j edition x reply is reason none agrees judged replied = absurd (no_way (sym agrees ∙ ap is_installed replied))
installed ended.NoMemory fleet opening history j edition x reply is reason none agrees judged replied = absurd (no_way (sym agrees ∙ ap is_installed replied))

-- The plan ------------------------------------------------------------------------------------------------------

module _ (s : Setting) (desk : ℕ) (history : List Entry) (key : List ℕ) (edition : ℕ) where
  -- the flight as it stood where the task was taken, and as it stands where the plan is installed
  pub record Still (task : Problem) (judged : List Judged) : Type 0 where
    pub taken : FlightState
    pub taken_at : taken.edition ≡ edition
    pub of_figures : IsTaskFor s.fleet taken task
    pub now : Stays s.fleet (flight_at s.opening key) (acts_of key judged) taken

  pub still : (t u : Placed) (task : Problem) (asks : Request) (reply : Reply) (take : IsMade s desk history (Take key edition) t (says.Task task))
      (install : IsMade s desk history asks u reply)
      → t.0 < u.0 → (judged : List Judged) → IsJudgement s.fleet s.opening install.before judged → Still task judged
  still t u task asks reply take install less judged judgement =
      let a = take.turn in
      let own : a.j.entry.key ≡ key = a.of_key in
      let first = took_by a.j.entry.outcome s.fleet s.opening a.history a.j edition task a.of_act.asks a.judged a.replied in
      let order : length take.before < length install.before = rw (← take.stands.long, ← install.stands.long) less in
      let more = behind take.before install.before take.stands.after install.stands.after t.1 u.1 (sym take.stands.at ∙ install.stands.at) order in
      record {
        taken = first.flight;
        taken_at = first.edition_is;
        of_figures = first.of_figures;
        now = stands_later s.fleet s.opening take.before more.0 a.history judged key first.flight a.judgement
            (subst (λ (es : List Entry). IsJudgement s.fleet s.opening es judged) more.1 judgement)
            (subst (λ (k : List ℕ). standing_of s.fleet s.opening a.history k ≡ Some first.flight) own first.stands);
      }

  -- where the flight is still at the edition, the task is still its own
  pub task_at : (task : Problem) (judged : List Judged) → Still task judged → WasCurrent (standing_of s.fleet s.opening judged key) edition → IsTaskAt s judged key edition task
  task_at task judged st was =
      let same : st.now.flight ≡ was.flight = same_flight (sym st.now.stands ∙ was.stands) in
      let edition_now : st.now.flight.edition ≡ edition = ap (λ (f : FlightState). f.edition) same ∙ was.edition_is in
      record {
        flight = st.now.flight;
        stands = st.now.stands;
        edition_is = edition_now;
        of_figures = same_task s.fleet st.taken st.now.flight task st.now.follows (edition_now ∙ sym st.taken_at) st.of_figures;
      }
    where
      same_flight : {x y : FlightState} → Some x ≡ Some y → x ≡ y
      same_flight e = cc

pub first_later : (t u : Placed) (rest : List Placed) → All (λ (one : Placed). t.0 < one.0) rest → rest ≡ u ∷ [] → t.0 < u.0
first_later t u rest later is = All-head (λ (one : Placed). t.0 < one.0) u [] (subst (All (λ (one : Placed). t.0 < one.0)) is later)

by_install : (edition : ℕ) (same : Bool) (x : Act) → WritesPath edition same x → (s : FlightState) → (given : List (Option Refusal)) × (reasons s x ≡ not_current s edition ∷ given)
by_install edition same x w s = (refuse_if (not same) no.OtherTask ∷ [], ap (reasons s) w.is)

never_absent : (fleet : List Craft) (edition : ℕ) (same : Bool) (x : Act) → WritesPath edition same x → (full : Bool) → IsVerdict fleet full None x None → ⊥
never_absent fleet edition same x w full is = no_flight (sym (subst (λ (y : Act). IsVerdict fleet full None y None) w.is is))

pub installs_the_best : InstallsTheBest
installs_the_best s desk history key edition search entries answer taken plan agrees =
    let turn = plan.turn.turn in
    let asks = install_of key edition plan.found.plan in
    let order = first_later taken.taken plan.installed taken.rest taken.later plan.rest_is in
    let st = still s desk history key edition taken.taken plan.installed taken.task asks plan.reply taken.take plan.turn order turn.history turn.judgement in
    let wrote = writes_path key edition plan.found.plan turn.of_act.same turn.j.entry.act turn.of_act.asks in
    let was = installed turn.j.entry.outcome s.fleet s.opening turn.history turn.j edition turn.j.entry.act plan.reply refl
    (by_install edition turn.of_act.same turn.j.entry.act wrote) (never_absent s.fleet edition turn.of_act.same turn.j.entry.act wrote) agrees turn.judged turn.replied in
    let own : turn.j.entry.key ≡ key = turn.of_key ∙ key_of_install key edition plan.found.plan in (
      task_at s desk history key edition taken.task turn.history st (subst (λ (k : List ℕ). WasCurrent (standing_of s.fleet s.opening turn.history k) edition) own was),
      (finds_best search taken.task plan.found.plan plan.found.text plan.found.finds).path,
    )
