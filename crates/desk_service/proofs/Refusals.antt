-- the office says that the keeper failed only where the entry says so, and that a plan is for another task only where the act does
use Rattle.std.proofs.Common.{◌≡◌, ◌⊎◌, ⊎_elim, inl, inr, ℕ, Bool, true, false, List, [], ◌∷◌, Option, None, Some, refl, sym, ap, ◌∙◌, subst, arith}
use Rattle.std.specs.Prelude.{IsSomeAnd, is_none, nat_le, nat_lt, not}
use Rattle.std.specs.Option.{option_or}
use Rattle.aircraft_file.specs.Craft.{Craft}
use Rattle.flight_state.specs.declared.state.FlightState.{FlightState}
use Rattle.flight_row.specs.Loading.{aircraft_of}
use Rattle.flight_history.specs.declared.entry.Act.{Act}
use Rattle.flight_history.specs.declared.entry.Act.TheVariants as act
use Rattle.flight_history.specs.declared.entry.Outcome.{Outcome}
use Rattle.flight_history.specs.declared.entry.Outcome.TheVariants as ended
use Rattle.flight_history.specs.declared.reply.Refusal.{Refusal}
use Rattle.flight_history.specs.declared.reply.Refusal.TheVariants as no
use Rattle.flight_history.specs.declared.reply.Reply.{Reply}
use Rattle.flight_history.specs.declared.reply.Reply.TheVariants as says
use Rattle.flight_history.specs.declared.request.What.TheVariants as what
use Rattle.flight_history.specs.History.{Judged, IsJudgedBy, is_full, standing_of}
use Rattle.flight_history.specs.Replies.{Answers, AnswersWith, IsReplyBy}
use Rattle.flight_history.specs.Step.{after}
use Rattle.flight_history.specs.Verdict.{FirstThen, IsVerdict, Says, first_of, is_departed, is_issued, is_released, no_more_editions, no_plan, not_current, not_released, reasons, reasons_to_open, refuse_if}

abbrev pub is_refused : Reply → Bool
is_refused (says.Refused refusal) = true
is_refused _ = false

abbrev refusal_in : Reply → Refusal
refusal_in (says.Refused refusal) = refusal
refusal_in _ = no.Exists

pub no_way : true ≡ false → ⊥
no_way e = grind arith

-- one of two refusals: that the plan is for another task, or that the keeper failed
abbrev pub wrong : Bool → Refusal
wrong true = no.OtherTask
wrong false = no.KeeperFault

-- it is that one
abbrev pub blames : Bool → Option Refusal → Bool
blames other (Some no.KeeperFault) = not other
blames other (Some no.OtherTask) = other
blames other _ = false

blames_wrong : (other : Bool) → blames other (Some (wrong other)) ≡ true
blames_wrong true = refl
blames_wrong false = refl

-- an act that is not refused for its plan's task
abbrev pub IsOwn : Bool → Act → Type 0
IsOwn other (act.Install edition path same) = blames other (refuse_if (not same) no.OtherTask) ≡ false
IsOwn other _ = Unit {0}

module _ (other : Bool) where
  -- Reasons -----------------------------------------------------------------------------------------

  clear_if : (applies : Bool) (reason : Refusal) → blames other (Some reason) ≡ false → blames other (refuse_if applies reason) ≡ false
  clear_if true reason clear = clear
  clear_if false reason clear = refl

  -- none of these reasons is the refusal
  abbrev AreClear : List (Option Refusal) → Type 0
  AreClear [] = Unit {0}
  AreClear (given ∷ more) = (blames other given ≡ false) × AreClear more

  clear_or : (given next : Option Refusal) → blames other given ≡ false → blames other next ≡ false → blames other (option_or given next) ≡ false
  clear_or None next first second = second
  clear_or (Some reason) next first second = first

  clear_first : (given : List (Option Refusal)) → AreClear given → blames other (first_of given) ≡ false
  clear_first [] clear = refl
  clear_first (one ∷ more) clear = clear_or one (first_of more) clear.0 (clear_first more clear.1)

  pub current_clear : (s : FlightState) (edition : ℕ) → blames other (not_current s edition) ≡ false
  current_clear s edition =
      clear_first (refuse_if (is_departed s.stage) no.Gone ∷ refuse_if (nat_lt edition s.edition) (no.Stale s.edition) ∷ refuse_if (nat_lt s.edition edition) (no.Ahead s.edition) ∷ [])
      (clear_if (is_departed s.stage) no.Gone refl, (clear_if (nat_lt edition s.edition) (no.Stale s.edition) refl, (clear_if (nat_lt s.edition edition) (no.Ahead s.edition) refl, tt)))

  released_clear : (s : FlightState) → blames other (not_released s) ≡ false
  released_clear s = clear_if (not (is_released s.stage)) no.NotReleased refl

  editions_clear : (s : FlightState) → blames other (no_more_editions s) ≡ false
  editions_clear s = clear_if (nat_le 1000000000 s.edition) no.Spent refl

  plan_clear : (s : FlightState) → blames other (no_plan s) ≡ false
  plan_clear s = clear_if (is_none s.plan) no.NoPlanYet refl

  documents_clear : (s : FlightState) → blames other (first_of (refuse_if (not (is_issued s.stage)) no.NotReleased ∷ no_plan s ∷ [])) ≡ false
  documents_clear s =
      clear_first (refuse_if (not (is_issued s.stage)) no.NotReleased ∷ no_plan s ∷ []) (clear_if (not (is_issued s.stage)) no.NotReleased refl, (plan_clear s, tt))

  -- none of the reasons against an act is the refusal
  reasons_clear : (s : FlightState) (a : Act) → IsOwn other a → AreClear (reasons s a)
  reasons_clear s (act.NewFlight leg) own = (refl, tt)
  reasons_clear s (act.Set edition told) own = (current_clear s edition, (editions_clear s, tt))
  reasons_clear s (act.Take edition) own = (current_clear s edition, tt)
  reasons_clear s (act.Install edition path same) own = (current_clear s edition, (own, tt))
  reasons_clear s (act.Release edition) own = (current_clear s edition, (plan_clear s, tt))
  reasons_clear s (act.Late edition change) own = (current_clear s edition, (released_clear s, tt))
  reasons_clear s (act.Reopen edition) own = (current_clear s edition, (released_clear s, (editions_clear s, tt)))
  reasons_clear s (act.Depart edition) own = (current_clear s edition, (released_clear s, tt))
  reasons_clear s (act.Show what.State) own = (refl, tt)
  reasons_clear s (act.Show what.Sheet) own = (documents_clear s, tt)
  reasons_clear s (act.Show what.Ldm) own = (documents_clear s, tt)
  reasons_clear s (act.Show what.Cpm) own = (documents_clear s, tt)

  -- where it is none of these, it is not what is said
  not_it : (given : Option Refusal) → blames other given ≡ false → Some (wrong other) ≡ given → ⊥
  not_it given clear is = no_way (sym (blames_wrong other) ∙ (ap (blames other) is ∙ clear))

-- nor do the figures say so
figures_clear : (other : Bool) (a : Craft) (s : FlightState) (x : Act) → Says a s x (Some (wrong other)) → ⊥
figures_clear other a s (act.NewFlight leg) said = not_it other None refl said
figures_clear other a s (act.Set edition told) said = not_it other None refl said
figures_clear true a s (act.Take edition) said = said
figures_clear false a s (act.Take edition) said = said
figures_clear other a s (act.Install edition path same) said = not_it other None refl said
figures_clear true a s (act.Release edition) said = said
figures_clear false a s (act.Release edition) said = said
figures_clear true a s (act.Late edition change) said = not_it true (no_more_editions s) (editions_clear true s) (sym said.1)
figures_clear false a s (act.Late edition change) said = not_it false (no_more_editions s) (editions_clear false s) (sym said.1)
figures_clear other a s (act.Reopen edition) said = not_it other None refl said
figures_clear other a s (act.Depart edition) said = not_it other None refl said
figures_clear other a s (act.Show what) said = not_it other None refl said

-- an act that is accepted is not answered by a refusal
with_sheet : (refusal : Refusal) (a : Craft) (s : FlightState) (x : Act) → AnswersWith a s x (says.Refused refusal) → ⊥
with_sheet refusal a s (act.NewFlight leg) is = no_way (ap is_refused is)
with_sheet refusal a s (act.Set edition told) is = no_way (ap is_refused is)
with_sheet refusal a s (act.Take edition) is = no_way (ap is_refused is.2)
with_sheet refusal a s (act.Install edition path same) is = no_way (ap is_refused is)
with_sheet refusal a s (act.Release edition) is = no_way (ap is_refused is.2)
with_sheet refusal a s (act.Late edition change) is = no_way (ap is_refused is)
with_sheet refusal a s (act.Reopen edition) is = no_way (ap is_refused is)
with_sheet refusal a s (act.Depart edition) is = no_way (ap is_refused is)
with_sheet refusal a s (act.Show what.State) is = no_way (ap is_refused is)
with_sheet refusal a s (act.Show what.Sheet) is = no_way (ap is_refused is.2)
with_sheet refusal a s (act.Show what.Ldm) is = no_way (ap is_refused is.2)
with_sheet refusal a s (act.Show what.Cpm) is = no_way (ap is_refused is.2)

answers_clear : (refusal : Refusal) (found : Option Craft) (s : FlightState) (x : Act) → IsSomeAnd found (λ a. AnswersWith a s x (says.Refused refusal)) → ⊥
answers_clear refusal None s x is = is
answers_clear refusal (Some a) s x is = with_sheet refusal a s x is

accepted_clear : (refusal : Refusal) (fleet : List Craft) (next : Option FlightState) (x : Act) → IsSomeAnd next (λ s. Answers fleet s x (says.Refused refusal)) → ⊥
accepted_clear refusal fleet None x is = is
accepted_clear refusal fleet (Some s) x is = answers_clear refusal (aircraft_of fleet s.leg) s x is

module _ (other : Bool) where
  -- The verdict and the reply -----------------------------------------------------------------------------

  first_clear : (given : Option Refusal) (P : Option Refusal → Type 0) → blames other given ≡ false → FirstThen given P (Some (wrong other)) → P (Some (wrong other))
  first_clear (Some reason) P clear is = absurd (not_it other (Some reason) clear is)
  first_clear None P clear said = said

  with_aircraft : (found : Option Craft) (s : FlightState) (x : Act) → IsSomeAnd found (λ a. Says a s x (Some (wrong other))) → ⊥
  with_aircraft None s x said = said
  with_aircraft (Some a) s x said = figures_clear other a s x said

  open_clear : (fleet : List Craft) (full : Bool) (x : Act) → IsVerdict fleet full None x (Some (wrong other)) → ⊥
  open_clear fleet full (act.NewFlight leg) is = not_it other (first_of (reasons_to_open fleet full leg))
      (clear_first other (reasons_to_open fleet full leg) (clear_if other (is_none (aircraft_of fleet leg)) no.NoAircraft refl, (clear_if other full no.OfficeFull refl, tt))) is
  open_clear fleet full (act.Set edition told) is = not_it other (Some no.NoFlight) refl is
  open_clear fleet full (act.Take edition) is = not_it other (Some no.NoFlight) refl is
  open_clear fleet full (act.Install edition path same) is = not_it other (Some no.NoFlight) refl is
  open_clear fleet full (act.Release edition) is = not_it other (Some no.NoFlight) refl is
  open_clear fleet full (act.Late edition change) is = not_it other (Some no.NoFlight) refl is
  open_clear fleet full (act.Reopen edition) is = not_it other (Some no.NoFlight) refl is
  open_clear fleet full (act.Depart edition) is = not_it other (Some no.NoFlight) refl is
  open_clear fleet full (act.Show what) is = not_it other (Some no.NoFlight) refl is

  pub verdict_clear : (fleet : List Craft) (full : Bool) (s : Option FlightState) (x : Act) → IsOwn other x → IsVerdict fleet full s x (Some (wrong other)) → ⊥
  verdict_clear fleet full None x own is = open_clear fleet full x is
  verdict_clear fleet full (Some s) x own is =
      with_aircraft (aircraft_of fleet s.leg) s x
      (first_clear (first_of (reasons s x)) (λ said. IsSomeAnd (aircraft_of fleet s.leg) (λ a. Says a s x said)) (clear_first other (reasons s x) (reasons_clear other s x own)) is)

  -- where it is the verdict, the reason that is tested first does not apply
  pub first_passed : (given next : Option Refusal) (P : Option Refusal → Type 0) → blames other given ≡ false → FirstThen (option_or given next) P (Some (wrong other)) → given ≡ None
  first_passed None next P clear is = refl
  first_passed (Some reason) next P clear is = absurd (not_it other (Some reason) clear is)

-- a refusal is replied by its verdict, or by a keeper that failed
pub refused_by : (fleet : List Craft) (opening : List FlightState) (history : List Judged) (j : Judged) (outcome : Outcome) (refusal : Refusal) → IsJudgedBy outcome fleet opening history j
    → IsReplyBy fleet (standing_of fleet opening history j.entry.key) j.entry.act outcome j.verdict (says.Refused refusal)
    → IsVerdict fleet (is_full opening history) (standing_of fleet opening history j.entry.key) j.entry.act (Some refusal)
    ⊎ ((outcome ≡ ended.KeeperFailed) × (refusal ≡ no.KeeperFault))
refused_by fleet opening history j ended.Done refusal judged reply = inl (done_refused (is_full opening history) (standing_of fleet opening history j.entry.key) j.entry.act j.verdict judged reply)
  where
    done_refused : (full : Bool) (s : Option FlightState) (x : Act) (verdict : Option Refusal) → IsVerdict fleet full s x verdict → IsReplyBy fleet s x ended.Done verdict (says.Refused refusal)
        → IsVerdict fleet full s x (Some refusal)
    done_refused full s x (Some given) is reply = let same : refusal ≡ given = ap refusal_in reply in subst (λ (r : Refusal). IsVerdict fleet full s x (Some r)) (sym same) is
    done_refused full s x None is reply = absurd (accepted_clear refusal fleet (after fleet s x) x reply)
refused_by fleet opening history j ended.KeeperFailed refusal judged reply = inr (refl, ap refusal_in reply)
refused_by fleet opening history j ended.NoMemory refusal judged reply = absurd (no_way (ap is_refused reply))

own_of_keeper : (x : Act) → IsOwn false x
own_of_keeper (act.NewFlight leg) = tt
own_of_keeper (act.Set edition told) = tt
own_of_keeper (act.Take edition) = tt
own_of_keeper (act.Install edition path same) = clear_if false (not same) no.OtherTask refl
own_of_keeper (act.Release edition) = tt
own_of_keeper (act.Late edition change) = tt
own_of_keeper (act.Reopen edition) = tt
own_of_keeper (act.Depart edition) = tt
own_of_keeper (act.Show what) = tt

-- the entry says that the keeper failed, where the reply does
pub failed_by_reply : (fleet : List Craft) (opening : List FlightState) (history : List Judged) (j : Judged) (outcome : Outcome) → IsJudgedBy outcome fleet opening history j
    → IsReplyBy fleet (standing_of fleet opening history j.entry.key) j.entry.act outcome j.verdict (says.Refused no.KeeperFault) → outcome ≡ ended.KeeperFailed
failed_by_reply fleet opening history j outcome judged reply = ⊎_elim
    (λ is. absurd (verdict_clear false fleet (is_full opening history) (standing_of fleet opening history j.entry.key) j.entry.act (own_of_keeper j.entry.act) is))
    (λ failed. failed.0)
    (refused_by fleet opening history j outcome no.KeeperFault judged reply)
