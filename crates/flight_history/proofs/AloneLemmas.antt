-- a flight without the others
use Rattle.std.proofs.Common.{refl, ◌≡◌, ℕ, ◌&&◌, Bool, true, false, List, [], ◌∷◌, ◌++◌, Option, None, Some, cond, ◌∙◌, sym, ap, subst, map, filter}
use Rattle.std.proofs.lemmas.List.Elements.{filter-append}
use Rattle.std.proofs.lemmas.List.{append-nil, map-append}
use Rattle.aircraft_file.specs.Craft.{Craft}
use Rattle.flight_state.specs.declared.state.FlightState.{FlightState}
use Rattle.flight_history.specs.declared.entry.Act.{Act}
use Rattle.flight_history.specs.declared.entry.Act.TheVariants.{NewFlight, Set, Take, Install, Release, Late, Reopen, Depart, Show}
use Rattle.flight_history.specs.declared.entry.Outcome.{Outcome}
use Rattle.flight_history.specs.declared.entry.Outcome.TheVariants.{Done, KeeperFailed, NoMemory}
use Rattle.flight_history.specs.declared.reply.Refusal.{Refusal}
use Rattle.flight_history.specs.declared.reply.Reply.{Reply}
use Rattle.flight_history.specs.Standing.{standing}
use Rattle.flight_history.specs.Verdict.{IsVerdict}
use Rattle.flight_history.specs.History.{Judged, is_accepted, is_of, acts_of, flight_at, standing_of, is_opening, is_full, IsJudgedBy, AreJudgedAfter}
use Rattle.flight_history.specs.Replies.{IsReplyBy, IsReply}
use Rattle.flight_history.specs.Alone.{Marked, marked, marks, own, own_acts, IsJudgedAloneBy, AreJudgedAlone, IsReplyAlone}
use Rattle.flight_history.proofs.LastOneLemmas.{by_test}
use Rattle.flight_history.proofs.HistoryLemmas.{key_is, acts_of-push}

abbrev act_in : Judged → Act
act_in j = j.entry.act

-- the acts among the flight's own entries are its acts
own_acts-marks : (key : List ℕ) (opening : List FlightState) (history js : List Judged) → own_acts (own key (marks opening history js)) ≡ acts_of key js
own_acts-marks key opening history [] = refl
own_acts-marks key opening history (j ∷ js) = elim (is_of key j) as (λ b. own_acts (cond b (marked opening history j ∷ own key (marks opening (history ++ j ∷ []) js)) (own key (marks opening (history ++ j ∷ []) js))) ≡ map act_in (cond (b && is_accepted j) (j ∷ filter (λ (x : Judged). is_of key x && is_accepted x) js) (filter (λ (x : Judged). is_of key x && is_accepted x) js))) [
  | true ↦ elim (is_accepted j) as (λ b. map (λ (m : Marked). m.0.entry.act) (cond b (marked opening history j ∷ filter (λ (m : Marked). is_accepted m.0) (own key (marks opening (history ++ j ∷ []) js))) (filter (λ (m : Marked). is_accepted m.0) (own key (marks opening (history ++ j ∷ []) js)))) ≡ map act_in (cond b (j ∷ filter (λ (x : Judged). is_of key x && is_accepted x) js) (filter (λ (x : Judged). is_of key x && is_accepted x) js)))
      [ true ↦ ap (λ (acts : List Act). j.entry.act ∷ acts) (own_acts-marks key opening (history ++ j ∷ []) js) | false ↦ own_acts-marks key opening (history ++ j ∷ []) js ]
  | false ↦ own_acts-marks key opening (history ++ j ∷ []) js
]

-- only a new flight asks whether the office is full
verdict-mark : (fleet : List Craft) (full : Bool) (s : Option FlightState) (act : Act) (v : Option Refusal) → IsVerdict fleet full s act v → IsVerdict fleet (is_opening act && full) s act v
verdict-mark fleet full (Some s) act v h = h
verdict-mark fleet full None (NewFlight leg) v h = h
verdict-mark fleet full None (Set edition told) v h = h
verdict-mark fleet full None (Take edition) v h = h
verdict-mark fleet full None (Install edition path same) v h = h
verdict-mark fleet full None (Release edition) v h = h
verdict-mark fleet full None (Late edition change) v h = h
verdict-mark fleet full None (Reopen edition) v h = h
verdict-mark fleet full None (Depart edition) v h = h
verdict-mark fleet full None (Show what) v h = h

-- the verdict on one entry
judged-alone : (outcome : Outcome) (fleet : List Craft) (opening : List FlightState) (history : List Judged) (own_before : List Marked) (j : Judged) → own_acts own_before ≡ acts_of j.entry.key history → IsJudgedBy outcome fleet opening history j → IsJudgedAloneBy outcome fleet (flight_at opening j.entry.key) own_before (marked opening history j)
judged-alone NoMemory fleet opening history own_before j same h = h
judged-alone Done fleet opening history own_before j same h = subst (λ (acts : List Act). IsVerdict fleet (is_opening j.entry.act && is_full opening history) (standing fleet (flight_at opening j.entry.key) acts) j.entry.act j.verdict) (sym same) (verdict-mark fleet (is_full opening history) (standing_of fleet opening history j.entry.key) j.entry.act j.verdict h)
judged-alone KeeperFailed fleet opening history own_before j same h = subst (λ (acts : List Act). IsVerdict fleet (is_opening j.entry.act && is_full opening history) (standing fleet (flight_at opening j.entry.key) acts) j.entry.act j.verdict) (sym same) (verdict-mark fleet (is_full opening history) (standing_of fleet opening history j.entry.key) j.entry.act j.verdict h)

own_acts-push : (ms : List Marked) (m : Marked) → own_acts (ms ++ m ∷ []) ≡ cond (is_accepted m.0) (own_acts ms ++ m.0.entry.act ∷ []) (own_acts ms)
own_acts-push ms m = ap (map (λ (x : Marked). x.0.entry.act)) (filter-append (λ (x : Marked). is_accepted x.0) ms (m ∷ [])) ∙ map-append (λ (x : Marked). x.0.entry.act) (filter (λ (x : Marked). is_accepted x.0) ms) (filter (λ (x : Marked). is_accepted x.0) (m ∷ [])) ∙ elim (is_accepted m.0) as (λ b. own_acts ms ++ map (λ (x : Marked). x.0.entry.act) (cond b (m ∷ []) []) ≡ cond b (own_acts ms ++ m.0.entry.act ∷ []) (own_acts ms)) [ true ↦ refl | false ↦ append-nil (own_acts ms) ]

-- own entries before, one entry on
own-more : (key : List ℕ) (opening : List FlightState) (history : List Judged) (before : List Marked) (j : Judged) → is_of key j ≡ true → own_acts before ≡ acts_of key history → own_acts (before ++ marked opening history j ∷ []) ≡ acts_of key (history ++ j ∷ [])
own-more key opening history before j at same = own_acts-push before (marked opening history j) ∙ ap (λ (acts : List Act). cond (is_accepted j) (acts ++ j.entry.act ∷ []) acts) same ∙ ap (λ (b : Bool). cond (b && is_accepted j) (acts_of key history ++ j.entry.act ∷ []) (acts_of key history)) (sym at) ∙ sym (acts_of-push key history j)

other-more : (key : List ℕ) (history : List Judged) (acts : List Act) (j : Judged) → is_of key j ≡ false → acts ≡ acts_of key history → acts ≡ acts_of key (history ++ j ∷ [])
other-more key history acts j past same = same ∙ ap (λ (b : Bool). cond (b && is_accepted j) (acts_of key history ++ j.entry.act ∷ []) (acts_of key history)) (sym past) ∙ sym (acts_of-push key history j)

-- so is each verdict on the flight's own entries
pub alone : (fleet : List Craft) (opening : List FlightState) (key : List ℕ) (history js : List Judged) (before : List Marked) → own_acts before ≡ acts_of key history → AreJudgedAfter fleet opening history js → AreJudgedAlone fleet (flight_at opening key) before (own key (marks opening history js))
alone fleet opening key history [] before same judged = tt
alone fleet opening key history (j ∷ js) before same judged = by_test (λ b. is_of key j ≡ b → AreJudgedAlone fleet (flight_at opening key) before (cond b (marked opening history j ∷ own key (marks opening (history ++ j ∷ []) js)) (own key (marks opening (history ++ j ∷ []) js)))) (is_of key j)
    (λ _ at. let here = key_is j.entry.key key at in (
      subst (λ (k : List ℕ). own_acts before ≡ acts_of k history → IsJudgedAloneBy j.entry.outcome fleet (flight_at opening k) before (marked opening history j)) here (λ same_here. judged-alone j.entry.outcome fleet opening history before j same_here judged.0) same,
      alone fleet opening key (history ++ j ∷ []) js (before ++ marked opening history j ∷ []) (own-more key opening history before j at same) judged.1,
    ))
    (λ _ past. alone fleet opening key (history ++ j ∷ []) js before (other-more key history (own_acts before) j past same) judged.1) refl

-- and each reply
pub reply-alone : (fleet : List Craft) (opening : List FlightState) (history : List Judged) (j : Judged) (reply : Reply) → IsReply fleet opening history j reply → IsReplyAlone fleet (flight_at opening j.entry.key) (own j.entry.key (marks opening [] history)) (marked opening history j) reply
reply-alone fleet opening history j reply h = subst (λ (acts : List Act). IsReplyBy fleet (standing fleet (flight_at opening j.entry.key) acts) j.entry.act j.entry.outcome j.verdict reply) (sym (own_acts-marks j.entry.key opening [] history)) h
