-- one turn
use Rattle.std.proofs.Common.{refl, if◌then◌else◌, ◌≡◌, ◌≢◌, ℕ, ◌+◌, ◌&&◌, Bool, true, false, List, [], ◌∷◌, ◌++◌, Option, None, Some, cond, ◌∙◌, sym, ap, subst, length}
use Rattle.std.specs.Prelude.{is_none, bytes_eq, IsSomeAnd, Result, Ok, Err, IfOk}
use Rattle.base_words.specs.declared.NoMemory.{NoMemory}
use Rattle.aircraft_file.specs.Craft.{Craft}
use Rattle.flight_state.specs.declared.state.FlightState.{FlightState}
use Rattle.flight_state.specs.Legs.{key_of}
use Rattle.keeper.specs.declared.row.KeptRow.{KeptRow}
use Rattle.keeper.specs.Tables.{Tables}
use Rattle.flight_history.specs.declared.entry.Act.{Act}
use Rattle.flight_history.specs.declared.entry.Entry.{Entry}
use Rattle.flight_history.specs.declared.entry.Outcome.{Outcome}
use Rattle.flight_history.specs.declared.entry.Outcome.TheVariants as ended
use Rattle.flight_history.specs.declared.reply.Refusal.{Refusal}
use Rattle.flight_history.specs.declared.reply.Reply.{Reply}
use Rattle.flight_history.specs.declared.reply.Reply.TheVariants as says
use Rattle.flight_history.specs.Standing.{standing}
use Rattle.flight_history.specs.Step.{after}
use Rattle.flight_history.specs.Verdict.{IsVerdict, commits}
use Rattle.flight_history.specs.History.{Judged, is_accepted, is_of, flight_at, standing_of, is_opening, opens_flight, flight_count, is_full, IsJudged, AreJudgedAfter}
use Rattle.flight_history.specs.Replies.{row_bytes, IsReply}
use Rattle.flight_history.specs.Replies as replies
use Rattle.flight_history.specs.KeptRows.{AreKept, kept_at}
use Rattle.flight_history.proofs.LastOneLemmas.{by_test}
use Rattle.flight_history.proofs.HistoryLemmas.{key_is, begins, after-there, acts_of-skipped, standing_of-push, count-push, opening-is}
use Rattle.flight_history.proofs.KeptLemmas.{kept-skipped, kept-told, kept-changed, AreKept-still, AreKept-changed}
use Rattle.editions.specs.declared.answers.Answer.{Answer}
use Rattle.editions.specs.declared.answers.Answer.TheVariants.{Refused, Told, Changed}
use Rattle.editions.specs.declared.flights.Flight.{Flight}
use Rattle.editions.specs.Answers.{IsAnswer, KeepsKey}
use Rattle.editions.specs.Places.{states, IsPlaceOf, IsPut}
use Rattle.editions.specs.Settled.{IsSame, IsCommitted, IsChanged, IsSettledBy}
use Rattle.editions.specs.Books.{AreStandings, IsRowOf, IsReadBack}
use Rattle.editions.proofs.PlaceLemmas.{is_none-place}

-- what one entry more leaves
pub record Leaves (fleet : List Craft) (opening : List FlightState) (history : List Judged) (j : Judged) (flights' : List FlightState) (held now : Option Tables) : Type 0 where
  pub standings : AreStandings fleet opening (history ++ j ∷ []) flights'
  pub tables : (rows : List KeptRow) → AreKept fleet rows opening history held → AreKept fleet rows opening (history ++ j ∷ []) now
  pub reads : (rows : List KeptRow) → IsReadBack fleet rows opening history → IsReadBack fleet rows opening (history ++ j ∷ [])

-- the same bytes are a row of the same flight
row-moved : (fleet : List Craft) (o o' : Option (List ℕ)) (s s' : Option FlightState) → o' ≡ o → s' ≡ s → IsRowOf fleet o s → IsRowOf fleet o' s'
row-moved fleet o o' s s' bytes flight h = subst (λ (t : Option FlightState). IsRowOf fleet o' t) (sym flight) (subst (λ (b : Option (List ℕ)). IsRowOf fleet b s) (sym bytes) h)

module _ (fleet : List Craft) (opening : List FlightState) (history : List Judged) (judged : AreJudgedAfter fleet opening [] history) (j : Judged) where
  abbrev pub s : Option FlightState
  s = standing_of fleet opening history j.entry.key

  opens_not : is_accepted j ≡ false → opens_flight j ≡ false
  opens_not skipped = ap (λ (b : Bool). b && is_opening j.entry.act) skipped

  -- an entry that is not accepted
  leaves-same : (flights flights' : List FlightState) (held now : Option Tables) → AreStandings fleet opening history flights → is_accepted j ≡ false → flights' ≡ flights → now ≡ held → Leaves fleet opening history j flights' held now
  leaves-same flights flights' held now st skipped same kept = record {
    standings = record {
      each = λ key. ap (λ (fs : List FlightState). flight_at fs key) same ∙ st.each key ∙ sym (ap (standing fleet (flight_at opening key)) (acts_of-skipped key history j skipped));
      count = ap (λ (fs : List FlightState). length fs) same ∙ st.count ∙ sym (count-push opening history j ∙ ap (λ (b : Bool). cond b (flight_count opening history + 1) (flight_count opening history)) (opens_not skipped));
    };
    tables = λ rows h. subst (λ (t : Option Tables). AreKept fleet rows opening (history ++ j ∷ []) t) (sym kept) (AreKept-still fleet rows opening history (history ++ j ∷ []) held (λ key. kept-skipped fleet rows opening history j key skipped) h);
    reads = λ rows h key. row-moved fleet (kept_at fleet rows opening history key) (kept_at fleet rows opening (history ++ j ∷ []) key) (standing_of fleet opening history key) (standing_of fleet opening (history ++ j ∷ []) key)
        (kept-skipped fleet rows opening history j key skipped) (ap (standing fleet (flight_at opening key)) (acts_of-skipped key history j skipped)) (h key);
  }

  stands : (key : List ℕ) → is_accepted j ≡ true → standing_of fleet opening (history ++ j ∷ []) key ≡ (if is_of key j then after fleet (standing_of fleet opening history key) j.entry.act else standing_of fleet opening history key)
  stands key accepted = standing_of-push fleet opening history j key (begins fleet opening key history judged) accepted

  counts : is_accepted j ≡ true → flight_count opening (history ++ j ∷ []) ≡ cond (is_opening j.entry.act) (flight_count opening history + 1) (flight_count opening history)
  counts accepted = count-push opening history j ∙ ap (λ (b : Bool). cond (b && is_opening j.entry.act) (flight_count opening history + 1) (flight_count opening history)) accepted

  not-opening : IsVerdict fleet (is_full opening history) s j.entry.act None → after fleet s j.entry.act ≡ s → is_opening j.entry.act ≡ false
  not-opening passed still = opening-is fleet (is_full opening history) s j.entry.act passed ∙ there s (λ absent. after-there fleet (is_full opening history) s j.entry.act passed (still ∙ absent))
    where
      there : (o : Option FlightState) → o ≢ None → is_none o ≡ false
      there None h = absurd (h refl)
      there (Some x) h = refl

  -- a flight stands as before, where the act changes nothing
  stands-still : (key : List ℕ) → is_accepted j ≡ true → after fleet s j.entry.act ≡ s → standing_of fleet opening (history ++ j ∷ []) key ≡ standing_of fleet opening history key
  stands-still key accepted still = stands key accepted ∙ by_test (λ b. is_of key j ≡ b → cond b (after fleet (standing_of fleet opening history key) j.entry.act) (standing_of fleet opening history key) ≡ standing_of fleet opening history key) (is_of key j)
      (λ _ at. subst (λ (k : List ℕ). after fleet (standing_of fleet opening history k) j.entry.act ≡ standing_of fleet opening history k) (key_is j.entry.key key at) still) (λ _ _. refl) refl

  -- an accepted entry that changes nothing
  leaves-told : (flights flights' : List FlightState) (held now : Option Tables) → AreStandings fleet opening history flights → is_accepted j ≡ true → IsVerdict fleet (is_full opening history) s j.entry.act None → commits s j.entry.act ≡ false → after fleet s j.entry.act ≡ s → flights' ≡ flights → now ≡ held → Leaves fleet opening history j flights' held now
  leaves-told flights flights' held now st accepted passed idle still same kept = record {
    standings = record {
      each = λ key. ap (λ (fs : List FlightState). flight_at fs key) same ∙ st.each key ∙ sym (stands-still key accepted still);
      count = ap (λ (fs : List FlightState). length fs) same ∙ st.count ∙ sym (counts accepted ∙ ap (λ (b : Bool). cond b (flight_count opening history + 1) (flight_count opening history)) (not-opening passed still));
    };
    tables = λ rows h. subst (λ (t : Option Tables). AreKept fleet rows opening (history ++ j ∷ []) t) (sym kept) (AreKept-still fleet rows opening history (history ++ j ∷ []) held (λ key. kept-told fleet rows opening history j key (begins fleet opening key history judged) accepted idle still) h);
    reads = λ rows h key. row-moved fleet (kept_at fleet rows opening history key) (kept_at fleet rows opening (history ++ j ∷ []) key) (standing_of fleet opening history key) (standing_of fleet opening (history ++ j ∷ []) key)
        (kept-told fleet rows opening history j key (begins fleet opening key history judged) accepted idle still) (stands-still key accepted still) (h key);
  }

  stands-changed : (key : List ℕ) (next : FlightState) → is_accepted j ≡ true → after fleet s j.entry.act ≡ Some next → standing_of fleet opening (history ++ j ∷ []) key ≡ cond (is_of key j) (Some next) (standing_of fleet opening history key)
  stands-changed key next accepted changed = stands key accepted ∙ by_test (λ b. is_of key j ≡ b → cond b (after fleet (standing_of fleet opening history key) j.entry.act) (standing_of fleet opening history key) ≡ cond b (Some next) (standing_of fleet opening history key)) (is_of key j)
      (λ _ here. subst (λ (k : List ℕ). after fleet (standing_of fleet opening history k) j.entry.act ≡ Some next) (key_is j.entry.key key here) changed) (λ _ _. refl) refl

  row-at : (b : Bool) (one other : Option (List ℕ)) (t u : Option FlightState) → IsRowOf fleet one t → IsRowOf fleet other u → IsRowOf fleet (cond b one other) (cond b t u)
  row-at true one other t u here past = here
  row-at false one other t u here past = past

  -- an accepted entry that changes its flight
  leaves-changed : (flights flights' : List FlightState) (place : Option ℕ) (next : FlightState) (held now : Option Tables) → AreStandings fleet opening history flights → is_accepted j ≡ true → IsVerdict fleet (is_full opening history) s j.entry.act None → commits s j.entry.act ≡ true → after fleet s j.entry.act ≡ Some next
      → key_of next.leg ≡ j.entry.key → IsPlaceOf flights j.entry.key place → IsPut flights flights' place next → IsCommitted fleet next held now → Leaves fleet opening history j flights' held now
  leaves-changed flights flights' place next held now st accepted passed busy changed own at put committed = record {
    standings = record {
      each = λ key. put.found key ∙ sym (stands key accepted ∙ by_test (λ b. is_of key j ≡ b → cond b (after fleet (standing_of fleet opening history key) j.entry.act) (standing_of fleet opening history key) ≡ cond (bytes_eq (key_of next.leg) key) (Some next) (flight_at flights key)) (is_of key j)
          (λ _ here. subst (λ (k : List ℕ). after fleet (standing_of fleet opening history k) j.entry.act ≡ Some next) (key_is j.entry.key key here) changed ∙ sym (ap (λ (b : Bool). cond b (Some next) (flight_at flights key)) (ap (λ (k : List ℕ). bytes_eq k key) own ∙ here)))
          (λ _ past. sym (st.each key) ∙ sym (ap (λ (b : Bool). cond b (Some next) (flight_at flights key)) (ap (λ (k : List ℕ). bytes_eq k key) own ∙ past))) refl);
      count = put.count ∙ ap (λ (b : Bool). cond b (length flights + 1) (length flights)) (is_none-place flights j.entry.key place at ∙ ap (λ (o : Option FlightState). is_none o) (st.each j.entry.key))
          ∙ ap (λ (n : ℕ). cond (is_none s) (n + 1) n) st.count ∙ sym (counts accepted ∙ ap (λ (b : Bool). cond b (flight_count opening history + 1) (flight_count opening history)) (opening-is fleet (is_full opening history) s j.entry.act passed));
    };
    tables = λ rows h. AreKept-changed fleet rows opening history (history ++ j ∷ []) held now committed.row (λ key. kept-changed fleet rows opening history j next key (begins fleet opening key history judged) accepted busy changed
        ∙ ap (λ (b : Bool). cond b (row_bytes fleet next) (kept_at fleet rows opening history key)) (sym (ap (λ (k : List ℕ). bytes_eq k key) (committed.key ∙ own)))
        ∙ ap (λ (o : Option (List ℕ)). cond (bytes_eq committed.row.key key) o (kept_at fleet rows opening history key)) committed.bytes) committed.holds h;
    reads = λ rows h key. row-moved fleet (cond (is_of key j) (row_bytes fleet next) (kept_at fleet rows opening history key)) (kept_at fleet rows opening (history ++ j ∷ []) key) (cond (is_of key j) (Some next) (standing_of fleet opening history key)) (standing_of fleet opening (history ++ j ∷ []) key)
        (kept-changed fleet rows opening history j next key (begins fleet opening key history judged) accepted busy changed) (stands-changed key next accepted changed)
        (row-at (is_of key j) (row_bytes fleet next) (kept_at fleet rows opening history key) (Some next) (standing_of fleet opening history key)
        (row-moved fleet (Some committed.row.bytes) (row_bytes fleet next) (Some next) (Some next) committed.bytes refl committed.reads) (h key));
  }

-- one turn, whatever its act: the verdict, what is left, and the reply
pub record IsTurned (fleet : List Craft) (opening : List FlightState) (history : List Judged) (e : Entry) (flights' : List Flight) (held now : Option Tables) (reply : Reply) : Type 0 where
  pub verdict : Option Refusal
  pub judged : IsJudged fleet opening history (record { entry = e; verdict = verdict })
  pub leaves : Leaves fleet opening history (record { entry = e; verdict = verdict }) (states flights') held now
  pub replied : IsReply fleet opening history (record { entry = e; verdict = verdict }) reply
  pub passed : e.outcome ≡ ended.KeeperFailed → verdict ≡ None
  pub committed : e.outcome ≡ ended.KeeperFailed → commits (standing_of fleet opening history e.key) e.act ≡ true

-- the entry of a turn
abbrev pub entry_of : ℕ → List ℕ → Act → Outcome → Entry
entry_of desk key act outcome = record { desk = desk; key = key; act = act; outcome = outcome }

abbrev pub judged_as : ℕ → List ℕ → Act → Outcome → Option Refusal → Judged
judged_as desk key act outcome verdict = record { entry = entry_of desk key act outcome; verdict = verdict }

module _ (fleet : List Craft) (opening : List FlightState) (history : List Judged) (judged : AreJudgedAfter fleet opening [] history) (flights flights' : List Flight) (st : AreStandings fleet opening history (states flights)) (desk : ℕ) (key : List ℕ) (act : Act) (place : Option ℕ) (held now : Option Tables) (reply : Reply) (at : IsPlaceOf (states flights) key place) where
  abbrev before : Option FlightState
  before = standing_of fleet opening history key

  abbrev full : Bool
  full = is_full opening history

  turned-refused : (r : Refusal) → IsVerdict fleet full before act (Some r) → IsSame flights flights' held now → reply ≡ says.Refused r → IsTurned fleet opening history (entry_of desk key act ended.Done) flights' held now reply
  turned-refused r given same is = record {
    verdict = Some r;
    judged = given;
    leaves = leaves-same fleet opening history judged (judged_as desk key act ended.Done (Some r)) (states flights) (states flights') held now st refl (ap states same.0) same.1;
    replied = is;
    passed = λ h. absurd (cc (h));
    committed = λ h. absurd (cc (h));
  }

  turned-told : (due : Reply) → IsAnswer fleet full before act (Told due) → IsSame flights flights' held now → reply ≡ due → IsTurned fleet opening history (entry_of desk key act ended.Done) flights' held now reply
  turned-told due given same is = record {
    verdict = None;
    judged = given.0;
    leaves = leaves-told fleet opening history judged (judged_as desk key act ended.Done None) (states flights) (states flights') held now st refl given.0 given.1 given.2 (ap states same.0) same.1;
    replied = subst (λ (o : Option FlightState). IsSomeAnd o (λ next. replies.Answers fleet next act reply)) (sym given.2) (subst (λ (r : Reply). IsSomeAnd before (λ next. replies.Answers fleet next act r)) (sym is) given.3);
    passed = λ h. absurd (cc (h));
    committed = λ h. absurd (cc (h));
  }

  turned-out : IsSame flights flights' held now → reply ≡ says.NoMemory → IsTurned fleet opening history (entry_of desk key act ended.NoMemory) flights' held now reply
  turned-out same is = record {
    verdict = None;
    judged = refl;
    leaves = leaves-same fleet opening history judged (judged_as desk key act ended.NoMemory None) (states flights) (states flights') held now st refl (ap states same.0) same.1;
    replied = is;
    passed = λ h. absurd (cc (h));
    committed = λ h. absurd (cc (h));
  }

  turned-changed : (next : FlightState) (due : Reply) (outcome : Outcome) → IsAnswer fleet full before act (Changed next due) → key_of next.leg ≡ key → IsChanged fleet place next due flights flights' held now outcome reply → IsTurned fleet opening history (entry_of desk key act outcome) flights' held now reply
  turned-changed next due ended.Done given own settled = record {
    verdict = None;
    judged = given.0;
    leaves = leaves-changed fleet opening history judged (judged_as desk key act ended.Done None) (states flights) (states flights') place next held now st refl given.0 given.1 given.2 own at settled.0.put settled.0.committed;
    replied = subst (λ (o : Option FlightState). IsSomeAnd o (λ x. replies.Answers fleet x act reply)) (sym given.2) (subst (λ (r : Reply). replies.Answers fleet next act r) (sym settled.1) given.3);
    passed = λ h. absurd (cc (h));
    committed = λ h. absurd (cc (h));
  }
  turned-changed next due ended.KeeperFailed given own settled = record {
    verdict = None;
    judged = given.0;
    leaves = leaves-same fleet opening history judged (judged_as desk key act ended.KeeperFailed None) (states flights) (states flights') held now st refl (ap states settled.0.0) settled.0.1;
    replied = settled.1;
    passed = λ _. refl;
    committed = λ _. given.1;
  }
  turned-changed next due ended.NoMemory given own settled = turned-out settled.0 settled.1

  -- a turn, from the answer and what was done about it
  pub turned : (a : Result Answer NoMemory) (outcome : Outcome) → IfOk a (IsAnswer fleet full before act) → IfOk a (KeepsKey key) → IsSettledBy fleet place a flights flights' held now outcome reply → IsTurned fleet opening history (entry_of desk key act outcome) flights' held now reply
  turned (Ok (Refused r)) outcome given own settled = subst (λ (o : Outcome). IsTurned fleet opening history (entry_of desk key act o) flights' held now reply) (sym settled.1) (turned-refused r given settled.0 settled.2)
  turned (Ok (Told due)) outcome given own settled = subst (λ (o : Outcome). IsTurned fleet opening history (entry_of desk key act o) flights' held now reply) (sym settled.1) (turned-told due given settled.0 settled.2)
  turned (Ok (Changed next due)) outcome given own settled = turned-changed next due outcome given own settled
  turned (Err e) outcome given own settled = subst (λ (o : Outcome). IsTurned fleet opening history (entry_of desk key act o) flights' held now reply) (sym settled.1) (turned-out settled.0 settled.2)
