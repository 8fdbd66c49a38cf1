-- a turn of the office, from what its calls ensure
use Rattle.std.proofs.Common.{refl, ◌≡◌, ℕ, ◌-◌, Bool, true, List, [], ◌∷◌, ◌++◌, Option, None, Some, All, ◌∙◌, sym, ap, subst, length, map, cond}
use Rattle.std.specs.Prelude.{nat_le, Result, Ok, Err, IfOk}
use Rattle.std.specs.Option.{option_and_then}
use Rattle.std.proofs.lemmas.List.{map-append, length-map}
use Rattle.base_words.specs.Faults.{Rose}
use Rattle.base_words.specs.declared.NoMemory.{NoMemory}
use Rattle.aircraft_file.specs.Craft.{Craft}
use Rattle.flight_state.specs.declared.state.FlightState.{FlightState}
use Rattle.flight_state.specs.Legs.{key_of}
use Rattle.keeper.specs.declared.row.KeptRow.{KeptRow}
use Rattle.keeper.specs.Tables.{Tables, bytes_under}
use Rattle.flight_history.specs.declared.entry.Act.{Act}
use Rattle.flight_history.specs.declared.entry.Entry.{Entry}
use Rattle.flight_history.specs.declared.entry.Outcome.{Outcome}
use Rattle.flight_history.specs.declared.entry.Outcome.TheVariants as ended
use Rattle.flight_history.specs.declared.reply.Reply.{Reply}
use Rattle.flight_history.specs.declared.request.Request.{Request}
use Rattle.flight_history.specs.Standing.{standing}
use Rattle.flight_history.specs.History.{Judged, acts_of, flight_at, standing_of, is_full}
use Rattle.flight_history.specs.KeptRows.{AreKept, any_commits}
use Rattle.flight_history.specs.Replies.{row_bytes}
use Rattle.flight_history.proofs.HistoryLemmas.{judged-push, accepted-yes}
use Rattle.flight_history.proofs.KeptLemmas.{AreKept-still}
use Rattle.flight_history.proofs.OneHistory.{one-acts}
use Rattle.flight_history.proofs.VerdictLemmas.{task-laws}
use Rattle.editions.specs.declared.answers.Answer.{Answer}
use Rattle.editions.specs.declared.answers.Answer.TheVariants.{Refused, Told, Changed}
use Rattle.editions.specs.declared.flights.Flight.{Flight}
use Rattle.editions.specs.Acts.{keeps_figures, key_asked, IsActOf, IsWithinLimits}
use Rattle.editions.specs.Answers.{IsAnswer, KeepsFigures, KeepsKey, IsLawfulAt}
use Rattle.editions.specs.Places.{states, state_at, IsPlaceOf}
use Rattle.editions.specs.Settled.{IsSettledBy}
use Rattle.editions.specs.Sound.{IsKeptFlight}
use Rattle.editions.specs.Books.{Books, IsOffice, IsTurn, HasTables}
use Rattle.editions.proofs.AnswerLemmas.{keep-figures, keep-key}
use Rattle.editions.proofs.AskLemmas.{lawful-at}
use Rattle.editions.proofs.BestLemmas.{best-act, installs-push}
use Rattle.editions.proofs.PlaceLemmas.{state_at-place, place-key}
use Rattle.editions.proofs.TurnLemmas.{IsTurned, entry_of, judged_as, turned}

-- the flights are sound after whatever was done
settled-sound : (fleet : List Craft) (place : Option ℕ) (answer : Result Answer NoMemory) (flights flights' : List Flight) (held now : Option Tables) (outcome : Outcome) (reply : Reply)
    → IsSettledBy fleet place answer flights flights' held now outcome reply → All (IsKeptFlight fleet) flights → All (IsKeptFlight fleet) flights'
settled-sound fleet place (Ok (Refused r)) flights flights' held now outcome reply settled kept = subst (All (IsKeptFlight fleet)) (sym settled.0.0) kept
settled-sound fleet place (Ok (Told due)) flights flights' held now outcome reply settled kept = subst (All (IsKeptFlight fleet)) (sym settled.0.0) kept
settled-sound fleet place (Ok (Changed next due)) flights flights' held now ended.Done reply settled kept = settled.0.sound kept
settled-sound fleet place (Ok (Changed next due)) flights flights' held now ended.KeeperFailed reply settled kept = subst (All (IsKeptFlight fleet)) (sym settled.0.0) kept
settled-sound fleet place (Ok (Changed next due)) flights flights' held now ended.NoMemory reply settled kept = subst (All (IsKeptFlight fleet)) (sym settled.0.0) kept
settled-sound fleet place (Err e) flights flights' held now outcome reply settled kept = subst (All (IsKeptFlight fleet)) (sym settled.0.0) kept

-- the tables of one judgement are those of another
kept-same : (fleet : List Craft) (rows : List KeptRow) (opening : List FlightState) (one other : List Judged) (held : Option Tables) → ((key : List ℕ) → acts_of key one ≡ acts_of key other)
    → AreKept fleet rows opening other held → AreKept fleet rows opening one held
kept-same fleet rows opening one other held same h = AreKept-still fleet rows opening other one held
    (λ key. ap (λ (acts : List Act). cond (any_commits fleet (flight_at opening key) [] acts) (option_and_then (row_bytes fleet) (standing fleet (flight_at opening key) acts)) (bytes_under rows key)) (same key)) h

-- what was asked, and what is answered
pub record HasAsked (fleet : List Craft) (flights : List Flight) (request : Request) (key : List ℕ) (place : Option ℕ) (x : Act) (answer : Result Answer NoMemory) : Type 0 where
  pub key_is : key ≡ key_asked request
  pub at : IsPlaceOf (states flights) key place
  pub asked : IsActOf fleet (flight_at (states flights) (key_asked request)) request x
  pub given : IfOk answer (IsAnswer fleet (nat_le 2000 (length flights)) (state_at flights place) x)

module _ (fleet : List Craft) (flights : List Flight) (request : Request) (key : List ℕ) (place : Option ℕ) (x : Act) (answer : Result Answer NoMemory) where
  own-key : (at : IsPlaceOf (states flights) key place) (p : Option ℕ) → p ≡ place → (s : FlightState) → state_at flights place ≡ Some s → key_of s.leg ≡ key
  own-key at None is s there = let no : None ≡ Some s = ap (state_at flights) is ∙ there in absurd (cc (no))
  own-key at (Some i) is s there = place-key flights key i s (subst (IsPlaceOf (states flights) key) (sym is) at) (ap (state_at flights) is ∙ there)

  -- what is changed has the key
  pub keys-kept : HasAsked fleet flights request key place x answer → IfOk answer (KeepsKey key)
  keys-kept a = subst (λ (k : List ℕ). IfOk answer (KeepsKey k)) (sym a.key_is)
      (keep-key fleet (nat_le 2000 (length flights)) (state_at flights place) request a.asked.same x answer a.asked.asks (λ s there. own-key a.at place refl s there ∙ a.key_is) a.given)

  -- and the figures that it had, where the act leaves them
  pub figures-kept : HasAsked fleet flights request key place x answer → keeps_figures x ≡ true → IfOk answer (KeepsFigures (state_at flights place))
  figures-kept a keeps = keep-figures fleet (nat_le 2000 (length flights)) (state_at flights place) x answer keeps a.given

  -- and is sound, since the act may come to the flight
  pub may-come : HasAsked fleet flights request key place x answer → IsWithinLimits request → IsLawfulAt fleet (state_at flights place) x
  may-come a within = subst (λ (o : Option FlightState). IsLawfulAt fleet o x) (sym (state_at-place flights key place a.at ∙ ap (flight_at (states flights)) a.key_is))
      (lawful-at fleet (flight_at (states flights) (key_asked request)) request x within a.asked)

-- what the calls of a turn ensure
pub record HasTurned (fleet : List Craft) (rows : List KeptRow) (opening : List FlightState) (entries : List Entry) (flights flights' : List Flight) (request : Request) (key : List ℕ) (place : Option ℕ) (x : Act) (answer : Result Answer NoMemory)
    (held now : Option Tables) (outcome : Outcome) (reply : Reply) : Type 0 where
  pub office : IsOffice fleet rows opening entries flights
  pub told : HasAsked fleet flights request key place x answer
  pub settled : IsSettledBy fleet place answer flights flights' held now outcome reply

module _ (fleet : List Craft) (rows : List KeptRow) (opening : List FlightState) (entries : List Entry) (flights flights' : List Flight) (request : Request) (desk : ℕ) (key : List ℕ) (place : Option ℕ) (x : Act) (answer : Result Answer NoMemory)
    (held now : Option Tables) (outcome : Outcome) (reply : Reply) (t : HasTurned fleet rows opening entries flights flights' request key place x answer held now outcome reply) where
  abbrev history : List Judged
  history = t.office.history

  abbrev before : Option FlightState
  before = standing_of fleet opening history key

  here : state_at flights place ≡ before
  here = state_at-place flights key place t.told.at ∙ t.office.standings.each key

  full-is : nat_le 2000 (length flights) ≡ is_full opening history
  full-is = ap (nat_le 2000) (sym (length-map flights (λ (f : Flight). f.state)) ∙ t.office.standings.count)

  given-here : IfOk answer (IsAnswer fleet (is_full opening history) before x)
  given-here = subst (λ (b : Bool). IfOk answer (IsAnswer fleet b before x)) full-is (subst (λ (o : Option FlightState). IfOk answer (IsAnswer fleet (nat_le 2000 (length flights)) o x)) here t.told.given)

  asked-here : IsActOf fleet before request x
  asked-here = subst (λ (o : Option FlightState). IsActOf fleet o request x) (t.office.standings.each key) (subst (λ (k : List ℕ). IsActOf fleet (flight_at (states flights) k) request x) (sym t.told.key_is) t.told.asked)

  done : IsTurned fleet opening history (entry_of desk key x outcome) flights' held now reply
  done = turned fleet opening history t.office.judgement.judged flights flights' t.office.standings desk key x place held now reply t.told.at answer outcome given-here (keys-kept fleet flights request key place x answer t.told) t.settled

  abbrev j : Judged
  j = judged_as desk key x outcome done.verdict

  entries-are : entries ++ entry_of desk key x outcome ∷ [] ≡ map (λ (i : Judged). i.entry) (history ++ j ∷ [])
  entries-are = ap (λ (es : List Entry). es ++ entry_of desk key x outcome ∷ []) t.office.judgement.entries_are ∙ sym (map-append (λ (i : Judged). i.entry) history (j ∷ []))

  -- the office after the turn
  pub office-after : IsOffice fleet rows opening (entries ++ entry_of desk key x outcome ∷ []) flights'
  office-after = record {
    history = history ++ j ∷ [];
    judgement = record { entries_are = entries-are; judged = judged-push fleet opening [] history j t.office.judgement.judged done.judged };
    standings = done.leaves.standings;
    sound = settled-sound fleet place answer flights flights' held now outcome reply t.settled t.office.sound;
    read_back = done.leaves.reads rows t.office.read_back;
    best = installs-push fleet opening [] history j t.office.best (λ accepted. best-act fleet (is_full opening history) before request x asked-here (accepted-yes fleet opening history j done.judged accepted));
  }

  -- the turn
  pub turn-is : (spare faults faults' : ℕ) (new : Books) → new ≡ record { fleet = fleet; rows = rows; opening = opening; history = entries ++ entry_of desk key x outcome ∷ []; spare = spare - 1 }
      → (outcome ≡ ended.KeeperFailed → Rose faults faults')
      → IsTurn (record { fleet = fleet; rows = rows; opening = opening; history = entries; spare = spare }) new faults faults' desk request reply
  turn-is spare faults faults' new added cause = record {
    history = history;
    judgement = t.office.judgement;
    j = j;
    judged = done.judged;
    added = added;
    by_desk = refl;
    of_key = t.told.key_is;
    of_act = asked-here;
    replied = done.replied;
    passed = done.passed;
    committed = done.committed;
    cause = cause;
  }

  -- tables that are those of the history stay so
  pub tables-after : (spare spare' : ℕ) → HasTables held (record { fleet = fleet; rows = rows; opening = opening; history = entries; spare = spare })
      → HasTables now (record { fleet = fleet; rows = rows; opening = opening; history = entries ++ entry_of desk key x outcome ∷ []; spare = spare' })
  tables-after spare spare' h = (
    history ++ j ∷ [],
    record { entries_are = entries-are; judged = judged-push fleet opening [] history j t.office.judgement.judged done.judged },
    done.leaves.tables rows (kept-same fleet rows opening history h.0 held (λ k. one-acts task-laws fleet opening entries history h.0 k t.office.judgement h.1) h.2),
  )

abbrev books_with : List Craft → List KeptRow → List FlightState → ℕ → List Entry → Books
books_with fleet rows opening spare entries = record { fleet = fleet; rows = rows; opening = opening; history = entries; spare = spare }

-- the books with this history
pub books-of : (fleet : List Craft) (rows : List KeptRow) (opening : List FlightState) (entries entries' : List Entry) (spare : ℕ) → entries ≡ entries'
    → books_with fleet rows opening spare entries ≡ books_with fleet rows opening spare entries'
books-of fleet rows opening entries entries' spare same = ap (books_with fleet rows opening spare) same
