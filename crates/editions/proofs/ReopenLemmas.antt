-- an office that is started on the tables that another one kept
use Rattle.std.proofs.Common.{refl, ◌≡◌, ℕ, List, [], Option, None, Some, cond, ◌∙◌, sym, ap, subst}
use Rattle.std.specs.Prelude.{IfSome, bytes_eq}
use Rattle.std.specs.Option.{option_and_then}
use Rattle.aircraft_file.specs.Craft.{Craft}
use Rattle.aircraft_file.specs.Lawful.{IsLawfulCraft}
use Rattle.flight_state.specs.declared.state.FlightState.{FlightState}
use Rattle.flight_state.specs.Legs.{key_of}
use Rattle.flight_row.specs.Loading.{Reads, aircraft_of}
use Rattle.flight_row.proofs.LoadLemmas.{loaded_leg, reads_once}
use Rattle.flight_row.proofs.PlanLemmas.{names_differ}
use Rattle.keeper.specs.declared.row.KeptRow.{KeptRow}
use Rattle.keeper.specs.Tables.{Tables, AreAllRows, bytes_under}
use Rattle.flight_history.specs.declared.entry.Act.{Act}
use Rattle.flight_history.specs.declared.entry.Entry.{Entry}
use Rattle.flight_history.specs.Standing.{standing}
use Rattle.flight_history.specs.History.{Judged, flight_at, standing_of, IsJudgement}
use Rattle.flight_history.specs.KeptRows.{AreKept, any_commits, kept_at}
use Rattle.flight_history.specs.Replies.{row_bytes}
use Rattle.flight_history.proofs.OneHistory.{one-acts}
use Rattle.flight_history.proofs.VerdictLemmas.{task-laws}
use Rattle.editions.specs.declared.flights.Flight.{Flight}
use Rattle.editions.specs.Books.{IsOffice, IsRowOf}
use Rattle.editions.specs.Places.{states}
use Rattle.editions.specs.Sound.{IsSound}
use Rattle.editions.specs.StartRows.{AreFlightsOf}
use Rattle.editions.proofs.StartLemmas.{found-all, rows-read, sounds}

-- a text is read as one flight
read-once : (fleet : List Craft) (bytes : List ℕ) (s t : FlightState) → IsSound fleet s → Reads fleet bytes s → Reads fleet bytes t → s ≡ t
read-once fleet bytes s t sound r q =
    let there : aircraft_of fleet r.row.leg ≡ Some sound.aircraft = ap (aircraft_of fleet) (sym (loaded_leg r.aircraft r.row s r.loaded)) ∙ sound.found in
    let given = r.found in
    let craft : sound.aircraft ≡ r.aircraft = cc (there, given) in
    reads_once fleet bytes r.version r.row r.aircraft s t (names_differ r.aircraft (subst IsLawfulCraft craft sound.lawful)) r.spells r.found r.loaded q

one-flight : (fleet : List Craft) (o : Option (List ℕ)) (s t : Option FlightState) → IfSome s (IsSound fleet) → IsRowOf fleet o s → IsRowOf fleet o t → t ≡ s
one-flight fleet None None None sound h g = refl
one-flight fleet None None (Some t) sound h g = absurd g
one-flight fleet None (Some s) t sound h g = absurd h
one-flight fleet (Some b) None t sound h g = absurd h
one-flight fleet (Some b) (Some s) None sound h g = absurd g
one-flight fleet (Some b) (Some s) (Some t) sound h g = ap Some (sym (read-once fleet b s t sound h g))

module _ (fleet : List Craft) (rows : List KeptRow) (opening : List FlightState) (entries : List Entry) (flights : List Flight) (office : IsOffice fleet rows opening entries flights) where
  abbrev own : List Judged
  own = office.history

  same-kept : (history : List Judged) (key : List ℕ) → IsJudgement fleet opening entries history → kept_at fleet rows opening history key ≡ kept_at fleet rows opening own key
  same-kept history key judged = ap (λ (acts : List Act). cond (any_commits fleet (flight_at opening key) [] acts) (option_and_then (row_bytes fleet) (standing fleet (flight_at opening key) acts)) (bytes_under rows key))
      (one-acts task-laws fleet opening entries history own key judged office.judgement)

  -- the flights that it opens with are the standings that were kept
  pub opens-kept : (held : Tables) (history : List Judged) → IsJudgement fleet opening entries history → AreKept fleet rows opening history (Some held)
      → (rows' : List KeptRow) (opening' : List FlightState) → AreFlightsOf fleet rows' opening' → AreAllRows (Some held) rows'
      → (other : List Judged) → IsJudgement fleet opening entries other → (key : List ℕ) → flight_at opening' key ≡ standing_of fleet opening other key
  opens-kept held history judged kept rows' opening' loaded all other judged' key =
      let bytes : bytes_under rows' key ≡ kept_at fleet rows opening own key = sym (all key) ∙ kept key ∙ same-kept history key judged in
      let sound : IfSome (standing_of fleet opening own key) (IsSound fleet) = subst (λ (o : Option FlightState). IfSome o (IsSound fleet)) (office.standings.each key)
      (found-all (IsSound fleet) (λ (s : FlightState). bytes_eq (key_of s.leg) key) (states flights) (sounds fleet flights office.sound)) in
      one-flight fleet (kept_at fleet rows opening own key) (standing_of fleet opening own key) (flight_at opening' key) sound (office.read_back key)
      (subst (λ (o : Option (List ℕ)). IsRowOf fleet o (flight_at opening' key)) bytes (rows-read fleet rows' opening' key loaded))
      ∙ ap (standing fleet (flight_at opening key)) (one-acts task-laws fleet opening entries own other key office.judgement judged')
