-- from the history that each desk has seen to the history of the closed office
use Rattle.std.proofs.Common.{◌≡◌, ◌+◌, ◌-◌, ◌<◌, ◌≤◌, ◌^◌, ℕ, List, [], ◌++◌, length, get_or, Option, Some, Result, Ok, Err, Bool, true, false, refl, sym, ap, ◌∙◌, arith, subst, append-nil}
use Rattle.std.specs.Prelude.{IfOk}
use Rattle.std.specs.List.{All, slice_get}
use Rattle.std.proofs.lemmas.Option.{slice_get-get_or, slice_get_within}
use Rattle.flight_history.specs.declared.entry.Entry.{Entry}
use Rattle.flight_state.specs.declared.state.FlightState.{FlightState}
use Rattle.keeper.specs.Tables.{Tables}
use Rattle.editions.specs.Books.{Books, HasTables}
use Rattle.base_words.specs.declared.NoMemory.{NoMemory}
use Rattle.atomic_table.specs.Seated.{TableId}
use Rattle.desk_lock.specs.declared.views.Origin.{Origin}
use Rattle.desk_lock.specs.Histories.{Continues}
use Rattle.desk_lock.specs.Desks.{IsSameDesk, IsFull, number, seen}
use Rattle.desk_lock.specs.Rooms.{AreNew, AreAllDesks, Closes}
use Rattle.desk_lock.proofs.Keeping.{there}
use Rattle.desk_service.specs.Alone.{Counted, failures}
use Rattle.desk_service.specs.Places.{GoesOn, placed_from}
use Rattle.desk_service.specs.Several.{IsAfter}
use Rattle.desk_service.specs.Turns.{Setting, setting_of, placed}
use Rattle.desk_service.proofs.Places.{placed_others}
use Rattle.desk_service.proofs.ServiceLaws.{stays_service}
use Rattle.desk_serve.specs.Doors.{Connection, all_entries, all_exchanges, keeper_failures, Attended, IsServedDoor, AreServedDoors, EndAs}
use Rattle.desk_serve.specs.Bays.{OfficeDesk, desk_setting, ending_of, AllWorked}
use Rattle.desk_serve.specs.Service.{IsOneHistory}
use Rattle.desk_serve.specs.declared.ending.DoorsEnd.{DoorsEnd}
use Rattle.desk_serve.proofs.Collecting.{collected}
use Rattle.desk_serve.proofs.Rounds.{all_served_on}
use Rattle.desk_serve.proofs.Unkept.{doors_failures}

abbrev desk_of : Entry → ℕ
desk_of entry = entry.desk

abbrev history_of : Counted → List Entry
history_of moment = moment.books.history

-- nothing has been entered yet
placed_none : (desk : ℕ) → placed desk [] ≡ []
unfolding placed_from
placed_none desk = refl

-- the desks of a room, after their work, are all desks of it
pub all_back : (p : Origin Counted) (room : TableId) (count : ℕ) (ks ks' : List OfficeDesk) → length ks ≡ count → AreNew history_of p room ks → length ks' ≡ length ks
    → ((i : ℕ) (k' : OfficeDesk) → slice_get ks' i ≡ Some k' → (k : OfficeDesk) × (slice_get ks i ≡ Some k) × IsSameDesk k k') → AreAllDesks p room count ks'
all_back p room count ks ks' many new back same = record {
  mine = λ i k' at.
      let s = same i k' at in
      let old = new i s.0 s.1 in
      (s.2.1 ∙ old.of, s.2.2 ∙ old.at);
  all = λ k lt.
      let e = there ks' k (omega arith) in
      let s = same k e.0 e.1 in
      (k, e.0, e.1, ap (λ (x : ℕ). x + 1) s.2.0 ∙ (new k s.0 s.1).place);
}

module _ {D L : Type 0} (coming_of handed_of : D → Option (List L)) (faults_of : D → ℕ) (input_of output_of : L → Option (List ℕ)) (reads_of writes_of : L → ℕ) where
  door_done : (s : Setting) (full full' : Type 0) (desk : ℕ) (first last history : List Entry) (d d' : D) (closed : Bool)
      → Attended coming_of handed_of faults_of input_of output_of reads_of writes_of s full desk first last d d' closed → first ≡ [] → (full → full') → Continues desk_of desk last history
      → (connections : List (Connection L)) × IsServedDoor coming_of handed_of faults_of input_of output_of reads_of writes_of s full' desk history connections d d'
  door_done s full full' desk first last history d d' closed a none more c =
      let on : GoesOn last history = record { rest = c.rest; is = c.is } in (
        a.connections,
        record {
          own = ap (placed desk) c.is ∙ (placed_others desk_of desk last c.rest c.others
              ∙ (a.own ∙ ap (λ es. es ++ all_entries a.connections) (ap (placed desk) none ∙ placed_none desk)));
          whole = stays_service s desk last history (all_exchanges a.connections) a.whole on;
          served = all_served_on coming_of handed_of faults_of input_of output_of reads_of writes_of s full full' desk last history a.connections more on a.served;
          closed = closed;
          handles = a.handles;
        },
      )

  pub doors_served : (p : Origin Counted) (room : TableId) (count : ℕ) (ks ks' : List OfficeDesk) (ds ds' : List D) (all : Bool) (opened closed : Counted) (capacity : ℕ)
      → p ≡ record { capacity = capacity; machine = opened } → opened.books.history ≡ [] → length ds ≡ count → AreNew history_of p room ks
      → AllWorked coming_of handed_of faults_of input_of output_of reads_of writes_of ds ds' ks ks' all
      → Closes history_of desk_of p count ks' closed.books.history
      → AreServedDoors coming_of handed_of faults_of input_of output_of reads_of writes_of (setting_of opened.books) (length closed.books.history ≡ capacity) closed.books.history ds ds'
  doors_served p room count ks ks' ds ds' all opened closed capacity is none many new run closes =
      let history = closed.books.history in
      let machine_is : p.machine ≡ opened = ap (λ (q : Origin Counted). q.machine) is in
      let fresh : history_of p.machine ≡ [] = ap history_of machine_is ∙ none in
      let whole : history ≡ closes.rest = closes.beyond ∙ ap (λ xs. xs ++ closes.rest) fresh in
      let found = collected (λ (i : ℕ) (door : List (Connection L)) (d d' : D). IsServedDoor coming_of handed_of faults_of input_of output_of reads_of writes_of (setting_of opened.books) (length history ≡ capacity) (i + 1) history door d d') ds ds' run.many
      (λ i d d' at at'.
      let e = run.each i d d' at at' in
      let k = e.0 in
      let k' = e.1 in
      let made = new i k e.3 in
      let one : number k ≡ i + 1 = made.place in
      let two : number k' ≡ i + 1 = ap (λ (x : ℕ). x + 1) e.5.same.0 ∙ made.place in
      let setting : desk_setting k ≡ setting_of opened.books = ap (λ (q : Origin Counted). setting_of q.machine.books) (made.of ∙ is) in
      door_done (setting_of opened.books) (IsFull k') (length history ≡ capacity) (i + 1) (seen k) (seen k') history d d' e.2
      (subst (λ n. Attended coming_of handed_of faults_of input_of output_of reads_of writes_of (setting_of opened.books) (IsFull k') n (seen k) (seen k') d d' e.2) one
      (subst (λ s. Attended coming_of handed_of faults_of input_of output_of reads_of writes_of s (IsFull k') (number k) (seen k) (seen k') d d' e.2) setting e.5.attended))
      (made.opening ∙ fresh)
      (λ full. ap length whole ∙ (closes.full i k' e.4 full ∙ ap (λ (q : Origin Counted). q.capacity) is))
      (subst (λ n. Continues desk_of n (seen k') history) two (closes.seen_by i k' e.4))) in
      record {
        connections = found.0;
        all = found.1;
        many = run.many;
        desks = subst (λ n. All (λ (e : Entry). (0 < e.desk) × (e.desk ≤ n)) history) (sym many) (subst (All (λ (e : Entry). (0 < e.desk) × (e.desk ≤ count))) (sym whole) closes.made);
        each = found.2;
      }

  -- how the work ended
  pub ends_as : (ks ks' : List OfficeDesk) (ds ds' : List D) (all : Bool) → AllWorked coming_of handed_of faults_of input_of output_of reads_of writes_of ds ds' ks ks' all
      → EndAs coming_of handed_of faults_of (ending_of all) ds ds'
  ends_as ks ks' ds ds' true run = λ i d' at'.
      let lt = slice_get_within ds' i d' at' in
      let n = run.many in
      let d = get_or ds i d' in
      let e = run.each i d d' (slice_get-get_or ds i d' (omega arith)) at' in
      e.5.attended.handles.ended (e.6 refl)
  ends_as ks ks' ds ds' false run = run.failed refl

  -- where all reserved entries were made, no place is spare any more
  none_spare : (opened closed : Counted) (capacity : ℕ) → capacity ≡ opened.books.spare → opened.books.history ≡ [] → IsAfter opened closed
      → length closed.books.history ≡ capacity → closed.books.spare ≡ 0
  none_spare opened closed capacity reserved none after all =
      let long : length closed.books.history ≡ length after.rest = ap length after.history ∙ ap (λ (xs : List Entry). length (xs ++ after.rest)) none in
      let spare = after.spare in
      omega (arith, long, spare, reserved, all)

  -- the doors are served with that as what is full
  pub spare_doors : (s : Setting) (opened closed : Counted) (capacity : ℕ) (history : List Entry) (ds ds' : List D) → capacity ≡ opened.books.spare → opened.books.history ≡ [] → IsAfter opened closed
      → AreServedDoors coming_of handed_of faults_of input_of output_of reads_of writes_of s (length closed.books.history ≡ capacity) history ds ds'
      → AreServedDoors coming_of handed_of faults_of input_of output_of reads_of writes_of s (closed.books.spare ≡ 0) history ds ds'
  spare_doors s opened closed capacity history ds ds' reserved none after doors = record {
    connections = doors.connections;
    all = doors.all;
    many = doors.many;
    desks = doors.desks;
    each = λ i connections d d' there at at'.
        let door = doors.each i connections d d' there at at' in
        record {
          own = door.own;
          whole = door.whole;
          served = all_served_on coming_of handed_of faults_of input_of output_of reads_of writes_of s (length closed.books.history ≡ capacity) (closed.books.spare ≡ 0) (i + 1) history history connections
              (none_spare opened closed capacity reserved none after) (record { rest = []; is = sym (append-nil history) }) door.served;
          closed = door.closed;
          handles = door.handles;
        };
  }

  -- the keeper counted the failures that the doors were answered
  counted_failures : (opened closed : Counted) (s : Setting) (full : Type 0) (history : List Entry) (ds ds' : List D) (faults' : ℕ) → opened.books.history ≡ [] → IsAfter opened (record { books = closed.books; faults = faults' })
      → history ≡ closed.books.history → (doors : AreServedDoors coming_of handed_of faults_of input_of output_of reads_of writes_of s full history ds ds')
      → faults' < 2 ^ 64 - 1 → opened.faults + keeper_failures doors.connections ≤ faults'
  counted_failures opened closed s full history ds ds' faults' none after said doors below =
      let counted = after.counted below in
      let whole : history ≡ after.rest = said ∙ (after.history ∙ ap (λ (xs : List Entry). xs ++ after.rest) none) in
      let same : failures history ≡ failures after.rest = ap failures whole in
      let few = doors_failures coming_of handed_of faults_of input_of output_of reads_of writes_of s full history ds ds' doors in
      omega (arith, counted, same, few)

  -- the office that the bench is taken apart into served the doors
  pub one_history : (office : Books) (faults : ℕ) (bench closed : Counted) (capacity : ℕ) (office' : Books) (held' : Option Tables) (faults' : ℕ) (ds ds' : List D)
      (opening : List FlightState) (history : List Entry) (ending : Result DoorsEnd NoMemory)
      → bench ≡ record { books = office; faults = faults } → capacity ≡ office.spare → office.history ≡ []
      → office' ≡ closed.books → faults' ≡ closed.faults → HasTables held' office' → opening ≡ office'.opening → history ≡ office'.history
      → IfOk ending (λ _. IsAfter bench closed)
      → IfOk ending (λ _. AreServedDoors coming_of handed_of faults_of input_of output_of reads_of writes_of
      (setting_of bench.books) (length closed.books.history ≡ capacity) closed.books.history ds ds')
      → IfOk ending (λ end. EndAs coming_of handed_of faults_of end ds ds')
      → IfOk ending (λ end. IsOneHistory coming_of handed_of faults_of input_of output_of reads_of writes_of
      office held' faults faults' ds ds' end opening history)
  one_history office faults bench closed capacity office' held' faults' ds ds' opening history (Ok end) begins reserved none is_office is_count tables is_opening is_history after doors ended =
      let opened : Counted = record { books = office; faults = faults } in
      let after' : IsAfter opened closed = subst (λ (b : Counted). IsAfter b closed) begins after in
      let doors' = subst (λ (b : Counted). AreServedDoors coming_of handed_of faults_of input_of output_of reads_of writes_of
      (setting_of b.books) (length closed.books.history ≡ capacity) closed.books.history ds ds') begins doors in
      let said : history ≡ closed.books.history = is_history ∙ ap (λ (b : Books). b.history) is_office in
      let after'' : IsAfter opened (record { books = closed.books; faults = faults' }) = subst (λ (n : ℕ). IsAfter opened (record { books = closed.books; faults = n })) (sym is_count) after' in
      let all : AreServedDoors coming_of handed_of faults_of input_of output_of reads_of writes_of (setting_of office) (closed.books.spare ≡ 0) history ds ds' =
      subst (λ (h : List Entry). AreServedDoors coming_of handed_of faults_of input_of output_of reads_of writes_of (setting_of office) (closed.books.spare ≡ 0) h ds ds') (sym said)
      (spare_doors (setting_of office) opened closed capacity closed.books.history ds ds' reserved none after' doors') in
      record {
        closed = closed.books;
        opening_is = is_opening ∙ ap (λ (b : Books). b.opening) is_office;
        history_is = said;
        after = after'';
        doors = all;
        failures = counted_failures opened closed (setting_of office) (closed.books.spare ≡ 0) history ds ds' faults' none after'' said all;
        ended = ended;
        tables = subst (HasTables held') is_office tables;
      }
  one_history office faults bench closed capacity office' held' faults' ds ds' opening history (Err no_memory) begins reserved none is_office is_count tables is_opening is_history after doors ended = tt
