-- The arguments of a desk, and how its run ends.
use Rattle.std.proofs.Common.{◌≡◌, ◌≢◌, ◌≤◌, ◌-◌, ◌⊎◌, inl, inr, ℕ, List, [], ◌∷◌, length, take, drop, map, get_or, Option, Result, Ok, Err, refl, sym, ap, ◌∙◌, subst, arith}
use Rattle.std.specs.Prelude.{All, codes, String, string_bytes}
use Rattle.std.specs.Result.{IfOk, IfErr, OnOk, OnErr}
use Rattle.std.specs.declared.alloc.Global.{Global}
use Rattle.std.proofs.lemmas.List.{take_all, length-map}
use Rattle.base_words.specs.Faults.{Rose}
use Rattle.load_io.specs.Shelf.{Files}
use Rattle.load_io.specs.Sink.{Appends, AppendsPart}
use Rattle.keeper.specs.Tables.{Tables}
use Rattle.flight_state.specs.declared.state.FlightState.{FlightState}
use Rattle.flight_history.specs.declared.entry.Entry.{Entry}
use Rattle.desk_http.specs.declared.ending.ConnEnd.{ConnEnd}
use Rattle.desk_http.specs.declared.ending.ConnEnd.TheVariants as end
use Rattle.desk_fleet.specs.declared.fault.RefusedFile.{RefusedFile}
use Rattle.desk_run.specs.Faults.{IsNotOpened, ReportsFile}
use Rattle.desk_run.specs.Runs.{Line, line, IsRunOf}
use Rattle.desk_run.specs.Servable.{CanOpen, CanServe}
use Rattle.desk_run.specs.declared.fault.DeskFault.{DeskFault}
use Rattle.desk_run.specs.declared.fault.DeskFault.TheVariants.{Fleet, Unread, Keeper, BadTable, TooMany, NoMemory}
use Rattle.desk_run.proofs.Causes.{refused-no_fleet, refused-reported, servable-fleet, servable-right, servable-few, unrefused-ends, read-failed, write-failed}
use Rattle.plan_commands.specs.Arguments.{BeginsWithMinus, arguments_of}
use Rattle.loadctl.specs.Asked.{AskForDeskOver}
use Rattle.loadctl.specs.Desk.{most_aircraft, surroundings, fault_text, status_of_end, status_of_fault, IsStoreName, AskForDesk, EndsDesk, IsComplete, IsReported, IsUnopened, NoneFailed, Surroundings}
use Rattle.loadctl.specs.Desk.IsReported.{whole, cut, no_memory}
use Rattle.loadctl.specs.Desk.EndsDesk.{served, unopened}

-- the first two and the others
pub two_and_more : {X : Type 0} (xs : List X) (a b d0 d1 : X) → 2 ≤ length xs → a ≡ get_or xs 0 d0 → b ≡ get_or xs 1 d1 → xs ≡ a ∷ b ∷ take (length xs - 2) (drop 2 xs)
two_and_more [] a b d0 d1 n p q = absurd (omega (arith, n))
two_and_more (x0 ∷ []) a b d0 d1 n p q = absurd (omega (arith, n))
two_and_more (x0 ∷ x1 ∷ more) a b d0 d1 n p q = rw (p, q) (ap (λ ys. x0 ∷ x1 ∷ ys) (sym (take_all (length (x0 ∷ x1 ∷ more) - 2) more (omega arith))))

module _ (arguments : List (String Global)) (command store : String Global) (rest : List (String Global)) (parts : arguments ≡ command ∷ store ∷ rest) where
  pub desk-asked : (name : List ℕ) → name ≡ string_bytes store → string_bytes command ≡ codes "desk" → IsStoreName name → 1 ≤ length rest → length rest ≤ most_aircraft
      → All (λ argument. BeginsWithMinus argument → ⊥) (arguments_of arguments) → AskForDeskOver (arguments_of arguments) name (arguments_of rest)
  desk-asked name is_store is_desk named some few plain =
      let same : length (arguments_of rest) ≡ length rest = length-map rest string_bytes in
      record {
        desk = record {
          store = string_bytes store;
          form = ap arguments_of parts ∙ ap (λ a. a ∷ string_bytes store ∷ arguments_of rest) is_desk;
          named = subst IsStoreName is_store named;
          some = omega arith;
          few = omega arith;
          plain = plain;
        };
        same = sym is_store;
      }

  -- the names of a desk are as many as the arguments behind the first two
  pub desk-count : (names : List (List ℕ)) → AskForDesk (arguments_of arguments) names → (1 ≤ length rest) × (length rest ≤ most_aircraft)
  desk-count names is =
      let asked = ap length is.form in
      let given = length-map arguments string_bytes in
      let all = ap length parts in
      let some = is.some in
      let few = is.few in
      (omega arith, omega arith)

  same-head : (names : List (List ℕ)) (first second : List ℕ) → map string_bytes (command ∷ store ∷ rest) ≡ first ∷ second ∷ names → (string_bytes command ≡ first) × (string_bytes store ≡ second)
  same-head names first second e = (cc, cc)

  -- the first two arguments of a desk
  pub desk-head : (names : List (List ℕ)) → AskForDesk (arguments_of arguments) names → (string_bytes command ≡ codes "desk") × IsStoreName (string_bytes store)
  desk-head names is =
      let head = same-head names (codes "desk") is.store (sym (ap arguments_of parts) ∙ is.form) in
      (head.0, subst IsStoreName (sym head.1) is.named)

module _ (fault : DeskFault) (output output' : Option (List ℕ)) (writes writes' : ℕ) (bytes text : List ℕ) (same : bytes ≡ text) (is : text ≡ fault_text fault) where
  pub reported-whole : (status : ℕ) → status ≡ status_of_fault fault → Appends output output' bytes → writes' ≡ writes → IsReported fault output output' writes writes' status
  reported-whole status e appended kept = rw e (whole (subst (Appends output output') (same ∙ is) appended) kept)

  pub reported-cut : AppendsPart output output' bytes → Rose writes writes' → IsReported fault output output' writes writes' 7
  reported-cut appended rose = cut (subst (AppendsPart output output') (same ∙ is) appended) rose

module _ (names : List (List ℕ)) (files files' : Option Files) (failed failed' : ℕ) (tables tables' : Option Tables) (rows rows' : ℕ)
    (input input' : Option (List ℕ)) (output mid output' : Option (List ℕ)) (reads reads' : ℕ) (writes between writes' : ℕ)
    (opening : List FlightState) (history : List Entry) (status : ℕ) where
  pub desk-ends : (ending : Result ConnEnd DeskFault)
      → IfOk ending (λ end. IsRunOf files names tables tables' rows rows' (line input output reads writes) (line input' mid reads' between) end opening history)
      → IfErr ending (IsNotOpened files names tables)
      → OnErr ending ((opening ≡ []) × (history ≡ []))
      → OnErr ending (line input' mid reads' between ≡ line input output reads writes)
      → (ending ≡ Err Unread → Rose failed failed')
      → (ending ≢ Err Unread → failed' ≡ failed)
      → (ending ≡ Err Keeper → Rose rows rows')
      → OnErr ending (tables' ≡ tables)
      → IfErr ending (λ fault. fault ≢ Keeper → rows' ≡ rows)
      → IfOk ending (λ end. status ≡ status_of_end end)
      → OnOk ending ((output' ≡ mid) × (writes' ≡ between))
      → IfErr ending (λ fault. IsReported fault mid output' between writes' status)
      → EndsDesk names (surroundings files failed tables rows (line input output reads writes)) (surroundings files' failed' tables' rows' (line input' output' reads' writes')) opening history status
  desk-ends (Ok end) run cause empty still counted uncounted fails held kept is same reported =
      rw (is, same.0, same.1) (served end (λ file refused. refused-no_fleet files names run.opened.fleet file refused run.of_files) run (uncounted (λ e. cc)))
  desk-ends (Err fault) run cause empty still counted uncounted fails held kept is same reported =
      let output_same : mid ≡ output = ap (λ (l : Line). l.output) still in
      let writes_same : between ≡ writes = ap (λ (l : Line). l.failed_writes) still in
      unopened fault record {
        cause = cause;
        refused = λ file refused. refused-reported files names tables file fault refused cause;
        unread = λ e. counted (ap (λ f. Err f) e);
        read = λ n. uncounted (λ e. n (let f : Err fault ≡ Err Unread = e in cc));
        failed = λ e. fails (ap (λ f. Err f) e);
        kept = kept;
        unheard = record { input = ap (λ (l : Line). l.input) still; reads = ap (λ (l : Line). l.failed_reads) still };
      } (rw (output_same, writes_same) at reported) held empty.0 empty.1

module _ (names : List (List ℕ)) (before after : Surroundings) (none : NoneFailed before after) where
  reported-ends : (fault : DeskFault) (status : ℕ)
      → IsReported fault before.line.output after.line.output before.line.failed_writes after.line.failed_writes status → (status ≡ status_of_fault fault) ⊎ (status ≡ 9)
  reported-ends fault _ (whole appended kept) = inl refl
  reported-ends fault _ (cut appended rose) = absurd (none.writes rose)
  reported-ends fault _ (no_memory output writes) = inr refl

  no_memory-ends : (status : ℕ)
      → IsReported NoMemory before.line.output after.line.output before.line.failed_writes after.line.failed_writes status → status ≡ 9
  no_memory-ends _ (whole appended kept) = refl
  no_memory-ends _ (cut appended rose) = absurd (none.writes rose)
  no_memory-ends _ (no_memory output writes) = refl

  served-ends : (ending : ConnEnd) (opening : List FlightState) (history : List Entry) → CanServe before.files names before.tables before.line.input
      → IsRunOf before.files names before.tables after.tables before.failed_rows after.failed_rows before.line after.line ending opening history
      → (status_of_end ending ≡ 0) ⊎ ((status_of_end ending ≡ 13) ⊎ (status_of_end ending ≡ 9))
  served-ends end.Ended opening history can run = inl refl
  served-ends (end.Refused reason) opening history can run = absurd (unrefused-ends _ _ _ _ _ _ _ _ _ _ reason can.unrefused run)
  served-ends end.ReadFault opening history can run = absurd (none.reads (read-failed _ _ _ _ _ _ _ _ _ _ run))
  served-ends end.WriteFault opening history can run = absurd (none.writes (write-failed _ _ _ _ _ _ _ _ _ _ run))
  served-ends end.Served opening history can run = inr (inl refl)

  -- an office that can be opened is, while there is memory
  pub unopened-ends : (fault : DeskFault) (status : ℕ) → CanOpen before.files names before.tables → IsUnopened names before after fault
      → IsReported fault before.line.output after.line.output before.line.failed_writes after.line.failed_writes status → status ≡ 9
  unopened-ends (Fleet file) status can is reported = absurd (servable-fleet _ _ _ can file is.cause)
  unopened-ends Unread status can is reported = absurd (none.files (is.unread refl))
  unopened-ends Keeper status can is reported = absurd (none.rows (is.failed refl))
  unopened-ends (BadTable key) status can is reported = absurd (servable-right _ _ _ can key is.cause)
  unopened-ends TooMany status can is reported = absurd (servable-few _ _ _ can is.cause)
  unopened-ends NoMemory status can is reported = no_memory-ends status reported

  -- a refused file is reported while there is memory
  pub refused-ends : (fault : DeskFault) (status : ℕ) (file : RefusedFile) → ReportsFile file fault → IsUnopened names before after fault
      → IsReported fault before.line.output after.line.output before.line.failed_writes after.line.failed_writes status → (status ≡ 3) ⊎ (status ≡ 9)
  refused-ends (Fleet reported) status file tells is printed = reported-ends (Fleet reported) status printed
  refused-ends Unread status file tells is printed = absurd (none.files (is.unread refl))
  refused-ends Keeper status file tells is printed = absurd tells
  refused-ends (BadTable key) status file tells is printed = absurd tells
  refused-ends TooMany status file tells is printed = absurd tells
  refused-ends NoMemory status file tells is printed = inr (no_memory-ends status printed)

-- what the files, the kept rows and the input come to where no call fails
pub desk-complete : (names : List (List ℕ)) (before after : Surroundings) (opening : List FlightState) (history : List Entry) (status : ℕ)
    → EndsDesk names before after opening history status → IsComplete names before after status
desk-complete names before after opening history _ (served ending unrefused run read) = record {
  served = λ can none. served-ends names before after none ending opening history can run;
  refused = λ file refused none. absurd (unrefused file refused);
}
desk-complete names before after opening history status (unopened fault is reported held opens says) = record {
  served = λ can none. inr (inr (unopened-ends names before after none fault status can.opens is reported));
  refused = λ file refused none. refused-ends names before after none fault status file (is.refused file refused) is reported;
}
