-- The arguments of several desks, and how their run ends.
use Rattle.std.proofs.Common.{◌≡◌, ◌≢◌, ◌≤◌, ◌-◌, ◌+◌, ◌⊎◌, inl, inr, ℕ, List, [], ◌∷◌, length, take, drop, map, get_or, Option, Result, Ok, Err, refl, sym, ap, ◌∙◌, subst, arith}
use Rattle.std.specs.Prelude.{All, codes, String, string_bytes, None, Some, IfNone, IsSomeAnd, option_map}
use Rattle.std.specs.List.{slice_get}
use Rattle.std.proofs.lemmas.Option.{slice_get-map}
use Rattle.std.specs.Result.{IfOk, IfErr, OnOk, OnErr}
use Rattle.std.specs.declared.alloc.Global.{Global}
use Rattle.std.proofs.lemmas.List.{take_all, length-map}
use Rattle.mass_units.specs.Spelling.{number_text}
use Rattle.mass_units.proofs.SpellingLemmas.{number_text-injective}
use Rattle.base_words.specs.Faults.{Rose}
use Rattle.load_io.specs.Shelf.{Files}
use Rattle.keeper.specs.Tables.{Tables}
use Rattle.flight_state.specs.declared.state.FlightState.{FlightState}
use Rattle.flight_history.specs.declared.entry.Entry.{Entry}
use Rattle.desk_serve.specs.Doors.{EndAs}
use Rattle.desk_serve.specs.declared.ending.DoorsEnd.{DoorsEnd}
use Rattle.desk_serve.specs.declared.ending.DoorsEnd.TheVariants.{Closed, Failed}
use Rattle.desk_run.specs.Faults.{IsNotOpened}
use Rattle.desk_run.specs.Runs.{line}
use Rattle.desk_run.specs.DoorRuns.{IsRunOfDoors, HaveSameRows}
use Rattle.desk_run.specs.declared.fault.DeskFault.{DeskFault}
use Rattle.desk_run.specs.declared.fault.DeskFault.TheVariants.{Unread, Keeper, NoMemory}
use Rattle.desk_run.proofs.Causes.{refused-no_fleet, refused-reported}
use Rattle.plan_commands.specs.Arguments.{BeginsWithMinus, arguments_of}
use Rattle.loadctl.specs.Asked.{AskForServeOver}
use Rattle.loadctl.specs.Desk.{most_aircraft, surroundings, IsStoreName, IsReported, Surroundings}
use Rattle.loadctl.specs.Serve.{most_desks, ports_end, status_of_doors, AskForServe, EndsServe, IsCompleteAtDoors}
use Rattle.loadctl.specs.Serve.EndsServe.{served, unopened}
use Rattle.loadctl.proofs.DeskLemmas.{unopened-ends, refused-ends}

-- the first four and the others
pub four_and_more : {X : Type 0} (xs : List X) (a b c d d0 d1 d2 d3 : X) → 4 ≤ length xs → a ≡ get_or xs 0 d0 → b ≡ get_or xs 1 d1 → c ≡ get_or xs 2 d2
    → d ≡ get_or xs 3 d3 → xs ≡ a ∷ b ∷ c ∷ d ∷ take (length xs - 4) (drop 4 xs)
four_and_more [] a b c d d0 d1 d2 d3 n p q r s = absurd (omega (arith, n))
four_and_more (x0 ∷ []) a b c d d0 d1 d2 d3 n p q r s = absurd (omega (arith, n))
four_and_more (x0 ∷ x1 ∷ []) a b c d d0 d1 d2 d3 n p q r s = absurd (omega (arith, n))
four_and_more (x0 ∷ x1 ∷ x2 ∷ []) a b c d d0 d1 d2 d3 n p q r s = absurd (omega (arith, n))
four_and_more (x0 ∷ x1 ∷ x2 ∷ x3 ∷ more) a b c d d0 d1 d2 d3 n p q r s =
    rw (p, q, r, s) (ap (λ ys. x0 ∷ x1 ∷ x2 ∷ x3 ∷ ys) (sym (take_all (length (x0 ∷ x1 ∷ x2 ∷ x3 ∷ more) - 4) more (omega arith))))

-- one text of arguments asks for one number of desks at one port
pub one_serve : (arguments : List (List ℕ)) (a b p q : ℕ) (names others : List (List ℕ)) → AskForServe arguments a p names → AskForServe arguments b q others
    → (a ≡ b) × (p ≡ q)
one_serve arguments a b p q names others one other =
    let same = sym one.form ∙ other.form in
    (number_text-injective a b (cc same), number_text-injective p q (cc same))

module _ (arguments : List (String Global)) (command desks port store : String Global) (rest : List (String Global))
    (parts : arguments ≡ command ∷ desks ∷ port ∷ store ∷ rest) where
  pub serve-asked : (n p : ℕ) (name : List ℕ) → name ≡ string_bytes store → string_bytes command ≡ codes "serve" → string_bytes desks ≡ number_text n
      → string_bytes port ≡ number_text p → IsStoreName name → 1 ≤ n → n ≤ most_desks → 1 ≤ p → p + n ≤ ports_end → 1 ≤ length rest → length rest ≤ most_aircraft
      → All (λ argument. BeginsWithMinus argument → ⊥) (arguments_of arguments) → AskForServeOver (arguments_of arguments) n p name (arguments_of rest)
  serve-asked n p name is_store is_serve is_n is_p named some_desks few_desks first last some few plain =
      let same : length (arguments_of rest) ≡ length rest = length-map rest string_bytes in
      let more = string_bytes store ∷ arguments_of rest in
      record {
        serve = record {
          store = string_bytes store;
          form = ap arguments_of parts ∙ ap (λ a. a ∷ string_bytes desks ∷ string_bytes port ∷ more) is_serve
              ∙ ap (λ b. codes "serve" ∷ b ∷ string_bytes port ∷ more) is_n ∙ ap (λ c. codes "serve" ∷ number_text n ∷ c ∷ more) is_p;
          some_desks = some_desks;
          few_desks = few_desks;
          first = first;
          last = last;
          named = subst IsStoreName is_store named;
          some = omega arith;
          few = omega arith;
          plain = plain;
        };
        same = sym is_store;
      }

  -- the names are as many as the arguments behind the first four
  pub serve-count : (n p : ℕ) (names : List (List ℕ)) → AskForServe (arguments_of arguments) n p names → (1 ≤ length rest) × (length rest ≤ most_aircraft)
  serve-count n p names is =
      let asked = ap length is.form in
      let given = length-map arguments string_bytes in
      let all = ap length parts in
      let some = is.some in
      let few = is.few in
      (omega arith, omega arith)

  same-heads : (a b c d : List ℕ) (names : List (List ℕ)) → map string_bytes (command ∷ desks ∷ port ∷ store ∷ rest) ≡ a ∷ b ∷ c ∷ d ∷ names
      → (string_bytes command ≡ a) × (string_bytes desks ≡ b) × (string_bytes port ≡ c) × (string_bytes store ≡ d)
  same-heads a b c d names e = (cc, cc, cc, cc)

  heads : (n p : ℕ) (names : List (List ℕ)) → (is : AskForServe (arguments_of arguments) n p names)
      → (string_bytes command ≡ codes "serve") × (string_bytes desks ≡ number_text n) × (string_bytes port ≡ number_text p) × (string_bytes store ≡ is.store)
  heads n p names is = same-heads (codes "serve") (number_text n) (number_text p) is.store names (sym (ap arguments_of parts) ∙ is.form)

  -- the first argument, and the store
  pub serve-head : (n p : ℕ) (names : List (List ℕ)) → AskForServe (arguments_of arguments) n p names → (string_bytes command ≡ codes "serve") × IsStoreName (string_bytes store)
  serve-head n p names is =
      let all = heads n p names is in
      (all.0, subst IsStoreName (sym all.3) is.named)

  -- the two numbers
  pub serve-numbers : (n p : ℕ) (names : List (List ℕ)) → AskForServe (arguments_of arguments) n p names → (string_bytes desks ≡ number_text n) × (string_bytes port ≡ number_text p)
  serve-numbers n p names is =
      let all = heads n p names is in
      (all.1, all.2)

-- what holds of no answer, where it holds
pub none-of : {X : Type 0} {A : Type 0} (answer : Option X) → A → IfNone answer A
none-of None held = held
none-of (Some x) held = tt

-- what is said of the argument at a place
pub named-at : (words : List (String Global)) (place : ℕ) (name : String Global) (P : List ℕ → Type 0) → slice_get words place ≡ Some name
    → IsSomeAnd (slice_get (arguments_of words) place) P → P (string_bytes name)
named-at words place name P is said =
    let found : slice_get (arguments_of words) place ≡ Some (string_bytes name) = slice_get-map string_bytes words place ∙ ap (option_map string_bytes) is in
    rw found at said

module _ {D L : Type 0} (coming_of handed_of : D → Option (List L)) (faults_of : D → ℕ) (input_of output_of : L → Option (List ℕ)) (reads_of writes_of : L → ℕ)
    (names : List (List ℕ)) (files files' : Option Files) (failed failed' : ℕ) (tables tables' : Option Tables) (rows rows' : ℕ)
    (output output' : Option (List ℕ)) (writes writes' : ℕ) (ds ds' : List D) (opening : List FlightState) (history : List Entry) (status : ℕ)
    (left : Option (List ℕ)) (reads : ℕ) where
  pub serve-ends : (ending : Result DoorsEnd DeskFault)
      → IfOk ending (λ end. IsRunOfDoors coming_of handed_of faults_of input_of output_of reads_of writes_of files names tables tables' rows rows' ds ds' end opening history)
      → IfErr ending (IsNotOpened files names tables)
      → OnErr ending ((opening ≡ []) × (history ≡ []))
      → OnErr ending (ds' ≡ ds)
      → (ending ≡ Err Unread → Rose failed failed')
      → (ending ≢ Err Unread → failed' ≡ failed)
      → (ending ≡ Err Keeper → Rose rows rows')
      → IfErr ending (λ fault. fault ≢ NoMemory → tables' ≡ tables)
      → OnErr ending (HaveSameRows tables tables')
      → IfErr ending (λ fault. fault ≢ Keeper → rows' ≡ rows)
      → IfOk ending (λ end. status ≡ status_of_doors end)
      → OnOk ending ((output' ≡ output) × (writes' ≡ writes))
      → IfErr ending (λ fault. IsReported fault output output' writes writes' status)
      → EndsServe coming_of handed_of faults_of input_of output_of reads_of writes_of names
      (surroundings files failed tables rows (line left output reads writes)) (surroundings files' failed' tables' rows' (line left output' reads writes')) ds ds' opening history status
  serve-ends (Ok end) run cause empty still counted uncounted fails held alike kept is same reported =
      rw (is, same.0, same.1) (served end (λ file refused. refused-no_fleet files names run.opened.fleet file refused run.of_files) run (uncounted (λ e. cc)) refl)
  serve-ends (Err fault) run cause empty still counted uncounted fails held alike kept is same reported =
      unopened fault record {
        cause = cause;
        refused = λ file refused. refused-reported files names tables file fault refused cause;
        unread = λ e. counted (ap (λ f. Err f) e);
        read = λ n. uncounted (λ e. n (let f : Err fault ≡ Err Unread = e in cc));
        failed = λ e. fails (ap (λ f. Err f) e);
        kept = kept;
        unheard = record { input = refl; reads = refl };
      } reported held alike still empty.0 empty.1

module _ {D L : Type 0} (coming_of handed_of : D → Option (List L)) (faults_of : D → ℕ) (input_of output_of : L → Option (List ℕ)) (reads_of writes_of : L → ℕ)
    (names : List (List ℕ)) (before after : Surroundings) (ds ds' : List D) where
  doors-end : (ending : DoorsEnd) → EndAs coming_of handed_of faults_of ending ds ds'
      → (status_of_doors ending ≡ 0) ⊎ (((status_of_doors ending ≡ 11) × EndAs coming_of handed_of faults_of Failed ds ds') ⊎ (status_of_doors ending ≡ 9))
  doors-end Closed ended = inl refl
  doors-end Failed ended = inr (inl (refl, ended))

  -- what the files and the kept rows come to where no call but one of the doors fails
  pub serve-complete : (opening : List FlightState) (history : List Entry) (status : ℕ)
      → EndsServe coming_of handed_of faults_of input_of output_of reads_of writes_of names before after ds ds' opening history status
      → IsCompleteAtDoors coming_of handed_of faults_of names before after ds ds' status
  serve-complete opening history _ (served ending unrefused run read line) = record {
    served = λ can none. doors-end ending run.served.ended;
    refused = λ file refused none. absurd (unrefused file refused);
  }
  serve-complete opening history status (unopened fault is reported held alike still opens says) = record {
    served = λ can none. inr (inr (unopened-ends names before after none fault status can is reported));
    refused = λ file refused none. refused-ends names before after none fault status file (is.refused file refused) is reported;
  }
