-- what is answered at the one desk of an office: there is room for each entry, and the keeper counts what it does not keep
use Rattle.std.proofs.Common.{◌≡◌, ◌≢◌, ◌==◌, ◌⊎◌, ◌||◌, ◌+◌, ◌-◌, ◌*◌, ◌<◌, ◌≤◌, ◌^◌, ℕ, Bool, true, false, List, [], ◌∷◌, ◌++◌, length, Option, Result, Ok, Err, refl, sym, ap, ◌∙◌, subst, arith, append-nil, inl, inr}
use Rattle.std.specs.Prelude.{IfOk, IfSome}
use Rattle.std.specs.List.{All, count_by, list_any}
use Rattle.std.proofs.lemmas.Bool.Decides.{nat_tests}
use Rattle.std.proofs.lemmas.List.{length-map}
use Rattle.std.proofs.lemmas.List.Elements.{All-head, All-tail, All-nil, All-cons, All-weaker}
use Rattle.load_io.specs.Shelf.{Files}
use Rattle.keeper.specs.Tables.{Tables}
use Rattle.flight_state.specs.declared.state.FlightState.{FlightState}
use Rattle.flight_history.specs.declared.entry.Entry.{Entry}
use Rattle.editions.specs.Books.{Books}
use Rattle.editions.specs.Starting.{IsStarted}
use Rattle.desk_fleet.specs.Fleet.{IsFleet}
use Rattle.desk_service.specs.Alone.{IsLater, failures}
use Rattle.desk_service.specs.Exchanges.{Exchange, IsServed as IsAnswered}
use Rattle.desk_service.specs.Laws.{has_status, unplaced}
use Rattle.desk_service.specs.Places.{placed_from}
use Rattle.desk_service.specs.Service.{Service, entries_of}
use Rattle.desk_service.specs.Turns.{Setting, Placed, placed, setting_of}
use Rattle.desk_service.proofs.Refusals.{no_way}
use Rattle.desk_service.proofs.ServiceLaws.{fewer_without_room, fails_with_the_keeper}
use Rattle.desk_service.proofs.Weights.{served_weighs}
use Rattle.desk_http.specs.declared.ending.ConnEnd.{ConnEnd}
use Rattle.desk_run.specs.Runs.{Line, reserved, IsServed, IsRunOf}
use Rattle.desk_run.specs.declared.fault.DeskFault.{DeskFault}

-- Entries of one desk ---------------------------------------------------------------------------

placed_nothing : (desk : ℕ) → placed desk [] ≡ []
unfolding placed_from
placed_nothing desk = refl

-- where all entries are of a desk, those of the desk are all
all_own : (desk place : ℕ) (es : List Entry) → All (λ (e : Entry). e.desk ≡ desk) es → unplaced (placed_from (λ (e : Entry). e.desk) desk place es) ≡ es
unfolding placed_from
all_own desk place [] all = refl
all_own desk place (e ∷ es) all =
    let by = All-head (λ (x : Entry). x.desk ≡ desk) e es all in
    let own : (e.desk == desk) ≡ true = grind (arith, nat_tests) in
    rw own (ap (λ xs. e ∷ xs) (all_own desk (place + 1) es (All-tail (λ (x : Entry). x.desk ≡ desk) e es all)))

-- Answers ---------------------------------------------------------------------------------------

abbrev HasRoom : Exchange → Type 0
HasRoom x = x.answer.status ≢ 507

has_room : (x : Exchange) → has_status 507 x ≡ false → HasRoom x
has_room x other = λ is. grind (arith, nat_tests)

first_of : (a b : Bool) → (a || b) ≡ false → a ≡ false
first_of true b e = e
first_of false b e = refl

second_of : (a b : Bool) → (a || b) ≡ false → b ≡ false
second_of true b e = absurd (no_way e)
second_of false b e = e

none_full : (xs : List Exchange) → list_any (has_status 507) xs ≡ false → All HasRoom xs
none_full [] e = All-nil HasRoom
none_full (x ∷ xs) e =
    All-cons HasRoom x xs (has_room x (first_of (has_status 507 x) (list_any (has_status 507) xs) e)) (none_full xs (second_of (has_status 507 x) (list_any (has_status 507) xs) e))

module _ (opened closed : Books) (loaded faults' : ℕ) (history : List Entry) (exchanges : List Exchange) (none : opened.history ≡ []) (has : opened.spare ≡ 2000)
    (is : history ≡ closed.history) (later : IsLater (record { books = opened; faults = loaded }) (record { books = closed; faults = faults' }))
    (own : placed 1 history ≡ entries_of exchanges) (s : Setting) (v : Service s 1 history exchanges) where
  -- the entries of the exchanges are the whole history
  entered : unplaced (entries_of exchanges) ≡ later.rest
  entered =
      let whole : history ≡ later.rest = is ∙ (later.history ∙ ap (λ (xs : List Entry). xs ++ later.rest) none) in
      ap unplaced (sym own) ∙ (ap (λ (xs : List Entry). unplaced (placed 1 xs)) whole ∙ all_own 1 0 later.rest later.by_desk)

  many : length (entries_of exchanges) ≡ length later.rest
  many = sym (length-map (entries_of exchanges) (λ (one : Placed). one.1)) ∙ ap length entered

  -- where all places are taken, each exchange has made its two entries
  full_or_not : closed.spare ≡ 0 → length exchanges ≤ 1000 → (any : Bool) → list_any (has_status 507) exchanges ≡ any → All HasRoom exchanges
  full_or_not full few true some =
      let fewer : length (entries_of exchanges) < 2 * length exchanges = fewer_without_room s 1 history exchanges v some in
      let long = many in
      let spare : closed.spare + length later.rest ≡ opened.spare = later.spare in
      absurd (omega (arith, fewer, long, spare, has, full, few))
  full_or_not full few false e = none_full exchanges e

  roomy : (v.late ≡ []) ⊎ (closed.spare ≡ 0) → length exchanges ≤ 1000 → All HasRoom exchanges
  roomy (inl early) few =
      subst (All HasRoom) (sym (v.all ∙ (ap (λ xs. v.early ++ xs) early ∙ append-nil v.early)))
      (All-weaker (IsAnswered s 1 history) HasRoom (λ x answered. has_room x (served_weighs s 1 history x answered).tells.room) v.early v.served)
  roomy (inr full) few = full_or_not full few (list_any (has_status 507) exchanges) refl

  counted : faults' < 2 ^ 64 - 1 → loaded + count_by (has_status 503) exchanges ≤ faults'
  counted below =
      let failed : count_by (has_status 503) exchanges ≤ failures (unplaced (entries_of exchanges)) = fails_with_the_keeper s 1 history exchanges v in
      let same : failures (unplaced (entries_of exchanges)) ≡ failures later.rest = ap failures entered in
      let kept : loaded + failures later.rest ≤ faults' = later.counted below in
      omega (arith, failed, same, kept)

-- Runs ------------------------------------------------------------------------------------------

module _ (exposed : Option Files) (names : List (List ℕ)) (held held' : Option Tables) (faults loaded faults' : ℕ) (before after : Line) (opened : Books)
    (opening : List FlightState) (history : List Entry) where
  -- an office was opened and served its connection
  run_of_one : (ending : ConnEnd) → IfSome exposed (λ files. IsFleet files names opened.fleet) → IsStarted opened.fleet reserved held opened → faults ≤ loaded
      → IsServed opened held' loaded faults' before after ending opening history → IsRunOf exposed names held held' faults faults' before after ending opening history
  run_of_one ending of_files started since is =
      let link = is.served in
      let xs = link.served.exchanges in
      let own : placed 1 history ≡ entries_of xs = link.own ∙ (ap (λ (es : List Placed). es ++ link.entries) (placed_nothing 1) ∙ link.served.made) in
      record {
        opened = opened;
        of_files = of_files;
        started = started;
        loaded = loaded;
        since = since;
        served = is;
        room = roomy opened is.closed loaded faults' history xs started.unasked started.reserved is.history_is is.later own (setting_of opened) link.served.service link.served.lacks link.served.few;
        failures = λ below.
            let few : loaded + count_by (has_status 503) xs ≤ faults' = counted opened is.closed loaded faults' history xs started.unasked started.reserved is.history_is is.later own (setting_of opened) link.served.service below in
            omega (arith, since, few);
      }

  -- however the connection ended
  pub run_of : (ending : Result ConnEnd DeskFault) → IfSome exposed (λ files. IsFleet files names opened.fleet) → IsStarted opened.fleet reserved held opened → faults ≤ loaded
      → IfOk ending (λ end. IsServed opened held' loaded faults' before after end opening history)
      → IfOk ending (λ end. IsRunOf exposed names held held' faults faults' before after end opening history)
  run_of (Ok end) of_files started since is = run_of_one end of_files started since is
  run_of (Err fault) of_files started since is = tt
