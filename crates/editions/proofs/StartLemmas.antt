-- the flights of loaded rows
use Rattle.std.proofs.Common.{refl, if◌then◌else◌, cond, nat_lt, IsTrue, ◌↔◌, ◌≡◌, ◌≢◌, Bool, true, false, ℕ, ◌+◌, ◌<◌, ◌≤◌, List, [], ◌∷◌, ◌++◌, Option, None, Some, All, AllPairs, arith, ◌∙◌, sym, ap, subst, length, take, get_or}
use Rattle.std.specs.Prelude.{find, IfSome, IfNone, IfOk, bytes_eq, option_map, Result, Ok, Err, MatchResult}
use Rattle.std.specs.Ordering.{nat_cmp}
use Rattle.std.specs.Cmp.Lexicographic.{slice_cmp}
use Rattle.std.specs.declared.cmp.Ordering.TheVariants.{Less}
use Rattle.std.proofs.lemmas.Bool.Decides.{nat_tests}
use Rattle.std.proofs.lemmas.List.{take_more, take_all, length-take-le, get_or-take}
use Rattle.trim.proofs.LooseLemmas.{first-none}
use Rattle.flight_history.proofs.LastOneLemmas.{by_test}
use Rattle.flight_history.proofs.HistoryLemmas.{key_is}
use Rattle.std.proofs.lemmas.List.Elements.{All-nil, All-cons, All-push, All-head, All-tail}
use Rattle.std.proofs.lemmas.Option.{slice_get_read, get_or_from_slice_get}
use Rattle.std.proofs.lemmas.Cmp.{nat_list_cmp_total, tied_itself}
use Rattle.std.proofs.lemmas.List.Kept.{AllPairs-cons}
use Rattle.base_words.proofs.PairLemmas.{AllPairs-head, AllPairs-tail}
use Rattle.base_words.specs.declared.NoMemory as memory
use Rattle.aircraft_file.specs.Craft.{Craft}
use Rattle.aircraft_file.specs.Lawful.{IsLawfulCraft}
use Rattle.flight_state.specs.declared.state.FlightState.{FlightState}
use Rattle.flight_state.specs.Legs.{key_of}
use Rattle.flight_row.specs.Loading.{Reads, HasRow, KeepsPlan, aircraft_of}
use Rattle.flight_row.specs.declared.fault.RowFault.{RowFault}
use Rattle.flight_row.specs.declared.fault.RowFault.TheVariants as row_fault
use Rattle.flight_row.proofs.LoadLemmas.{loaded_leg}
use Rattle.keeper.specs.declared.row.KeptRow.{KeptRow}
use Rattle.keeper.specs.Tables.{Tables, AreAllRows, AreInKeyOrder, IsBefore, bytes_under}
use Rattle.flight_history.specs.Standing.{standing}
use Rattle.flight_history.specs.History.{flight_at}
use Rattle.flight_history.proofs.StandingLemmas.{standing_from-nil}
use Rattle.editions.specs.declared.flights.Flight.{Flight}
use Rattle.editions.specs.declared.starting.StartFault.{StartFault}
use Rattle.editions.specs.declared.starting.StartFault.TheVariants.{Keeper, BadTable, TooMany, NoMemory}
use Rattle.editions.specs.Books.{Books, IsOffice, IsRowOf, HasTables}
use Rattle.editions.specs.Starting.{AreLoaded, IsLoadFault, IsRefusedStart}
use Rattle.editions.specs.Places.{states, IsPlaceOf}
use Rattle.editions.proofs.PlaceLemmas.{has, states-push}
use Rattle.editions.specs.Sound.{IsSound, IsKeptFlight}
use Rattle.editions.specs.StartRows.{IsFlightOf, IsGoodRow, AreFlightsOf, HasOneMore, HaveOtherKeys, IsRowFault, IsFirstFault, IsStartRefused}

-- Rows one by one -------------------------------------------------------------------------------------------

-- the flights of the rows so far
pub record AreSoFar (fleet : List Craft) (rows : List KeptRow) (i : ℕ) (opening : List FlightState) : Type 0 where
  pub flights : AreFlightsOf fleet (take i rows) opening
  pub sound : All (IsSound fleet) opening

flights-push : (fleet : List Craft) (rows : List KeptRow) (opening : List FlightState) (row : KeptRow) (s : FlightState) → AreFlightsOf fleet rows opening → IsFlightOf fleet row s → AreFlightsOf fleet (rows ++ row ∷ []) (opening ++ s ∷ [])
flights-push fleet [] [] row s all one = (one, refl)
flights-push fleet [] (t ∷ opening) row s all one = absurd (cc (all))
flights-push fleet (r ∷ rows) [] row s all one = absurd all
flights-push fleet (r ∷ rows) (t ∷ opening) row s all one = (all.0, flights-push fleet rows opening row s all.1 one)

pub so-far-none : (fleet : List Craft) (rows : List KeptRow) → AreSoFar fleet rows 0 []
so-far-none fleet rows = record { flights = refl; sound = All-nil (IsSound fleet) }

row-more : (rows : List KeptRow) (i : ℕ) (row : KeptRow) → i < length rows → row ≡ get_or rows i row → take i rows ++ row ∷ [] ≡ take (i + 1) rows
row-more rows i row within is = sym (take_more rows i row within ∙ ap (λ (r : KeptRow). take i rows ++ r ∷ []) (sym is))

pub so-far-more : (fleet : List Craft) (rows : List KeptRow) (i : ℕ) (row : KeptRow) (opening : List FlightState) (s : FlightState) → i < length rows → row ≡ get_or rows i row → IsFlightOf fleet row s → IsSound fleet s → AreSoFar fleet rows i opening
    → AreSoFar fleet rows (i + 1) (opening ++ s ∷ [])
so-far-more fleet rows i row opening s within is one sound all = record {
  flights = subst (λ (rs : List KeptRow). AreFlightsOf fleet rs (opening ++ s ∷ [])) (row-more rows i row within is) (flights-push fleet (take i rows) opening row s all.flights one);
  sound = All-push (IsSound fleet) opening s all.sound sound;
}

pub so-far-all : (fleet : List Craft) (rows : List KeptRow) (i : ℕ) (opening : List FlightState) → length rows ≤ i → AreSoFar fleet rows i opening → AreFlightsOf fleet rows opening
so-far-all fleet rows i opening past all = subst (λ (rs : List KeptRow). AreFlightsOf fleet rs opening) (take_all i rows past) all.flights

-- rows of flights are good
good-rows : (fleet : List Craft) (rows : List KeptRow) (opening : List FlightState) → AreFlightsOf fleet rows opening → All (IsGoodRow fleet) rows
good-rows fleet [] opening all = All-nil (IsGoodRow fleet)
good-rows fleet (row ∷ rows) [] all = absurd all
good-rows fleet (row ∷ rows) (s ∷ opening) all = All-cons (IsGoodRow fleet) row rows (s, all.0) (good-rows fleet rows opening all.1)

pub all-good : (fleet : List Craft) (rows : List KeptRow) (opening : List FlightState) → AreFlightsOf fleet rows opening → All (IsGoodRow fleet) rows
all-good = good-rows

-- the fault of a row is that of the rows
pub first-fault : (fleet : List Craft) (rows : List KeptRow) (i : ℕ) (row : KeptRow) (opening : List FlightState) (fault : StartFault) → i < length rows → row ≡ get_or rows i row → AreSoFar fleet rows i opening → IsRowFault fleet row fault → IsFirstFault fleet rows fault
first-fault fleet rows i row opening Keeper within is all told = told
first-fault fleet rows i row opening (BadTable key) within is all told = record {
  at = i;
  row = row;
  there = slice_get_read rows (length rows) i row refl within is;
  of_key = told.0;
  bad = told.1;
  earlier = good-rows fleet (take i rows) opening all.flights;
}
first-fault fleet rows i row opening TooMany within is all told = told
first-fault fleet rows i row opening NoMemory within is all told = tt

-- One row --------------------------------------------------------------------------------------------------

-- what the reader says of every flight of the row
abbrev pub IsOnly : List Craft → KeptRow → Result FlightState RowFault → Type 0
IsOnly fleet row r = (s : FlightState) → Reads fleet row.bytes s → MatchResult r (λ got. got ≡ s) (λ fault. fault ≡ row_fault.NoMemory)

-- a row that is refused for a reason of its own makes no flight
pub row-refused : (fleet : List Craft) (row : KeptRow) (r : Result FlightState RowFault) (fault : RowFault) → IsOnly fleet row r → r ≡ Err fault → fault ≢ row_fault.NoMemory → ¬ (IsGoodRow fleet row)
row-refused fleet row r fault only is other good = other (subst (λ (x : Result FlightState RowFault). MatchResult x (λ got. got ≡ good.0) (λ f. f ≡ row_fault.NoMemory)) is (only good.0 good.1.reads))

-- nor does one whose flight has another key
pub row-elsewhere : (fleet : List Craft) (row : KeptRow) (r : Result FlightState RowFault) (s : FlightState) → IsOnly fleet row r → r ≡ Ok s → (key_of s.leg ≡ row.key → ⊥) → ¬ (IsGoodRow fleet row)
row-elsewhere fleet row r s only is other good =
    let same : s ≡ good.0 = subst (λ (x : Result FlightState RowFault). MatchResult x (λ got. got ≡ good.0) (λ f. f ≡ row_fault.NoMemory)) is (only good.0 good.1.reads) in
    other (ap (λ (t : FlightState). key_of t.leg) same ∙ sym good.1.key)

-- the flight of a row is sound
pub row-sound : (fleet : List Craft) (bytes : List ℕ) (s : FlightState) → Reads fleet bytes s → ((a : Craft) → aircraft_of fleet s.leg ≡ Some a → HasRow a s × KeepsPlan a s) → ((a : Craft) → aircraft_of fleet s.leg ≡ Some a → IsLawfulCraft a) → IsSound fleet s
row-sound fleet bytes s reads kept lawful =
    let found : aircraft_of fleet s.leg ≡ Some reads.aircraft = ap (aircraft_of fleet) (loaded_leg reads.aircraft reads.row s reads.loaded) ∙ reads.found in
    let both = kept reads.aircraft found in
    record { aircraft = reads.aircraft; found = found; lawful = lawful reads.aircraft found; ready = record { row = both.0; plan = both.1 } }

-- what is made of the flight that was read, under the key of the row
pub found-under : (fleet : List Craft) (row : KeptRow) (state : FlightState) (r : Option FlightState) → Reads fleet row.bytes state → IfSome r (λ s. (s ≡ state) × (row.key ≡ key_of s.leg)) → IfSome r (IsFlightOf fleet row)
found-under fleet row state None reads h = tt
found-under fleet row state (Some s) reads h = record { reads = subst (Reads fleet row.bytes) (sym h.0) reads; key = h.1 }

pub sound-under : (fleet : List Craft) (row : KeptRow) (state : FlightState) (r : Option FlightState) → IsSound fleet state → IfSome r (λ s. (s ≡ state) × (row.key ≡ key_of s.leg)) → IfSome r (IsSound fleet)
sound-under fleet row state None sound h = tt
sound-under fleet row state (Some s) sound h = subst (IsSound fleet) (sym h.0) sound

pub none-under : (fleet : List Craft) (row : KeptRow) (state : FlightState) (r : Option FlightState) (got : Result FlightState RowFault) → IsOnly fleet row got → got ≡ Ok state → IfNone r (row.key ≢ key_of state.leg) → IfNone r (¬ (IsGoodRow fleet row))
none-under fleet row state None got only is other = row-elsewhere fleet row got state only is (λ e. other (sym e))
none-under fleet row state (Some s) got only is other = tt

-- a fault of the row
pub refused-found : (P : FlightState → Type 0) (fault : RowFault) (answer : Result (Option FlightState) memory.NoMemory) → IfOk answer (λ found. (found ≡ None) × (fault ≢ row_fault.NoMemory)) → IfOk answer (λ found. IfSome found P)
refused-found P fault (Ok None) h = tt
refused-found P fault (Ok (Some s)) h = let no = h.0 in absurd (cc (no))
refused-found P fault (Err e) h = tt

pub refused-none : (fleet : List Craft) (row : KeptRow) (r : Result FlightState RowFault) (fault : RowFault) (answer : Result (Option FlightState) memory.NoMemory) → IsOnly fleet row r → r ≡ Err fault → IfOk answer (λ found. (found ≡ None) × (fault ≢ row_fault.NoMemory))
    → IfOk answer (λ found. IfNone found (¬ (IsGoodRow fleet row)))
refused-none fleet row r fault (Ok None) only is h = row-refused fleet row r fault only is h.1
refused-none fleet row r fault (Ok (Some s)) only is h = tt
refused-none fleet row r fault (Err e) only is h = tt

-- Keys --------------------------------------------------------------------------------------------------------

later-apart : (fleet : List Craft) (row : KeptRow) (s : FlightState) (rows : List KeptRow) (opening : List FlightState) → IsFlightOf fleet row s → All (IsBefore row) rows → AreFlightsOf fleet rows opening → All (HaveOtherKeys s) opening
later-apart fleet row s [] opening one before all = subst (All (HaveOtherKeys s)) (sym all) (All-nil (HaveOtherKeys s))
later-apart fleet row s (r ∷ rows) [] one before all = absurd all
later-apart fleet row s (r ∷ rows) (t ∷ opening) one before all =
    All-cons (HaveOtherKeys s) t opening
    (λ same.
    let keys : r.key ≡ row.key = all.0.key ∙ sym same ∙ sym one.key in
    let less : slice_cmp nat_cmp row.key row.key ≡ Less = subst (λ (k : List ℕ). slice_cmp nat_cmp row.key k ≡ Less) keys (All-head (IsBefore row) r rows before) in
    let tied = tied_itself nat_list_cmp_total row.key in
    absurd (cc (less, tied)))
    (later-apart fleet row s rows opening one (All-tail (IsBefore row) r rows before) all.1)

-- flights of rows in the order of their keys have different keys
pub keys-apart : (fleet : List Craft) (rows : List KeptRow) (opening : List FlightState) → AreInKeyOrder rows → AreFlightsOf fleet rows opening → AllPairs HaveOtherKeys opening
keys-apart fleet [] opening rising all = subst (AllPairs HaveOtherKeys) (sym all) (λ i j d less within. absurd (omega (arith, within)))
keys-apart fleet (row ∷ rows) [] rising all = absurd all
keys-apart fleet (row ∷ rows) (s ∷ opening) rising all =
    AllPairs-cons HaveOtherKeys s opening (later-apart fleet row s rows opening all.0 (AllPairs-head IsBefore row rows rising) all.1)
    (keys-apart fleet rows opening (AllPairs-tail IsBefore row rows rising) all.1)

not-equal : (a b : List ℕ) → a ≢ b → bytes_eq a b ≡ false
not-equal a b differ = by_test (λ t. bytes_eq a b ≡ t → t ≡ false) (bytes_eq a b) (λ _ same. absurd (differ (key_is a b same))) (λ _ _. refl) refl

-- no flight before has the key of the next one
pub place-free : (opening : List FlightState) (i : ℕ) (s : FlightState) → AllPairs HaveOtherKeys opening → i < length opening → s ≡ get_or opening i s → IsPlaceOf (take i opening) (key_of s.leg) None
place-free opening i s apart within is = sym (first-none (has (key_of s.leg)) (take i opening) (λ k d short.
    let many = length-take-le i opening (omega (arith, within)) in
    let before : k < i = omega (arith, short, many) in
    let own : get_or opening i d ≡ s = get_or_from_slice_get opening i s d (slice_get_read opening (length opening) i s refl within is) in
    let differ : key_of (get_or opening k d).leg ≢ key_of s.leg = λ e. apart k i d before within (e ∙ ap (λ (t : FlightState). key_of t.leg) (sym own)) in
    ap (λ (t : FlightState). bytes_eq (key_of t.leg) (key_of s.leg)) (get_or-take i opening k d before) ∙ not-equal (key_of (get_or opening k d).leg) (key_of s.leg) differ))

-- one flight more
pub state-more : (flights : List Flight) (opening : List FlightState) (i : ℕ) (s : FlightState) (next : Flight) → states flights ≡ take i opening → i < length opening → s ≡ get_or opening i s → next.state ≡ s → states (flights ++ next ∷ []) ≡ take (i + 1) opening
state-more flights opening i s next so_far within is state =
    states-push flights next ∙ ap (λ (xs : List FlightState). xs ++ next.state ∷ []) so_far ∙ ap (λ (t : FlightState). take i opening ++ t ∷ []) (state ∙ is) ∙ sym (take_more opening i s within)

pub flights-none : (fleet : List Craft) (opening : List FlightState) (flights : List Flight) → flights ≡ [] → (states flights ≡ take 0 opening) × All (IsKeptFlight fleet) flights
flights-none fleet opening flights none = (ap states none, subst (All (IsKeptFlight fleet)) (sym none) (All-nil (IsKeptFlight fleet)))

pub flights-more : (fleet : List Craft) (flights flights' : List Flight) (opening : List FlightState) (i : ℕ) (s : FlightState) → (states flights ≡ take i opening) × All (IsKeptFlight fleet) flights → i < length opening → s ≡ get_or opening i s → HasOneMore fleet flights flights' s
    → (states flights' ≡ take (i + 1) opening) × All (IsKeptFlight fleet) flights'
flights-more fleet flights flights' opening i s so_far within is more = (
  subst (λ (fs : List Flight). states fs ≡ take (i + 1) opening) (sym more.3) (state-more flights opening i s more.0 so_far.0 within is more.1),
  subst (All (IsKeptFlight fleet)) (sym more.3) (All-push (IsKeptFlight fleet) flights more.0 so_far.1 more.2),
)

-- the first fault of the rows refuses the start
pub first-refused : (fleet : List Craft) (rows : List KeptRow) (fault : StartFault) → IsFirstFault fleet rows fault → IsStartRefused fleet rows fault
first-refused fleet rows Keeper h = h
first-refused fleet rows (BadTable key) h = h
first-refused fleet rows TooMany h = absurd h
first-refused fleet rows NoMemory h = tt

pub too-many : (n : ℕ) (b : Bool) → (IsTrue b ↔ (n ≤ 2000)) → b ≡ false → 2000 < n
too-many n b few is = by_test (λ t. nat_lt 2000 n ≡ t → 2000 < n) (nat_lt 2000 n) (λ _ more. grind (arith, nat_tests)) (λ _ past.
    let within : n ≤ 2000 = grind (arith, nat_tests) in
    let yes = few.1 within in
    absurd (cc (is, yes))) refl

-- Before the first request ------------------------------------------------------------------------------------

none-more : (n : ℕ) → n ≡ n + 0
none-more n = omega arith

sound-few : (fleet : List Craft) (s : FlightState) → IsSound fleet s → s.releases ≤ 1000000000
sound-few fleet s sound = sound.ready.row.releases.few

pub found-all : (P : FlightState → Type 0) (test : FlightState → Bool) (xs : List FlightState) → All P xs → IfSome (find test xs) P
found-all P test [] all = tt
found-all P test (x ∷ xs) all = by_case (test x) (All-head P x xs all) (found-all P test xs (All-tail P x xs all))
  where
    by_case : (b : Bool) → P x → IfSome (find test xs) P → IfSome (if b then Some x else find test xs) P
    by_case true here rest = here
    by_case false here rest = rest

standing-start : (fleet : List Craft) (o : Option FlightState) → IfSome o (IsSound fleet) → o ≡ standing fleet o []
standing-start fleet None sound = refl
standing-start fleet (Some s) sound = ap Some (sym (standing_from-nil s (sound-few fleet s sound)))

-- the bytes under a key, and the flight of the key
pub rows-read : (fleet : List Craft) (rows : List KeptRow) (opening : List FlightState) (key : List ℕ) → AreFlightsOf fleet rows opening → IsRowOf fleet (bytes_under rows key) (flight_at opening key)
rows-read fleet [] opening key all = subst (λ (fs : List FlightState). IsRowOf fleet None (flight_at fs key)) (sym all) tt
rows-read fleet (row ∷ rows) [] key all = absurd all
rows-read fleet (row ∷ rows) (s ∷ opening) key all =
    let same : bytes_eq row.key key ≡ bytes_eq (key_of s.leg) key = ap (λ (k : List ℕ). bytes_eq k key) all.0.key in
    subst (λ (b : Bool). IsRowOf fleet (option_map (λ (r : KeptRow). r.bytes) (cond b (Some row) (find (λ (r : KeptRow). bytes_eq r.key key) rows))) (flight_at (s ∷ opening) key)) (sym same)
    (by_case (bytes_eq (key_of s.leg) key) (rows-read fleet rows opening key all.1))
  where
    by_case : (b : Bool) → IsRowOf fleet (bytes_under rows key) (flight_at opening key) → IsRowOf fleet (option_map (λ (r : KeptRow). r.bytes) (cond b (Some row) (find (λ (r : KeptRow). bytes_eq r.key key) rows))) (cond b (Some s) (flight_at opening key))
    by_case true rest = all.0.reads
    by_case false rest = rest

pub sounds : (fleet : List Craft) (flights : List Flight) → All (IsKeptFlight fleet) flights → All (IsSound fleet) (states flights)
sounds fleet [] all = All-nil (IsSound fleet)
sounds fleet (f ∷ fs) all =
    let one = All-head (IsKeptFlight fleet) f fs all in
    All-cons (IsSound fleet) f.state (states fs) one.sound (sounds fleet fs (All-tail (IsKeptFlight fleet) f fs all))

-- an office of the flights of its opening
pub office-start : (fleet : List Craft) (rows : List KeptRow) (opening : List FlightState) (flights : List Flight) → AreFlightsOf fleet rows opening → states flights ≡ opening → All (IsKeptFlight fleet) flights → IsOffice fleet rows opening [] flights
office-start fleet rows opening flights all same kept =
    let sound = subst (All (IsSound fleet)) same (sounds fleet flights kept) in
    record {
      history = [];
      judgement = record { entries_are = refl; judged = tt };
      standings = record {
        each = λ key. ap (λ (fs : List FlightState). flight_at fs key) same ∙ standing-start fleet (flight_at opening key) (found-all (IsSound fleet) (λ (s : FlightState). bytes_eq (key_of s.leg) key) opening sound);
        count = ap (λ (fs : List FlightState). length fs) same ∙ none-more (length opening);
      };
      sound = kept;
      read_back = λ key. subst (IsRowOf fleet (bytes_under rows key)) (standing-start fleet (flight_at opening key) (found-all (IsSound fleet) (λ (s : FlightState). bytes_eq (key_of s.leg) key) opening sound)) (rows-read fleet rows opening key all);
      best = tt;
    }

-- Why no office starts ----------------------------------------------------------------------------------------

pub load-refused : (fleet : List Craft) (held : Option Tables) (fault : StartFault) → IsLoadFault fault → IsRefusedStart fleet held fault
load-refused fleet held Keeper h = tt
load-refused fleet held (BadTable key) h = absurd h
load-refused fleet held TooMany h = absurd h
load-refused fleet held NoMemory h = tt

pub rows-refused : (fleet : List Craft) (held : Option Tables) (rows : List KeptRow) (fault : StartFault) → AreLoaded held rows → IsStartRefused fleet rows fault → IsRefusedStart fleet held fault
rows-refused fleet held rows Keeper loaded h = tt
rows-refused fleet held rows (BadTable key) loaded h = (rows, loaded, h)
rows-refused fleet held rows TooMany loaded h = (rows, loaded, h)
rows-refused fleet held rows NoMemory loaded h = tt

-- the tables of the keeper are those of an office that it starts
pub tables-start : (b : Books) (o : Option Tables) → b.history ≡ [] → AreAllRows o b.rows → HasTables o b
tables-start b o none all = ([], record { entries_are = none; judged = tt }, all)
