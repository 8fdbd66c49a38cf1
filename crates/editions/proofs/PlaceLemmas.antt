-- flights by key, with one put among them
use Rattle.std.proofs.Common.{refl, if◌then◌else◌, ◌≡◌, ◌≢◌, ℕ, ◌<◌, ◌≤◌, ◌==◌, Bool, true, false, List, [], ◌∷◌, ◌++◌, Option, None, Some, cond, arith, ◌∙◌, sym, ap, subst, length, slice_set, nat_lt, inl, inr, All}
use Rattle.std.specs.Prelude.{is_none, bytes_eq, IfSome}
use Rattle.std.specs.List.{find, position, position_or_len, slice_get}
use Rattle.std.specs.Option.{option_or, option_map, option_map_or}
use Rattle.std.proofs.lemmas.Bool.Decides.{nat_tests}
use Rattle.std.proofs.lemmas.List.Folds.{find_at, find-set, find_past, find-append}
use Rattle.std.proofs.lemmas.List.Quantifiers.{position-Some}
use Rattle.std.proofs.lemmas.Option.{slice_get_past, slice_get_cases, slice_get-get_or, slice_get-map, slice_get_within, get_or_from_slice_get}
use Rattle.std.proofs.lemmas.List.{map-set, map-append, get_or-set_same, get_or-set_other, get_or_append_left, get_or_at}
use Rattle.std.proofs.lemmas.Bool.{eqb-true}
use Rattle.std.proofs.lemmas.List.Elements.{All-set, All-push}
use Rattle.std.proofs.Math.ListN.{get_or, length-set, length-append, length-map}
use Rattle.hold_limits.proofs.FaultLemmas.{position-none}
use Rattle.flight_state.specs.declared.state.FlightState.{FlightState}
use Rattle.flight_state.specs.Legs.{key_of}
use Rattle.flight_history.specs.History.{flight_at}
use Rattle.flight_history.proofs.LastOneLemmas.{by_test}
use Rattle.flight_history.proofs.HistoryLemmas.{key_is}
use Rattle.editions.specs.declared.flights.Flight.{Flight}
use Rattle.editions.specs.Places.{states, state_at, put_in, IsIndexed, IsPlaceOf, IsPut}

abbrev pub has : List ℕ → FlightState → Bool
has key s = bytes_eq (key_of s.leg) key

is_less : (a b : ℕ) → nat_lt a b ≡ true → a < b
is_less a b h = grind (arith, nat_tests)

is_not_less : (a b : ℕ) → nat_lt a b ≡ false → b ≤ a
is_not_less a b h = grind (arith, nat_tests)

pub place_some : {X : Type 0} (p : X → Bool) (xs : List X) (i : ℕ) → Some i ≡ position p xs → (i ≡ position_or_len p xs) × (i < length xs)
place_some p xs i = by_test (λ b. Some i ≡ cond b (Some (position_or_len p xs)) None → (i ≡ position_or_len p xs) × (i < length xs)) (nat_lt (position_or_len p xs) (length xs))
    (λ less h. let same : i ≡ position_or_len p xs = cc in (same, rw same (is_less (position_or_len p xs) (length xs) less)))
    (λ _ h. absurd (cc))

pub place_none : {X : Type 0} (p : X → Bool) (xs : List X) → None ≡ position p xs → find p xs ≡ None
place_none p xs = by_test (λ b. None ≡ cond b (Some (position_or_len p xs)) None → find p xs ≡ None) (nat_lt (position_or_len p xs) (length xs))
    (λ _ h. absurd (cc))
    (λ past h. find_at p xs ∙ slice_get_past xs (position_or_len p xs) (is_not_less (position_or_len p xs) (length xs) past))

other_key : (a b k : List ℕ) → bytes_eq a b ≡ true → bytes_eq b k ≡ false → bytes_eq a k ≡ false
other_key a b k h g = rw (key_is a b h) g

pub IsPut-at : (flights : List FlightState) (i : ℕ) (next : FlightState) → IsPlaceOf flights (key_of next.leg) (Some i) → IsPut flights (slice_set flights i next) (Some i) next
IsPut-at flights i next place =
    let at = place_some (has (key_of next.leg)) flights i place in
    let held = position-Some (has (key_of next.leg)) flights i next (sym place) in
    record {
      found = λ k. by_test (λ b. has k next ≡ b → flight_at (slice_set flights i next) k ≡ cond b (Some next) (flight_at flights k)) (has k next)
          (λ _ same. find-set (has k) flights i next (rw (← key_is (key_of next.leg) k same) at.0) at.1 same)
          (λ _ other. find_past (has k) flights i next next (other_key (key_of (get_or flights i next).leg) (key_of next.leg) k held.1 other) other) refl;
      count = length-set flights i next;
    }

pub IsPut-end : (flights : List FlightState) (next : FlightState) → IsPlaceOf flights (key_of next.leg) None → IsPut flights (flights ++ next ∷ []) None next
IsPut-end flights next place =
    record {
      found = λ k. by_test (λ b. has k next ≡ b → flight_at (flights ++ next ∷ []) k ≡ cond b (Some next) (flight_at flights k)) (has k next)
          (λ _ same. find-append (has k) flights (next ∷ []) ∙ rw (place_none (has k) flights (rw (← key_is (key_of next.leg) k same) place), same) refl)
          (λ _ other. find-append (has k) flights (next ∷ []) ∙ rw other (or_none (flight_at flights k))) refl;
      count = length-append flights (next ∷ []);
    }
  where
    or_none : (o : Option FlightState) → option_or o None ≡ o
    or_none None = refl
    or_none (Some s) = refl

-- the flight at the place of its key
pub flight_at-place : (flights : List FlightState) (key : List ℕ) (i : ℕ) (s : FlightState) → IsPlaceOf flights key (Some i) → slice_get flights i ≡ Some s → flight_at flights key ≡ Some s
flight_at-place flights key i s place held =
    let at = place_some (has key) flights i place in
    find_at (has key) flights ∙ rw (← at.0) held

pub is_none-place : (flights : List FlightState) (key : List ℕ) (place : Option ℕ) → IsPlaceOf flights key place → is_none place ≡ is_none (flight_at flights key)
is_none-place flights key None place = rw (place_none (has key) flights place) refl
is_none-place flights key (Some i) place =
    let at = place_some (has key) flights i place in
    rw (find_at (has key) flights, ← at.0) (elim (slice_get_cases flights i).1 as (λ _. false ≡ is_none (slice_get flights i)) [ inl x ↦ rw x.2 refl | inr x ↦ absurd (omega (arith, at.1, x.0)) ])

-- Flights with an index of their keys -------------------------------------------------------------------

there : {X : Type 0} (xs : List X) (i : ℕ) → i < length xs → (x : X) × (slice_get xs i ≡ Some x)
there {X} xs i within = elim (slice_get_cases xs i).1 as (λ _. (x : X) × (slice_get xs i ≡ Some x)) [ inl x ↦ (x.0, x.2) | inr x ↦ absurd (omega (arith, within, x.0)) ]

many-states : (flights : List Flight) → length (states flights) ≡ length flights
many-states flights = length-map flights (λ (f : Flight). f.state)

-- the state of the flight at a place
pub state-held : (flights : List Flight) (i : ℕ) (flight : Flight) → slice_get flights i ≡ Some flight → slice_get (states flights) i ≡ Some flight.state
state-held flights i flight held = slice_get-map (λ (f : Flight). f.state) flights i ∙ ap (option_map (λ (f : Flight). f.state)) held

-- the index has the place of the flight of a key
indexed-place : (flights : List Flight) (places : List ℕ → Option ℕ) (key : List ℕ) (i : ℕ) → IsIndexed flights places → Some i ≡ position (has key) (states flights) → places key ≡ Some i
indexed-place flights places key i indexed at =
    let within = (place_some (has key) (states flights) i at).1 in
    let many = many-states flights in
    let flight = there flights i (omega (arith, within, many)) in
    let held = state-held flights i flight.0 flight.1 in
    let passes = (position-Some (has key) (states flights) i flight.0.state (sym at)).1 in
    let own = key_is (key_of flight.0.state.leg) key (subst (λ (s : FlightState). has key s ≡ true) (get_or_from_slice_get (states flights) i flight.0.state flight.0.state held) passes) in
    subst (λ (k : List ℕ). places k ≡ Some i) own (indexed i flight.0 flight.1)

by_place : (P : Option ℕ → Type 0) (o : Option ℕ) → (None ≡ o → P None) → ((i : ℕ) → Some i ≡ o → P (Some i)) → P o
by_place P None none some = none refl
by_place P (Some i) none some = some i refl

-- no place for the key, and none at which a flight of the key stands
pub place-absent : (flights : List Flight) (places : List ℕ → Option ℕ) (key : List ℕ) → IsIndexed flights places → places key ≡ None → IsPlaceOf (states flights) key None
place-absent flights places key indexed absent = by_place (λ o. None ≡ o) (position (has key) (states flights)) (λ _. refl)
    (λ i at. let is = indexed-place flights places key i indexed at in absurd (cc (absent, is)))

-- a place at which a flight of the key stands
pub place-found : (flights : List Flight) (places : List ℕ → Option ℕ) (key : List ℕ) (i : ℕ) (flight : Flight) → IsIndexed flights places → places key ≡ Some i → slice_get flights i ≡ Some flight → has key flight.state ≡ true → IsPlaceOf (states flights) key (Some i)
place-found flights places key i flight indexed told held passes = by_place (λ o. Some i ≡ o) (position (has key) (states flights))
    (λ none.
    let fails = position-none (has key) (states flights) (sym none) i flight.state (slice_get_within (states flights) i flight.state (state-held flights i flight held)) in
    let is = get_or_from_slice_get (states flights) i flight.state flight.state (state-held flights i flight held) in
    let no : has key flight.state ≡ false = subst (λ (s : FlightState). has key s ≡ false) is fails in
    absurd (cc (passes, no)))
    (λ j at. let is = indexed-place flights places key j indexed at in cc (told, is))

-- a place at which none of the key stands by now
pub place-stale : (flights : List Flight) (places : List ℕ → Option ℕ) (key : List ℕ) (i : ℕ) → IsIndexed flights places → places key ≡ Some i
    → ((flight : Flight) → slice_get flights i ≡ Some flight → has key flight.state ≡ false) → IsPlaceOf (states flights) key None
place-stale flights places key i indexed told fails = by_place (λ o. None ≡ o) (position (has key) (states flights)) (λ _. refl)
    (λ j at.
    let is = indexed-place flights places key j indexed at in
    let same : j ≡ i = cc (told, is) in
    let within = (place_some (has key) (states flights) j at).1 in
    let many = many-states flights in
    let flight = there flights j (omega (arith, within, many)) in
    let held = state-held flights j flight.0 flight.1 in
    let passes = (position-Some (has key) (states flights) j flight.0.state (sym at)).1 in
    let yes = subst (λ (s : FlightState). has key s ≡ true) (get_or_from_slice_get (states flights) j flight.0.state flight.0.state held) passes in
    let no = fails flight.0 (subst (λ (k : ℕ). slice_get flights k ≡ Some flight.0) same flight.1) in
    absurd (cc (yes, no)))

-- what was asked of the place
pub place-stands : (flights : List Flight) (places : List ℕ → Option ℕ) (key : List ℕ) (i : ℕ) (b : Bool) → IsIndexed flights places → places key ≡ Some i
    → b ≡ option_map_or (λ (f : Flight). has key f.state) (slice_get flights i) false → b ≡ true → IsPlaceOf (states flights) key (Some i)
place-stands flights places key i b indexed told is passed = by_flight (slice_get flights i) refl
  where
    by_flight : (o : Option Flight) → slice_get flights i ≡ o → IsPlaceOf (states flights) key (Some i)
    by_flight None held = let no : b ≡ false = is ∙ ap (λ (o : Option Flight). option_map_or (λ (f : Flight). has key f.state) o false) held in absurd (cc (passed, no))
    by_flight (Some flight) held = place-found flights places key i flight indexed told held (sym (is ∙ ap (λ (o : Option Flight). option_map_or (λ (f : Flight). has key f.state) o false) held) ∙ passed)

pub place-empty : (flights : List Flight) (places : List ℕ → Option ℕ) (key : List ℕ) (i : ℕ) (b : Bool) → IsIndexed flights places → places key ≡ Some i
    → b ≡ option_map_or (λ (f : Flight). has key f.state) (slice_get flights i) false → b ≡ false → IsPlaceOf (states flights) key None
place-empty flights places key i b indexed told is failed =
    place-stale flights places key i indexed told (λ flight held. sym (is ∙ ap (λ (o : Option Flight). option_map_or (λ (f : Flight). has key f.state) o false) held) ∙ failed)

-- an index with one more key, of which no flight is there
pub indexed-reserved : (flights : List Flight) (places places' : List ℕ → Option ℕ) (key : List ℕ) (n : ℕ) → IsIndexed flights places → IsPlaceOf (states flights) key None
    → ((other : List ℕ) → places' other ≡ (if bytes_eq key other then Some n else places other)) → IsIndexed flights places'
indexed-reserved flights places places' key n indexed none told i flight held =
    told (key_of flight.state.leg) ∙ ap (λ (b : Bool). cond b (Some n) (places (key_of flight.state.leg))) (other-than (bytes_eq key (key_of flight.state.leg)) refl) ∙ indexed i flight held
  where
    other-than : (b : Bool) → bytes_eq key (key_of flight.state.leg) ≡ b → b ≡ false
    other-than false is = refl
    other-than true is =
        let same = key_is key (key_of flight.state.leg) is in
        let fails = position-none (has key) (states flights) (sym none) i flight.state (slice_get_within (states flights) i flight.state (state-held flights i flight held)) in
        let at = get_or_from_slice_get (states flights) i flight.state flight.state (state-held flights i flight held) in
        let no : has key flight.state ≡ false = subst (λ (s : FlightState). has key s ≡ false) at fails in
        let yes : has key flight.state ≡ true = ap (λ (k : List ℕ). bytes_eq k key) (sym same) ∙ subst (λ (k : List ℕ). bytes_eq key k ≡ true) (sym same) is in
        absurd (cc (yes, no))

not-same : (j i : ℕ) → (j == i) ≡ false → j ≢ i
not-same j i is same = grind (arith, nat_tests)

-- an index of flights of which one was put in the place of another of its key
pub indexed-at : (flights : List Flight) (places : List ℕ → Option ℕ) (i : ℕ) (next : Flight) → IsIndexed flights places → IsPlaceOf (states flights) (key_of next.state.leg) (Some i) → IsIndexed (slice_set flights i next) places
indexed-at flights places i next indexed at j flight held =
    let own = indexed-place flights places (key_of next.state.leg) i indexed at in
    let inside : i < length flights = let within = (place_some (has (key_of next.state.leg)) (states flights) i at).1 in let many = many-states flights in omega (arith, within, many) in
    let read = get_or_from_slice_get (slice_set flights i next) j flight flight held in
    by_test (λ b. (j == i) ≡ b → places (key_of flight.state.leg) ≡ Some j) (j == i)
    (λ _ here.
    let same = eqb-true j i here in
    let is : next ≡ flight = sym (get_or-set_same flights i next flight inside) ∙ subst (λ (k : ℕ). get_or (slice_set flights i next) k flight ≡ flight) same read in
    subst (λ (f : Flight). places (key_of f.state.leg) ≡ Some j) is (own ∙ ap Some (sym same)))
    (λ _ past.
    let is : get_or flights j flight ≡ flight = sym (get_or-set_other flights i j next flight (not-same j i past)) ∙ read in
    let long = length-set flights i next in
    let within = slice_get_within (slice_set flights i next) j flight held in
    indexed j flight (slice_get-get_or flights j flight (omega (arith, long, within)) ∙ ap Some is))
    refl

-- or behind the last, where its place is reserved
pub indexed-end : (flights : List Flight) (places : List ℕ → Option ℕ) (next : Flight) → IsIndexed flights places → places (key_of next.state.leg) ≡ Some (length flights) → IsIndexed (flights ++ next ∷ []) places
indexed-end flights places next indexed reserved j flight held =
    let long = length-append flights (next ∷ []) in
    let within = slice_get_within (flights ++ next ∷ []) j flight held in
    let read = get_or_from_slice_get (flights ++ next ∷ []) j flight flight held in
    by_test (λ b. nat_lt j (length flights) ≡ b → places (key_of flight.state.leg) ≡ Some j) (nat_lt j (length flights))
    (λ _ less.
    let inside = is_less j (length flights) less in
    indexed j flight (slice_get-get_or flights j flight inside ∙ ap Some (sym (get_or_append_left flights (next ∷ []) flight j inside) ∙ read)))
    (λ _ past.
    let most = is_not_less j (length flights) past in
    let same : length flights ≡ j = omega (arith, long, within, most) in
    let is : next ≡ flight = sym (get_or_at flights next [] flight j same) ∙ read in
    subst (λ (f : Flight). places (key_of f.state.leg) ≡ Some j) is (reserved ∙ ap Some same))
    refl

-- States --------------------------------------------------------------------------------------------------

pub states-set : (flights : List Flight) (i : ℕ) (next : Flight) → states (slice_set flights i next) ≡ slice_set (states flights) i next.state
states-set flights i next = map-set (λ (f : Flight). f.state) flights i next

pub states-push : (flights : List Flight) (next : Flight) → states (flights ++ next ∷ []) ≡ states flights ++ next.state ∷ []
states-push flights next = map-append (λ (f : Flight). f.state) flights (next ∷ [])

-- the flight at the place of a key is the one of that key
pub state_at-place : (flights : List Flight) (key : List ℕ) (place : Option ℕ) → IsPlaceOf (states flights) key place → state_at flights place ≡ flight_at (states flights) key
state_at-place flights key None at = sym (place_none (has key) (states flights) at)
state_at-place flights key (Some i) at =
    let found = place_some (has key) (states flights) i at in
    sym (find_at (has key) (states flights) ∙ ap (slice_get (states flights)) (sym found.0))

-- the place is that of a flight
pub place-within : (flights : List Flight) (key : List ℕ) (i : ℕ) → IsPlaceOf (states flights) key (Some i) → i < length flights
place-within flights key i at = let within = (place_some (has key) (states flights) i at).1 in let many = many-states flights in omega (arith, within, many)

-- and it is the one that stands there
pub held-at : (flights : List Flight) (key : List ℕ) (i : ℕ) → IsPlaceOf (states flights) key (Some i) → (flight : Flight) × (slice_get flights i ≡ Some flight)
held-at flights key i at = there flights i (place-within flights key i at)

-- the place is that of a flight, where there is one
pub within-place : (flights : List Flight) (key : List ℕ) (place : Option ℕ) → IsPlaceOf (states flights) key place → IfSome place (λ i. i < length flights)
within-place flights key None at = tt
within-place flights key (Some i) at = place-within flights key i at

-- the flight at the place of a key has that key
pub place-key : (flights : List Flight) (key : List ℕ) (i : ℕ) (s : FlightState) → IsPlaceOf (states flights) key (Some i) → slice_get (states flights) i ≡ Some s → key_of s.leg ≡ key
place-key flights key i s at held =
    let passes = (position-Some (has key) (states flights) i s (sym at)).1 in
    key_is (key_of s.leg) key (subst (λ (x : FlightState). has key x ≡ true) (get_or_from_slice_get (states flights) i s s held) passes)

-- the flight was put among the others
pub IsPut-in : (flights : List Flight) (place : Option ℕ) (next : Flight) → IsPlaceOf (states flights) (key_of next.state.leg) place → IsPut (states flights) (states (put_in flights place next)) place next.state
IsPut-in flights (Some i) next at = subst (λ (new : List FlightState). IsPut (states flights) new (Some i) next.state) (sym (states-set flights i next)) (IsPut-at (states flights) i next.state at)
IsPut-in flights None next at = subst (λ (new : List FlightState). IsPut (states flights) new None next.state) (sym (states-push flights next)) (IsPut-end (states flights) next.state at)

-- what holds of the others and of the flight holds of all
pub All-put_in : (P : Flight → Type 0) (flights : List Flight) (place : Option ℕ) (next : Flight) → All P flights → P next → All P (put_in flights place next)
All-put_in P flights (Some i) next all one = All-set P flights i next one all
All-put_in P flights None next all one = All-push P flights next all one
