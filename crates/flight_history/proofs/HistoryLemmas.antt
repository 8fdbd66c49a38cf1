-- one more entry in a history
use Rattle.std.proofs.Common.{refl, if◌then◌else◌, ◌≡◌, ◌≢◌, ℕ, ◌+◌, ◌&&◌, ◌||◌, Bool, true, false, List, [], ◌∷◌, ◌++◌, Option, None, Some, cond, arith, ◌∙◌, sym, ap, subst, append_assoc, length, map, filter}
use Rattle.std.specs.Prelude.{count_by, is_none, bytes_eq, option_map}
use Rattle.std.specs.List.{filter}
use Rattle.std.proofs.lemmas.List.Elements.{filter-append}
use Rattle.std.proofs.lemmas.List.{append-nil, map-append}
use Rattle.std.proofs.lemmas.Slice.Eq.{bytes_eq-Decides}
use Rattle.aircraft_file.specs.Craft.{Craft}
use Rattle.flight_state.specs.declared.state.FlightState.{FlightState}
use Rattle.flight_row.specs.Loading.{aircraft_of}
use Rattle.flight_history.specs.declared.entry.Act.{Act}
use Rattle.flight_history.specs.declared.entry.Act.TheVariants.{NewFlight, Set, Take, Install, Release, Late, Reopen, Depart, Show}
use Rattle.flight_history.specs.declared.entry.Outcome.{Outcome}
use Rattle.flight_history.specs.declared.entry.Outcome.TheVariants.{Done, KeeperFailed, NoMemory}
use Rattle.flight_history.specs.declared.reply.Refusal.{Refusal}
use Rattle.flight_history.specs.declared.reply.Refusal.TheVariants as no
use Rattle.flight_history.specs.Fleet.{new_flight}
use Rattle.flight_history.specs.Standing.{standing}
use Rattle.flight_history.specs.Step.{after}
use Rattle.flight_history.specs.Verdict.{refuse_if, first_of, IsVerdict, commits}
use Rattle.flight_history.specs.History.{Judged, is_done, is_accepted, is_of, acts_of, flight_at, standing_of, is_opening, opens_flight, flight_count, is_full, IsJudgedBy, IsJudged, AreJudgedAfter}
use Rattle.flight_history.specs.KeptRows.{any_commits}
use Rattle.flight_history.proofs.LastOneLemmas.{fold-push, by_ends, by_test, both_pass}
use Rattle.flight_history.proofs.StandingLemmas.{standing-push}

pub key_is : (a b : List ℕ) → bytes_eq a b ≡ true → a ≡ b
key_is a b same = (bytes_eq-Decides a b).0 same

done_is : (o : Outcome) → is_done o ≡ true → o ≡ Done
done_is Done h = refl
done_is KeeperFailed h = absurd (cc)
done_is NoMemory h = absurd (cc)

none_is : {A : Type 0} (o : Option A) → is_none o ≡ true → o ≡ None
none_is None h = refl
none_is (Some x) h = absurd (cc)

-- The acts of a flight ------------------------------------------------------------------------------

abbrev counts : List ℕ → Judged → Bool
counts key x = is_of key x && is_accepted x

abbrev act_in : Judged → Act
act_in x = x.entry.act

pub acts_of-push : (key : List ℕ) (history : List Judged) (j : Judged) → acts_of key (history ++ j ∷ []) ≡ (if is_of key j && is_accepted j then acts_of key history ++ j.entry.act ∷ [] else acts_of key history)
acts_of-push key history j = ap (map act_in) (filter-append (counts key) history (j ∷ [])) ∙ map-append act_in (filter (counts key) history) (filter (counts key) (j ∷ [])) ∙ elim (is_of key j && is_accepted j) as (λ b. acts_of key history ++ map act_in (cond b (j ∷ []) []) ≡ cond b (acts_of key history ++ j.entry.act ∷ []) (acts_of key history)) [ true ↦ refl | false ↦ append-nil (acts_of key history) ]

and_true : (a b : Bool) → b ≡ true → (a && b) ≡ a
and_true true b h = h
and_true false b h = refl

and_false : (a b : Bool) → b ≡ false → (a && b) ≡ false
and_false true b h = h
and_false false b h = refl

pub acts_of-accepted : (key : List ℕ) (history : List Judged) (j : Judged) → is_accepted j ≡ true → acts_of key (history ++ j ∷ []) ≡ (if is_of key j then acts_of key history ++ j.entry.act ∷ [] else acts_of key history)
acts_of-accepted key history j accepted = acts_of-push key history j ∙ ap (λ (b : Bool). cond b (acts_of key history ++ j.entry.act ∷ []) (acts_of key history)) (and_true (is_of key j) (is_accepted j) accepted)

pub acts_of-skipped : (key : List ℕ) (history : List Judged) (j : Judged) → is_accepted j ≡ false → acts_of key (history ++ j ∷ []) ≡ acts_of key history
acts_of-skipped key history j skipped = acts_of-push key history j ∙ ap (λ (b : Bool). cond b (acts_of key history ++ j.entry.act ∷ []) (acts_of key history)) (and_false (is_of key j) (is_accepted j) skipped)

-- Judged histories ------------------------------------------------------------------------------------

-- one more entry at the end
pub judged-push : (fleet : List Craft) (opening : List FlightState) (before js : List Judged) (j : Judged) → AreJudgedAfter fleet opening before js → IsJudged fleet opening (before ++ js) j → AreJudgedAfter fleet opening before (js ++ j ∷ [])
judged-push fleet opening before [] j all one = (rw (append-nil before) at one, tt)
judged-push fleet opening before (x ∷ xs) j all one = (all.0, judged-push fleet opening (before ++ x ∷ []) xs j all.1 (rw (append_assoc before (x ∷ []) xs) one))

pub judged-split : (fleet : List Craft) (opening : List FlightState) (before js : List Judged) (j : Judged) → AreJudgedAfter fleet opening before (js ++ j ∷ []) → AreJudgedAfter fleet opening before js × IsJudged fleet opening (before ++ js) j
judged-split fleet opening before [] j all = (tt, rw (append-nil before) all.0)
judged-split fleet opening before (x ∷ xs) j all =
    let rest = judged-split fleet opening (before ++ x ∷ []) xs j all.1 in
    ((all.0, rest.0), rw (append_assoc before (x ∷ []) xs) at rest.1)

-- the verdict on an accepted entry is yes
pub accepted-yes : (fleet : List Craft) (opening : List FlightState) (history : List Judged) (j : Judged) → IsJudged fleet opening history j → is_accepted j ≡ true → IsVerdict fleet (is_full opening history) (standing_of fleet opening history j.entry.key) j.entry.act None
accepted-yes fleet opening history j judged accepted =
    let both = both_pass (is_done j.entry.outcome) (is_none j.verdict) accepted in
    subst (λ (v : Option Refusal). IsVerdict fleet (is_full opening history) (standing_of fleet opening history j.entry.key) j.entry.act v) (none_is j.verdict both.1)
    (subst (λ (o : Outcome). IsJudgedBy o fleet opening history j) (done_is j.entry.outcome both.0) judged)

-- Flights begin with their opening --------------------------------------------------------------------

-- no act comes before a flight is there
abbrev pub BeginsWell : List Craft → Option FlightState → List Act → Type 0
BeginsWell fleet opened acts = standing fleet opened acts ≡ None → acts ≡ []

opened-there : (full : Bool) (c : Option Craft) → None ≡ first_of (refuse_if (is_none c) no.NoAircraft ∷ refuse_if full no.OfficeFull ∷ []) → is_none c ≡ false
opened-there full None passed = absurd (cc)
opened-there full (Some a) passed = refl

-- what is accepted leaves a flight
pub after-there : (fleet : List Craft) (full : Bool) (s : Option FlightState) (act : Act) → IsVerdict fleet full s act None → after fleet s act ≢ None
after-there fleet full (Some s) act passed absent = absurd (cc)
after-there fleet full None (NewFlight leg) passed absent = not_gone (aircraft_of fleet leg) (opened-there full (aircraft_of fleet leg) passed) absent
  where
    not_gone : (c : Option Craft) → is_none c ≡ false → option_map (λ a. new_flight a leg) c ≢ None
    not_gone None there absent = absurd (cc)
    not_gone (Some a) there absent = absurd (cc)
after-there fleet full None (Set edition told) passed absent = absurd (cc)
after-there fleet full None (Take edition) passed absent = absurd (cc)
after-there fleet full None (Install edition path same) passed absent = absurd (cc)
after-there fleet full None (Release edition) passed absent = absurd (cc)
after-there fleet full None (Late edition change) passed absent = absurd (cc)
after-there fleet full None (Reopen edition) passed absent = absurd (cc)
after-there fleet full None (Depart edition) passed absent = absurd (cc)
after-there fleet full None (Show what) passed absent = absurd (cc)

-- the standing, one accepted entry on
pub standing_of-push : (fleet : List Craft) (opening : List FlightState) (history : List Judged) (j : Judged) (key : List ℕ) → BeginsWell fleet (flight_at opening key) (acts_of key history) → is_accepted j ≡ true → standing_of fleet opening (history ++ j ∷ []) key ≡ (if is_of key j then after fleet (standing_of fleet opening history key) j.entry.act else standing_of fleet opening history key)
standing_of-push fleet opening history j key begins accepted = ap (standing fleet (flight_at opening key)) (acts_of-accepted key history j accepted) ∙ elim (is_of key j) as (λ b. standing fleet (flight_at opening key) (cond b (acts_of key history ++ j.entry.act ∷ []) (acts_of key history)) ≡ cond b (after fleet (standing_of fleet opening history key) j.entry.act) (standing_of fleet opening history key)) [ true ↦ standing-push fleet (flight_at opening key) (acts_of key history) j.entry.act begins | false ↦ refl ]

begins-more : (fleet : List Craft) (opening : List FlightState) (key : List ℕ) (history : List Judged) (j : Judged) → BeginsWell fleet (flight_at opening key) (acts_of key history) → is_accepted j ≡ true → IsVerdict fleet (is_full opening history) (standing_of fleet opening history j.entry.key) j.entry.act None → BeginsWell fleet (flight_at opening key) (acts_of key (history ++ j ∷ []))
begins-more fleet opening key history j begins accepted passed = by_test (λ b. is_of key j ≡ b → BeginsWell fleet (flight_at opening key) (acts_of key (history ++ j ∷ []))) (is_of key j)
    (λ _ at absent. absurd (after-there fleet (is_full opening history) (standing_of fleet opening history key) j.entry.act (subst (λ (k : List ℕ). IsVerdict fleet (is_full opening history) (standing_of fleet opening history k) j.entry.act None) (key_is j.entry.key key at) passed)
    (sym (standing_of-push fleet opening history j key begins accepted ∙ ap (λ (b : Bool). cond b (after fleet (standing_of fleet opening history key) j.entry.act) (standing_of fleet opening history key)) at) ∙ absent)))
    (λ _ other absent. acts_of-accepted key history j accepted ∙ ap (λ (b : Bool). cond b (acts_of key history ++ j.entry.act ∷ []) (acts_of key history)) other ∙ begins (sym (standing_of-push fleet opening history j key begins accepted ∙ ap (λ (b : Bool). cond b (after fleet (standing_of fleet opening history key) j.entry.act) (standing_of fleet opening history key)) other) ∙ absent)) refl

begins-push : (fleet : List Craft) (opening : List FlightState) (key : List ℕ) (history : List Judged) (j : Judged) → BeginsWell fleet (flight_at opening key) (acts_of key history) → IsJudged fleet opening history j → BeginsWell fleet (flight_at opening key) (acts_of key (history ++ j ∷ []))
begins-push fleet opening key history j begins judged = by_test (λ b. is_accepted j ≡ b → BeginsWell fleet (flight_at opening key) (acts_of key (history ++ j ∷ []))) (is_accepted j)
    (λ _ accepted. begins-more fleet opening key history j begins accepted (accepted-yes fleet opening history j judged accepted))
    (λ _ skipped. subst (λ (acts : List Act). BeginsWell fleet (flight_at opening key) acts) (sym (acts_of-skipped key history j skipped)) begins) refl

-- in each judged history no act of a flight is accepted before the flight is there
pub begins : (fleet : List Craft) (opening : List FlightState) (key : List ℕ) (history : List Judged) → AreJudgedAfter fleet opening [] history → BeginsWell fleet (flight_at opening key) (acts_of key history)
begins fleet opening key history = by_ends (λ h. AreJudgedAfter fleet opening [] h → BeginsWell fleet (flight_at opening key) (acts_of key h)) (λ _ _. refl)
    (λ h j here judged. let parts = judged-split fleet opening [] h j judged in begins-push fleet opening key h j (here parts.0) parts.1) history

-- Flights, and commits ----------------------------------------------------------------------------------

-- the number of flights, one entry on
pub count-push : (opening : List FlightState) (history : List Judged) (j : Judged) → flight_count opening (history ++ j ∷ []) ≡ cond (opens_flight j) (flight_count opening history + 1) (flight_count opening history)
count-push opening history j = rw (fold-push (λ n (x : Judged). n + cond (opens_flight x) 1 0) 0 history j) (more (length opening) (count_by opens_flight history) (opens_flight j))
  where
    more : (a n : ℕ) (b : Bool) → a + (n + cond b 1 0) ≡ cond b ((a + n) + 1) (a + n)
    more a n true = omega arith
    more a n false = omega arith

or_assoc : (a b c : Bool) → (a || (b || c)) ≡ ((a || b) || c)
or_assoc true b c = refl
or_assoc false b c = refl

-- whether an act has committed, one act on
pub any_commits-push : (fleet : List Craft) (opened : Option FlightState) (before acts : List Act) (act : Act) → any_commits fleet opened before (acts ++ act ∷ []) ≡ (any_commits fleet opened before acts || commits (standing fleet opened (before ++ acts)) act)
any_commits-push fleet opened before [] act = rw (append-nil before) (elim (commits (standing fleet opened before) act) as (λ b. (b || false) ≡ (false || b)) [ true ↦ refl | false ↦ refl ])
any_commits-push fleet opened before (x ∷ acts) act = rw (any_commits-push fleet opened (before ++ x ∷ []) acts act, append_assoc before (x ∷ []) acts) (or_assoc (commits (standing fleet opened before) x) (any_commits fleet opened (before ++ x ∷ []) acts) (commits (standing fleet opened (before ++ x ∷ acts)) act))

-- what is accepted opens a flight exactly where none is there
pub opening-is : (fleet : List Craft) (full : Bool) (s : Option FlightState) (act : Act) → IsVerdict fleet full s act None → is_opening act ≡ is_none s
opening-is fleet full None (NewFlight leg) passed = refl
opening-is fleet full (Some s) (NewFlight leg) passed = absurd (cc)
opening-is fleet full (Some s) (Set edition told) passed = refl
opening-is fleet full (Some s) (Take edition) passed = refl
opening-is fleet full (Some s) (Install edition path same) passed = refl
opening-is fleet full (Some s) (Release edition) passed = refl
opening-is fleet full (Some s) (Late edition change) passed = refl
opening-is fleet full (Some s) (Reopen edition) passed = refl
opening-is fleet full (Some s) (Depart edition) passed = refl
opening-is fleet full (Some s) (Show what) passed = refl
opening-is fleet full None (Set edition told) passed = absurd (cc)
opening-is fleet full None (Take edition) passed = absurd (cc)
opening-is fleet full None (Install edition path same) passed = absurd (cc)
opening-is fleet full None (Release edition) passed = absurd (cc)
opening-is fleet full None (Late edition change) passed = absurd (cc)
opening-is fleet full None (Reopen edition) passed = absurd (cc)
opening-is fleet full None (Depart edition) passed = absurd (cc)
opening-is fleet full None (Show what) passed = absurd (cc)
