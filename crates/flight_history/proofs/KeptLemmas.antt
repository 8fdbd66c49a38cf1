-- the rows that are kept, one entry on
use Rattle.std.proofs.Common.{refl, if◌then◌else◌, ◌≡◌, ℕ, ◌||◌, Bool, true, false, List, [], ◌∷◌, ◌++◌, Option, None, Some, cond, ◌∙◌, sym, ap, subst}
use Rattle.std.specs.Prelude.{bytes_eq}
use Rattle.std.specs.Option.{option_and_then}
use Rattle.aircraft_file.specs.Craft.{Craft}
use Rattle.flight_state.specs.declared.state.FlightState.{FlightState}
use Rattle.keeper.specs.declared.row.KeptRow.{KeptRow}
use Rattle.keeper.specs.Tables.{Tables, HoldsAfter, bytes_under}
use Rattle.flight_history.specs.declared.entry.Act.{Act}
use Rattle.flight_history.specs.Standing.{standing}
use Rattle.flight_history.specs.Step.{after}
use Rattle.flight_history.specs.Verdict.{commits}
use Rattle.flight_history.specs.History.{Judged, is_accepted, is_of, acts_of, flight_at, standing_of}
use Rattle.flight_history.specs.Replies.{row_bytes}
use Rattle.flight_history.specs.KeptRows.{any_commits, kept_at, AreKept}
use Rattle.flight_history.proofs.LastOneLemmas.{by_test}
use Rattle.flight_history.proofs.StandingLemmas.{standing-push}
use Rattle.flight_history.proofs.HistoryLemmas.{key_is, acts_of-accepted, acts_of-skipped, any_commits-push, BeginsWell}

-- what is kept under a key, where the acts of its flight are these
abbrev kept_by : List Craft → List KeptRow → Option FlightState → List ℕ → List Act → Option (List ℕ)
kept_by fleet rows opened key acts = if any_commits fleet opened [] acts then option_and_then (row_bytes fleet) (standing fleet opened acts) else bytes_under rows key

-- an entry that is not accepted
pub kept-skipped : (fleet : List Craft) (rows : List KeptRow) (opening : List FlightState) (history : List Judged) (j : Judged) (key : List ℕ) → is_accepted j ≡ false → kept_at fleet rows opening (history ++ j ∷ []) key ≡ kept_at fleet rows opening history key
kept-skipped fleet rows opening history j key skipped = ap (kept_by fleet rows (flight_at opening key) key) (acts_of-skipped key history j skipped)

kept-push : (fleet : List Craft) (rows : List KeptRow) (opened : Option FlightState) (key : List ℕ) (acts : List Act) (act : Act) → BeginsWell fleet opened acts → kept_by fleet rows opened key (acts ++ act ∷ []) ≡ (if any_commits fleet opened [] acts || commits (standing fleet opened acts) act then option_and_then (row_bytes fleet) (after fleet (standing fleet opened acts) act) else bytes_under rows key)
kept-push fleet rows opened key acts act begins = rw (any_commits-push fleet opened [] acts act, standing-push fleet opened acts act begins) refl

or_false : (a b : Bool) → b ≡ false → (a || b) ≡ a
or_false true b h = refl
or_false false b h = h

or_true : (a b : Bool) → b ≡ true → (a || b) ≡ true
or_true true b h = refl
or_true false b h = h

-- an accepted entry that changes nothing
kept-idle : (fleet : List Craft) (rows : List KeptRow) (opened : Option FlightState) (key : List ℕ) (acts : List Act) (act : Act) → BeginsWell fleet opened acts → commits (standing fleet opened acts) act ≡ false → after fleet (standing fleet opened acts) act ≡ standing fleet opened acts → kept_by fleet rows opened key (acts ++ act ∷ []) ≡ kept_by fleet rows opened key acts
kept-idle fleet rows opened key acts act begins idle still = kept-push fleet rows opened key acts act begins ∙ ap (λ (b : Bool). cond b (option_and_then (row_bytes fleet) (after fleet (standing fleet opened acts) act)) (bytes_under rows key)) (or_false (any_commits fleet opened [] acts) (commits (standing fleet opened acts) act) idle) ∙ ap (λ (s : Option FlightState). cond (any_commits fleet opened [] acts) (option_and_then (row_bytes fleet) s) (bytes_under rows key)) still

-- an accepted entry that commits
kept-busy : (fleet : List Craft) (rows : List KeptRow) (opened : Option FlightState) (key : List ℕ) (acts : List Act) (act : Act) (next : FlightState) → BeginsWell fleet opened acts → commits (standing fleet opened acts) act ≡ true → after fleet (standing fleet opened acts) act ≡ Some next → kept_by fleet rows opened key (acts ++ act ∷ []) ≡ row_bytes fleet next
kept-busy fleet rows opened key acts act next begins busy changed = kept-push fleet rows opened key acts act begins ∙ ap (λ (b : Bool). cond b (option_and_then (row_bytes fleet) (after fleet (standing fleet opened acts) act)) (bytes_under rows key)) (or_true (any_commits fleet opened [] acts) (commits (standing fleet opened acts) act) busy) ∙ ap (option_and_then (row_bytes fleet)) changed

pub kept-told : (fleet : List Craft) (rows : List KeptRow) (opening : List FlightState) (history : List Judged) (j : Judged) (key : List ℕ) → BeginsWell fleet (flight_at opening key) (acts_of key history) → is_accepted j ≡ true
    → commits (standing_of fleet opening history j.entry.key) j.entry.act ≡ false → after fleet (standing_of fleet opening history j.entry.key) j.entry.act ≡ standing_of fleet opening history j.entry.key → kept_at fleet rows opening (history ++ j ∷ []) key ≡ kept_at fleet rows opening history key
kept-told fleet rows opening history j key begins accepted idle still = ap (kept_by fleet rows (flight_at opening key) key) (acts_of-accepted key history j accepted) ∙ by_test (λ b. is_of key j ≡ b → kept_by fleet rows (flight_at opening key) key (cond b (acts_of key history ++ j.entry.act ∷ []) (acts_of key history)) ≡ kept_at fleet rows opening history key) (is_of key j)
    (λ _ at. let same = key_is j.entry.key key at in kept-idle fleet rows (flight_at opening key) key (acts_of key history) j.entry.act begins
    (subst (λ (k : List ℕ). commits (standing_of fleet opening history k) j.entry.act ≡ false) same idle)
    (subst (λ (k : List ℕ). after fleet (standing_of fleet opening history k) j.entry.act ≡ standing_of fleet opening history k) same still))
    (λ _ _. refl) refl

pub kept-changed : (fleet : List Craft) (rows : List KeptRow) (opening : List FlightState) (history : List Judged) (j : Judged) (next : FlightState) (key : List ℕ) → BeginsWell fleet (flight_at opening key) (acts_of key history) → is_accepted j ≡ true
    → commits (standing_of fleet opening history j.entry.key) j.entry.act ≡ true → after fleet (standing_of fleet opening history j.entry.key) j.entry.act ≡ Some next → kept_at fleet rows opening (history ++ j ∷ []) key ≡ cond (is_of key j) (row_bytes fleet next) (kept_at fleet rows opening history key)
kept-changed fleet rows opening history j next key begins accepted busy changed = ap (kept_by fleet rows (flight_at opening key) key) (acts_of-accepted key history j accepted) ∙ by_test (λ b. is_of key j ≡ b → kept_by fleet rows (flight_at opening key) key (cond b (acts_of key history ++ j.entry.act ∷ []) (acts_of key history)) ≡ cond b (row_bytes fleet next) (kept_at fleet rows opening history key)) (is_of key j)
    (λ _ at. let same = key_is j.entry.key key at in kept-busy fleet rows (flight_at opening key) key (acts_of key history) j.entry.act next begins
    (subst (λ (k : List ℕ). commits (standing_of fleet opening history k) j.entry.act ≡ true) same busy)
    (subst (λ (k : List ℕ). after fleet (standing_of fleet opening history k) j.entry.act ≡ Some next) same changed))
    (λ _ _. refl) refl

pub AreKept-still : (fleet : List Craft) (rows : List KeptRow) (opening : List FlightState) (history history' : List Judged) (held : Option Tables) → ((key : List ℕ) → kept_at fleet rows opening history' key ≡ kept_at fleet rows opening history key) → AreKept fleet rows opening history held → AreKept fleet rows opening history' held
AreKept-still fleet rows opening history history' None same h = h
AreKept-still fleet rows opening history history' (Some tables) same h = λ key. h key ∙ sym (same key)

pub AreKept-changed : (fleet : List Craft) (rows : List KeptRow) (opening : List FlightState) (history history' : List Judged) (held now : Option Tables) (row : KeptRow) → ((key : List ℕ) → kept_at fleet rows opening history' key ≡ cond (bytes_eq row.key key) (Some row.bytes) (kept_at fleet rows opening history key)) → HoldsAfter held now row → AreKept fleet rows opening history held → AreKept fleet rows opening history' now
AreKept-changed fleet rows opening history history' None now row changed holds h = rw holds tt
AreKept-changed fleet rows opening history history' (Some held) None row changed holds h = absurd holds
AreKept-changed fleet rows opening history history' (Some held) (Some tables) row changed holds h = λ key. holds key ∙ ap (cond (bytes_eq row.key key) (Some row.bytes)) (h key) ∙ sym (changed key)
