-- the plans that a history installed
use Rattle.std.proofs.Common.{refl, ◌≡◌, ℕ, Bool, true, false, List, [], ◌∷◌, ◌++◌, Option, None, Some, IsTrue, sym, subst, append_assoc}
use Rattle.std.specs.Prelude.{IsSomeAnd, not}
use Rattle.std.specs.Option.{option_or}
use Rattle.std.proofs.lemmas.List.{append-nil}
use Rattle.arrayvec.specs.ArrayVec.{ArrayVec}
use Rattle.aircraft_file.specs.Craft.{Craft}
use Rattle.flight_state.specs.declared.state.FlightState.{FlightState}
use Rattle.flight_row.specs.Loading.{aircraft_of}
use Rattle.flight_history.specs.declared.entry.Act.{Act}
use Rattle.flight_history.specs.declared.entry.Act.TheVariants as act
use Rattle.flight_history.specs.declared.request.Request.{Request}
use Rattle.flight_history.specs.declared.request.Request.TheVariants.{NewFlight, Set, Take, Install, InstallBest, Release, Late, Reopen, Depart, Show}
use Rattle.flight_history.specs.declared.reply.Refusal.TheVariants as no
use Rattle.flight_history.specs.Verdict.{Says, first_of, reasons, not_current, refuse_if, IsVerdict}
use Rattle.flight_history.specs.History.{Judged, is_accepted, standing_of}
use Rattle.flight_history.specs.Plans.{IsBestAt, InstallsAreBest}
use Rattle.flight_history.proofs.ReleaseLemmas.{first_none, both_none}
use Rattle.editions.specs.Acts.{HasPlanOf, IsActOf, IsActWith}

-- an Install that is accepted is one of a plan for the flight's task
same-is : (fleet : List Craft) (full : Bool) (s : FlightState) (edition : ℕ) (path : ArrayVec ℕ) (same : Bool) → IsVerdict fleet full (Some s) (act.Install edition path same) None → same ≡ true
same-is fleet full s edition path same passed =
    not-refused same (both_none (refuse_if (not same) no.OtherTask) None
    (both_none (not_current s edition) (option_or (refuse_if (not same) no.OtherTask) None)
    (first_none (first_of (reasons s (act.Install edition path same))) (λ said. IsSomeAnd (aircraft_of fleet s.leg) (λ a. Says a s (act.Install edition path same) said)) passed).0).1).0
  where
    not-refused : (b : Bool) → refuse_if (not b) no.OtherTask ≡ None → b ≡ true
    not-refused true h = refl
    not-refused false h = absurd (cc (h))

-- so its path is the best one
best-with : (fleet : List Craft) (full : Bool) (o : Option FlightState) (request : Request) (same : Bool) (x : Act) → (IsTrue same → HasPlanOf fleet o request) → IsActWith same request x → IsVerdict fleet full o x None → IsBestAt fleet o x
best-with fleet full o (NewFlight leg) same x exactly asks passed = subst (IsBestAt fleet o) (sym asks) tt
best-with fleet full o (Set key edition told) same x exactly asks passed = subst (IsBestAt fleet o) (sym asks) tt
best-with fleet full o (Take key edition) same x exactly asks passed = subst (IsBestAt fleet o) (sym asks) tt
best-with fleet full None (Install key edition plan) same x exactly asks passed = let h = subst (λ (y : Act). IsVerdict fleet full None y None) asks.3 passed in absurd (cc (h))
best-with fleet full None (InstallBest key edition plan) same x exactly asks passed = let h = subst (λ (y : Act). IsVerdict fleet full None y None) asks.3 passed in absurd (cc (h))
best-with fleet full (Some s) (Install key edition plan) same x exactly asks passed =
    let is = same-is fleet full s edition asks.0 same (subst (λ (y : Act). IsVerdict fleet full (Some s) y None) asks.3 passed) in
    let best : IsBestAt fleet (Some s) (act.Install edition asks.0 same) = (plan.task, exactly is, asks.2) in
    subst (IsBestAt fleet (Some s)) (sym asks.3) best
best-with fleet full (Some s) (InstallBest key edition plan) same x exactly asks passed =
    let is = same-is fleet full s edition asks.0 same (subst (λ (y : Act). IsVerdict fleet full (Some s) y None) asks.3 passed) in
    let best : IsBestAt fleet (Some s) (act.Install edition asks.0 same) = (plan.task, exactly is, asks.2) in
    subst (IsBestAt fleet (Some s)) (sym asks.3) best
best-with fleet full o (Release key edition) same x exactly asks passed = subst (IsBestAt fleet o) (sym asks) tt
best-with fleet full o (Late key edition change) same x exactly asks passed = subst (IsBestAt fleet o) (sym asks) tt
best-with fleet full o (Reopen key edition) same x exactly asks passed = subst (IsBestAt fleet o) (sym asks) tt
best-with fleet full o (Depart key edition) same x exactly asks passed = subst (IsBestAt fleet o) (sym asks) tt
best-with fleet full o (Show key what) same x exactly asks passed = subst (IsBestAt fleet o) (sym asks) tt

pub best-act : (fleet : List Craft) (full : Bool) (o : Option FlightState) (request : Request) (x : Act) → IsActOf fleet o request x → IsVerdict fleet full o x None → IsBestAt fleet o x
best-act fleet full o request x asked passed = best-with fleet full o request asked.same x asked.exactly.0 asked.asks passed

-- one more entry
pub installs-push : (fleet : List Craft) (opening : List FlightState) (before js : List Judged) (j : Judged) → InstallsAreBest fleet opening before js
    → (is_accepted j ≡ true → IsBestAt fleet (standing_of fleet opening (before ++ js) j.entry.key) j.entry.act) → InstallsAreBest fleet opening before (js ++ j ∷ [])
installs-push fleet opening before [] j all one = (subst (λ (history : List Judged). is_accepted j ≡ true → IsBestAt fleet (standing_of fleet opening history j.entry.key) j.entry.act) (append-nil before) one, tt)
installs-push fleet opening before (x ∷ xs) j all one = (
  all.0,
  installs-push fleet opening (before ++ x ∷ []) xs j all.1
      (subst (λ (history : List Judged). is_accepted j ≡ true → IsBestAt fleet (standing_of fleet opening history j.entry.key) j.entry.act) (sym (append_assoc before (x ∷ []) xs)) one),
)
