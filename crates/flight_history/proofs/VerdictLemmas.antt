-- no act has two verdicts of which one is yes
use Rattle.std.proofs.Common.{refl, ◌≡◌, ◌≢◌, ◌↔◌, ℕ, ◌<◌, ◌≤◌, ℤ, pos, ◌<ℤ◌, ◌≤ℤ◌, Bool, List, [], ◌∷◌, length, Option, None, Some, Contains, arith, subst}
use Rattle.std.specs.Prelude.{unsigned_abs, IsSomeAnd}
use Rattle.std.proofs.lemmas.Int.{ints}
use Rattle.arrayvec.specs.ArrayVec.{ArrayVec}
use Rattle.hold_limits.specs.Problem.{Problem}
use Rattle.aircraft_file.specs.Craft.{Craft}
use Rattle.trim.specs.declared.figures.Figures.{Figures}
use Rattle.trim.specs.declared.fault.TrimFault.{TrimFault}
use Rattle.trim.specs.declared.fault.TrimFault.TheVariants as trim
use Rattle.trim.specs.declared.rules.Rule.{Rule}
use Rattle.trim.specs.Refusals.{IsTaskOf, IsRefused}
use Rattle.trim.specs.Rules.{Keeps, AreBroken}
use Rattle.trim.proofs.LawLemmas.{unrefused, list-once, listed-is}
use Rattle.flight_state.specs.declared.change.Lmc.{Lmc}
use Rattle.flight_state.specs.declared.state.FlightState.{FlightState}
use Rattle.flight_state.specs.Effective.{effective}
use Rattle.flight_row.specs.Loading.{aircraft_of}
use Rattle.last_minute.specs.Planned.{path_of}
use Rattle.last_minute.specs.LateChange as late
use Rattle.last_minute.specs.LateChange.{IsAllowed, next_figures}
use Rattle.last_minute.specs.declared.fault.LmcFault.{LmcFault}
use Rattle.last_minute.specs.declared.fault.LmcFault.TheVariants as lmc
use Rattle.flight_history.specs.declared.entry.Act.{Act}
use Rattle.flight_history.specs.declared.entry.Act.TheVariants.{NewFlight, Set, Take, Install, Release, Late, Reopen, Depart, Show}
use Rattle.flight_history.specs.declared.reply.Refusal.{Refusal}
use Rattle.flight_history.specs.declared.reply.Refusal.TheVariants as no
use Rattle.flight_history.specs.Verdict.{first_of, reasons, SaysToTake, SaysToRelease, SaysToLate, Says, FirstThen, IsVerdict}

-- what is known of tasks and rules
pub record TaskLaws : Type 0 where
  pub unrefused : (a : Craft) (f : Figures) (t : Problem) (fault : TrimFault) → IsTaskOf a f t → IsRefused a f fault → fault ≡ trim.NoMemory
  pub one_list : (a : Craft) (f : Figures) (path : List ℕ) (one other : List Rule) → AreBroken a f path one → AreBroken a f path other → one ≡ other
  pub listed : (a : Craft) (f : Figures) (path : List ℕ) (found : List Rule) (rule : Rule) → AreBroken a f path found → Contains found rule ↔ ¬ (Keeps a f path rule)

pub task-laws : TaskLaws
task-laws = record { unrefused = unrefused; one_list = list-once; listed = listed-is }

take-once : TaskLaws → (a : Craft) (s : FlightState) (r : Refusal) → SaysToTake a s None → SaysToTake a s (Some r) → ⊥
take-once laws a s no.Exists agreed refused = refused
take-once laws a s no.NoAircraft agreed refused = refused
take-once laws a s no.OfficeFull agreed refused = refused
take-once laws a s no.NoFlight agreed refused = refused
take-once laws a s no.Gone agreed refused = refused
take-once laws a s (no.Stale n) agreed refused = refused
take-once laws a s (no.Ahead n) agreed refused = refused
take-once laws a s no.NotReleased agreed refused = refused
take-once laws a s no.NoPlanYet agreed refused = refused
take-once laws a s (no.Broken rules) agreed refused = refused
take-once laws a s (no.Late fault) agreed refused = refused
take-once laws a s (no.Trim fault) agreed refused = refused.1 (laws.unrefused a (effective s) agreed.0 fault agreed.1 refused.0)
take-once laws a s no.OtherTask agreed refused = refused
take-once laws a s no.Spent agreed refused = refused
take-once laws a s no.KeeperFault agreed refused = refused

release-by : TaskLaws → (a : Craft) (f : Figures) (plan : Option (ArrayVec ℕ)) (found : List Rule) → found ≢ [] → IsSomeAnd plan (λ path. AreBroken a f path.items []) → IsSomeAnd plan (λ path. AreBroken a f path.items found) → ⊥
release-by laws a f None found some agreed refused = absurd agreed
release-by laws a f (Some path) found some agreed refused = some (laws.one_list a f path.items found [] refused agreed)

release-once : TaskLaws → (a : Craft) (s : FlightState) (r : Refusal) → SaysToRelease a s None → SaysToRelease a s (Some r) → ⊥
release-once laws a s no.Exists agreed refused = refused
release-once laws a s no.NoAircraft agreed refused = refused
release-once laws a s no.OfficeFull agreed refused = refused
release-once laws a s no.NoFlight agreed refused = refused
release-once laws a s no.Gone agreed refused = refused
release-once laws a s (no.Stale n) agreed refused = refused
release-once laws a s (no.Ahead n) agreed refused = refused
release-once laws a s no.NotReleased agreed refused = refused
release-once laws a s no.NoPlanYet agreed refused = refused
release-once laws a s (no.Broken rules) agreed refused = release-by laws a (effective s) s.plan rules.items refused.1 agreed refused.0
release-once laws a s (no.Late fault) agreed refused = refused
release-once laws a s (no.Trim fault) agreed refused = refused
release-once laws a s no.OtherTask agreed refused = refused
release-once laws a s no.Spent agreed refused = refused
release-once laws a s no.KeeperFault agreed refused = refused

first_is : {X : Type 0} (x : X) (xs : List X) → Contains (x ∷ xs) x
first_is x xs = (0, omega arith, refl)

allowed-breaks : TaskLaws → (a : Craft) (f : Figures) (path : List ℕ) (found : List Rule) → ((rule : Rule) → Keeps a f path rule) → AreBroken a f path found → found ≢ [] → ⊥
allowed-breaks laws a f path [] kept broken some = some refl
allowed-breaks laws a f path (rule ∷ found) kept broken some = (laws.listed a f path (rule ∷ found) rule broken).0 (first_is rule found) (kept rule)

change-once : TaskLaws → (a : Craft) (s : FlightState) (l : Lmc) (fault : LmcFault) → IsAllowed a s l → fault ≢ lmc.NoMemory → late.IsRefused a s l fault → ⊥
change-once laws a s l lmc.TooMany allowed cause refused = few (length s.lmcs) allowed.tolerated.0.0.0.0 refused
  where
    few : (n : ℕ) → n < 10 → 10 ≤ n → ⊥
    few n less more = omega (arith, less, more)
change-once laws a s l lmc.NotThere allowed cause refused = absurd (cc (allowed.tolerated.0.0.0.1, refused.1))
change-once laws a s l (lmc.Pay fault) allowed cause refused = allowed.tolerated.0.0.1 fault refused.1
change-once laws a s l (lmc.MassOver mass) allowed cause refused = over mass.0 (unsigned_abs (late.mass_change a s l)) a.tolerance.mass.0 refused.1 refused.2 allowed.tolerated.0.1
  where
    over : (m n t : ℕ) → m ≡ n → t < m → n ≤ t → ⊥
    over m n t same less more = omega (arith, same, less, more)
change-once laws a s l (lmc.IndexOver index) allowed cause refused = over (pos (unsigned_abs (late.index_change a s l))) a.tolerance.index.0 (subst (λ (z : ℤ). a.tolerance.index.0 <ℤ z) refused.1 refused.2) allowed.tolerated.1
  where
    over : (n t : ℤ) → t <ℤ n → n ≤ℤ t → ⊥
    over n t less more = omega (arith, ints, less, more)
change-once laws a s l (lmc.Breaks rules) allowed cause refused = allowed-breaks laws a (next_figures s l) (path_of s) rules.items allowed.kept refused.1 refused.2
change-once laws a s l lmc.NoMemory allowed cause refused = cause refl

late-once : TaskLaws → (a : Craft) (s : FlightState) (edition : ℕ) (l : Lmc) (r : Refusal) → SaysToLate a s (Late edition l) None → SaysToLate a s (Late edition l) (Some r) → ⊥
late-once laws a s edition l no.Exists agreed refused = absurd (cc (agreed.1, refused.1))
late-once laws a s edition l no.NoAircraft agreed refused = absurd (cc (agreed.1, refused.1))
late-once laws a s edition l no.OfficeFull agreed refused = absurd (cc (agreed.1, refused.1))
late-once laws a s edition l no.NoFlight agreed refused = absurd (cc (agreed.1, refused.1))
late-once laws a s edition l no.Gone agreed refused = absurd (cc (agreed.1, refused.1))
late-once laws a s edition l (no.Stale n) agreed refused = absurd (cc (agreed.1, refused.1))
late-once laws a s edition l (no.Ahead n) agreed refused = absurd (cc (agreed.1, refused.1))
late-once laws a s edition l no.NotReleased agreed refused = absurd (cc (agreed.1, refused.1))
late-once laws a s edition l no.NoPlanYet agreed refused = absurd (cc (agreed.1, refused.1))
late-once laws a s edition l (no.Broken rules) agreed refused = absurd (cc (agreed.1, refused.1))
late-once laws a s edition l (no.Late fault) agreed refused = change-once laws a s l fault agreed.0 refused.1 refused.0
late-once laws a s edition l (no.Trim fault) agreed refused = absurd (cc (agreed.1, refused.1))
late-once laws a s edition l no.OtherTask agreed refused = absurd (cc (agreed.1, refused.1))
late-once laws a s edition l no.Spent agreed refused = absurd (cc (agreed.1, refused.1))
late-once laws a s edition l no.KeeperFault agreed refused = absurd (cc (agreed.1, refused.1))

says-once : TaskLaws → (a : Craft) (s : FlightState) (act : Act) (r : Refusal) → Says a s act None → Says a s act (Some r) → ⊥
says-once laws a s (NewFlight leg) r agreed refused = absurd (cc (refused))
says-once laws a s (Set edition told) r agreed refused = absurd (cc (refused))
says-once laws a s (Take edition) r agreed refused = take-once laws a s r agreed refused
says-once laws a s (Install edition path same) r agreed refused = absurd (cc (refused))
says-once laws a s (Release edition) r agreed refused = release-once laws a s r agreed refused
says-once laws a s (Late edition change) r agreed refused = late-once laws a s edition change r agreed refused
says-once laws a s (Reopen edition) r agreed refused = absurd (cc (refused))
says-once laws a s (Depart edition) r agreed refused = absurd (cc (refused))
says-once laws a s (Show what) r agreed refused = absurd (cc (refused))

craft-once : TaskLaws → (c : Option Craft) (s : FlightState) (act : Act) (r : Refusal) → IsSomeAnd c (λ a. Says a s act None) → IsSomeAnd c (λ a. Says a s act (Some r)) → ⊥
craft-once laws None s act r agreed refused = absurd agreed
craft-once laws (Some a) s act r agreed refused = says-once laws a s act r agreed refused

first-once : (given : Option Refusal) (IsNext : Option Refusal → Type 0) (r : Refusal) → (IsNext None → IsNext (Some r) → ⊥) → FirstThen given IsNext None → FirstThen given IsNext (Some r) → ⊥
first-once (Some reason) IsNext r next agreed refused = absurd (cc (agreed))
first-once None IsNext r next agreed refused = next agreed refused

-- a verdict that is yes is no refusal
pub verdict-once : TaskLaws → (fleet : List Craft) (full : Bool) (s : Option FlightState) (act : Act) (r : Refusal) → IsVerdict fleet full s act None → IsVerdict fleet full s act (Some r) → ⊥
verdict-once laws fleet full (Some s) act r agreed refused = first-once (first_of (reasons s act)) (λ said. IsSomeAnd (aircraft_of fleet s.leg) (λ a. Says a s act said)) r (craft-once laws (aircraft_of fleet s.leg) s act r) agreed refused
verdict-once laws fleet full None (NewFlight leg) r agreed refused = absurd (cc (agreed, refused))
verdict-once laws fleet full None (Set edition told) r agreed refused = absurd (cc (agreed))
verdict-once laws fleet full None (Take edition) r agreed refused = absurd (cc (agreed))
verdict-once laws fleet full None (Install edition path same) r agreed refused = absurd (cc (agreed))
verdict-once laws fleet full None (Release edition) r agreed refused = absurd (cc (agreed))
verdict-once laws fleet full None (Late edition change) r agreed refused = absurd (cc (agreed))
verdict-once laws fleet full None (Reopen edition) r agreed refused = absurd (cc (agreed))
verdict-once laws fleet full None (Depart edition) r agreed refused = absurd (cc (agreed))
verdict-once laws fleet full None (Show what) r agreed refused = absurd (cc (agreed))
