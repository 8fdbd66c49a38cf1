-- an act has one verdict
use Rattle.std.proofs.Common.{◌≡◌, ◌≢◌, ℕ, ◌<◌, ◌≤◌, ℤ, pos, ◌<ℤ◌, ◌≤ℤ◌, Bool, true, false, List, [], ◌∷◌, length, Option, None, Some, refl, ap, sym, ◌∙◌, subst, arith}
use Rattle.std.specs.Prelude.{unsigned_abs, option_map, IsSomeAnd}
use Rattle.std.proofs.lemmas.Int.{ints}
use Rattle.arrayvec.specs.ArrayVec.{ArrayVec}
use Rattle.mass_units.specs.declared.Ticks.{Ticks}
use Rattle.payload.specs.PayFault.{IsFirstFault}
use Rattle.payload.specs.declared.figures.PayFault.{PayFault}
use Rattle.aircraft_file.specs.Craft.{Craft}
use Rattle.trim.specs.declared.figures.Figures.{Figures}
use Rattle.trim.specs.declared.fault.TrimFault.{TrimFault}
use Rattle.trim.specs.declared.rules.Rule.{Rule}
use Rattle.trim.specs.Refusals.{HasCabin}
use Rattle.trim.specs.Rules.{Keeps, AreBroken}
use Rattle.trim.proofs.LawLemmas.{list-once, listed-is}
use Rattle.flight_state.specs.declared.change.Lmc.{Lmc}
use Rattle.flight_state.specs.declared.state.FlightState.{FlightState}
use Rattle.flight_state.specs.Effective.{effective}
use Rattle.flight_row.specs.Loading.{aircraft_of}
use Rattle.last_minute.specs.Planned.{path_of}
use Rattle.last_minute.specs.LateChange as late
use Rattle.last_minute.specs.LateChange.{HasRoom, IsAllowed, is_there, next_figures, mass_change, index_change}
use Rattle.last_minute.specs.declared.fault.LmcFault.{LmcFault}
use Rattle.last_minute.specs.declared.fault.LmcFault.TheVariants as lmc
use Rattle.flight_history.specs.declared.entry.Act.{Act}
use Rattle.flight_history.specs.declared.entry.Act.TheVariants.{NewFlight, Set, Take, Install, Release, Late, Reopen, Depart, Show}
use Rattle.flight_history.specs.declared.reply.Refusal.{Refusal}
use Rattle.flight_history.specs.declared.reply.Refusal.TheVariants as no
use Rattle.flight_history.specs.Verdict.{first_of, reasons, no_more_editions, SaysToTake, SaysToRelease, SaysToLate, Says, FirstThen, IsVerdict}
use Rattle.reply_laws.proofs.ChainLemmas.{IsOnce, Then, found, passed, then-once}
use Rattle.reply_laws.proofs.PayLemmas.{pay-once}
use Rattle.reply_laws.proofs.TaskLemmas.{kilograms, SaysOfTask, said-once}

-- Take ------------------------------------------------------------------------------------------------

-- what the figures say to Take is what is said of their task
take-is : (a : Craft) (s : FlightState) (v : Option Refusal) → SaysToTake a s v → (said : Option TrimFault) × SaysOfTask a (effective s) said × (v ≡ option_map (λ (fault : TrimFault). no.Trim fault) said)
take-is a s None h = (None, h, refl)
take-is a s (Some (no.Trim fault)) h = (Some fault, h, refl)
take-is a s (Some _) h = absurd h

take-once : (a : Craft) (s : FlightState) → IsOnce (SaysToTake a s)
take-once a s v w h g =
    let one = take-is a s v h in
    let other = take-is a s w g in
    one.2 ∙ ap (option_map (λ (fault : TrimFault). no.Trim fault)) (said-once a (effective s) one.0 other.0 one.1 other.1) ∙ sym other.2

-- Release ---------------------------------------------------------------------------------------------

-- the verdict where these rules are broken
abbrev broken_in : List Rule → Option Refusal
broken_in [] = None
broken_in (rule ∷ rules) = Some (no.Broken (record { items = rule ∷ rules }))

some-broken : (rules : List Rule) → rules ≢ [] → Some (no.Broken (record { items = rules })) ≡ broken_in rules
some-broken [] some = absurd (some refl)
some-broken (rule ∷ rules) some = refl

abbrev Breaks : Craft → FlightState → List Rule → Type 0
Breaks a s rules = IsSomeAnd s.plan (λ (path : ArrayVec ℕ). AreBroken a (effective s) path.items rules)

release-is : (a : Craft) (s : FlightState) (v : Option Refusal) → SaysToRelease a s v → (rules : List Rule) × Breaks a s rules × (v ≡ broken_in rules)
release-is a s None h = ([], h, refl)
release-is a s (Some (no.Broken rules)) h = (rules.items, h.0, some-broken rules.items h.1)
release-is a s (Some _) h = absurd h

broken-once : (a : Craft) (f : Figures) (plan : Option (ArrayVec ℕ)) (one other : List Rule) → IsSomeAnd plan (λ (path : ArrayVec ℕ). AreBroken a f path.items one) → IsSomeAnd plan (λ (path : ArrayVec ℕ). AreBroken a f path.items other) → one ≡ other
broken-once a f None one other h g = absurd h
broken-once a f (Some path) one other h g = list-once a f path.items one other h g

release-once : (a : Craft) (s : FlightState) → IsOnce (SaysToRelease a s)
release-once a s v w h g =
    let one = release-is a s v h in
    let other = release-is a s w g in
    one.2 ∙ ap broken_in (broken-once a (effective s) s.plan one.0 other.0 one.1 other.1) ∙ sym other.2

-- Late changes ----------------------------------------------------------------------------------------

abbrev ticks : ℤ → Ticks
ticks z = record { 0 = z }

abbrev refuse : LmcFault → Option Refusal
refuse fault = Some (no.Late fault)

-- the tests of a late change, in their order: what the verdict is where each fails; at last there may be no edition for it
abbrev Unseated : Craft → FlightState → Lmc → Option Refusal → Type 0
Unseated a s l v = (fault : PayFault) × IsFirstFault a.zones (next_figures s l).cabin fault × (v ≡ refuse (lmc.Pay fault))

abbrev Broken : Craft → FlightState → Lmc → Option Refusal → Type 0
Broken a s l v = (rules : List Rule) × AreBroken a (next_figures s l) (path_of s) rules × (rules ≢ []) × (v ≡ refuse (lmc.Breaks (record { items = rules })))

-- a test that finds one thing
abbrev Plain : Type 0 → Option Refusal → Option Refusal → Type 0
Plain T x v = T × (v ≡ x)

plain-once : (T : Type 0) (x : Option Refusal) → IsOnce (Plain T x)
plain-once T x v w h g = h.1 ∙ sym g.1

abbrev size : ℤ → ℕ
size z = unsigned_abs z

abbrev Tests : Craft → FlightState → Lmc → Option Refusal → Type 0
Tests a s l =
    Then (Plain (10 ≤ length s.lmcs) (refuse lmc.TooMany)) (HasRoom s)
    (Then (Plain (is_there a (effective s) l ≡ false) (refuse lmc.NotThere)) (is_there a (effective s) l ≡ true)
    (Then (Unseated a s l) (HasCabin a (next_figures s l))
    (Then (Plain (a.tolerance.mass.0 < size (mass_change a s l)) (refuse (lmc.MassOver (kilograms (size (mass_change a s l)))))) (size (mass_change a s l) ≤ a.tolerance.mass.0)
    (Then (Plain (a.tolerance.index.0 <ℤ pos (size (index_change a s l))) (refuse (lmc.IndexOver (ticks (pos (size (index_change a s l))))))) (pos (size (index_change a s l)) ≤ℤ a.tolerance.index.0)
    (Then (Broken a s l) ((rule : Rule) → Keeps a (next_figures s l) (path_of s) rule)
    (λ (v : Option Refusal). no_more_editions s ≡ v))))))

few : (n : ℕ) → n < 10 → 10 ≤ n → ⊥
few n less more = omega (arith, less, more)

light : (n t : ℕ) → t < n → n ≤ t → ⊥
light n t less more = omega (arith, less, more)

near : (n t : ℤ) → t <ℤ n → n ≤ℤ t → ⊥
near n t less more = omega (arith, ints, less, more)

-- a rule that is listed is broken
kept-none : (a : Craft) (f : Figures) (path : List ℕ) (rules : List Rule) → AreBroken a f path rules → rules ≢ [] → ((rule : Rule) → Keeps a f path rule) → ⊥
kept-none a f path [] broken some kept = some refl
kept-none a f path (rule ∷ rules) broken some kept = (listed-is a f path (rule ∷ rules) rule broken).0 (0, omega arith, refl) (kept rule)

unseated-once : (a : Craft) (s : FlightState) (l : Lmc) → IsOnce (Unseated a s l)
unseated-once a s l v w h g = h.2 ∙ ap (λ (fault : PayFault). refuse (lmc.Pay fault)) (pay-once a.zones (next_figures s l).cabin h.0 g.0 h.1 g.1) ∙ sym g.2

late-broken-once : (a : Craft) (s : FlightState) (l : Lmc) → IsOnce (Broken a s l)
late-broken-once a s l v w h g = h.3 ∙ ap (λ (rules : List Rule). refuse (lmc.Breaks (record { items = rules }))) (list-once a (next_figures s l) (path_of s) h.0 g.0 h.1 g.1) ∙ sym g.3

tests-once : (a : Craft) (s : FlightState) (l : Lmc) → IsOnce (Tests a s l)
tests-once a s l = then-once _ _ _ (plain-once _ _) (λ v h room. few (length s.lmcs) room h.0)
    (then-once _ _ _ (plain-once _ _) (λ v h there. let none = h.0 in absurd (cc (none, there)))
    (then-once _ _ _ (unseated-once a s l) (λ v h seated. seated h.0 h.1)
    (then-once _ _ _ (plain-once _ _) (λ v h within. light (size (mass_change a s l)) a.tolerance.mass.0 h.0 within)
    (then-once _ _ _ (plain-once _ _) (λ v h within. near (pos (size (index_change a s l))) a.tolerance.index.0 h.0 within)
    (then-once _ _ _ (late-broken-once a s l) (λ v h kept. kept-none a (next_figures s l) (path_of s) h.0 h.1 h.2 kept)
    (λ v w h g. sym h ∙ g))))))

-- what is said of a change that is allowed
allowed : (a : Craft) (s : FlightState) (l : Lmc) (v : Option Refusal) → IsAllowed a s l → no_more_editions s ≡ v → Tests a s l v
allowed a s l v all is =
    let index = all.tolerated in
    let mass = index.0 in
    let seated = mass.0 in
    passed seated.0.0 (passed seated.0.1 (passed seated.1 (passed mass.1 (passed index.1 (passed all.kept is)))))

refused : (a : Craft) (s : FlightState) (l : Lmc) (fault : LmcFault) → fault ≢ lmc.NoMemory → late.IsRefused a s l fault → Tests a s l (refuse fault)
refused a s l lmc.TooMany cause h = found (h, refl)
refused a s l lmc.NotThere cause h = passed h.0 (found (h.1, refl))
refused a s l (lmc.Pay fault) cause h = passed h.0.0 (passed h.0.1 (found (fault, h.1, refl)))
refused a s l (lmc.MassOver mass) cause h = passed h.0.0.0 (passed h.0.0.1 (passed h.0.1 (found (
  subst (λ (n : ℕ). a.tolerance.mass.0 < n) h.1 h.2,
  ap (λ (n : ℕ). refuse (lmc.MassOver (kilograms n))) h.1,
))))
refused a s l (lmc.IndexOver index) cause h = passed h.0.0.0.0 (passed h.0.0.0.1 (passed h.0.0.1 (passed h.0.1 (found (
  subst (λ (z : ℤ). a.tolerance.index.0 <ℤ z) h.1 h.2,
  ap (λ (z : ℤ). refuse (lmc.IndexOver (ticks z))) h.1,
)))))
refused a s l (lmc.Breaks rules) cause h =
    let index = h.0 in
    let mass = index.0 in
    let seated = mass.0 in
    passed seated.0.0 (passed seated.0.1 (passed seated.1 (passed mass.1 (passed index.1 (found (rules.items, h.1, h.2, refl))))))
refused a s l lmc.NoMemory cause h = absurd (cause refl)

late-is : (a : Craft) (s : FlightState) (edition : ℕ) (l : Lmc) (v : Option Refusal) → SaysToLate a s (Late edition l) v → Tests a s l v
late-is a s edition l None h = allowed a s l None h.0 h.1
late-is a s edition l (Some (no.Late fault)) h = refused a s l fault h.1 h.0
late-is a s edition l (Some reason) h = allowed a s l (Some reason) h.0 h.1

late-once : (a : Craft) (s : FlightState) (edition : ℕ) (l : Lmc) → IsOnce (SaysToLate a s (Late edition l))
late-once a s edition l v w h g = tests-once a s l v w (late-is a s edition l v h) (late-is a s edition l w g)

-- The verdict -----------------------------------------------------------------------------------------

says-once : (a : Craft) (s : FlightState) (act : Act) → IsOnce (Says a s act)
says-once a s (NewFlight leg) v w h g = h ∙ sym g
says-once a s (Set edition told) v w h g = h ∙ sym g
says-once a s (Take edition) v w h g = take-once a s v w h g
says-once a s (Install edition path same) v w h g = h ∙ sym g
says-once a s (Release edition) v w h g = release-once a s v w h g
says-once a s (Late edition change) v w h g = late-once a s edition change v w h g
says-once a s (Reopen edition) v w h g = h ∙ sym g
says-once a s (Depart edition) v w h g = h ∙ sym g
says-once a s (Show what) v w h g = h ∙ sym g

craft-once : (c : Option Craft) (s : FlightState) (act : Act) → IsOnce (λ (said : Option Refusal). IsSomeAnd c (λ a. Says a s act said))
craft-once None s act v w h g = absurd h
craft-once (Some a) s act v w h g = says-once a s act v w h g

first-once : (given : Option Refusal) (IsNext : Option Refusal → Type 0) → IsOnce IsNext → IsOnce (FirstThen given IsNext)
first-once (Some reason) IsNext next v w h g = h ∙ sym g
first-once None IsNext next v w h g = next v w h g

pub verdict-once : (fleet : List Craft) (full : Bool) (s : Option FlightState) (act : Act) → IsOnce (IsVerdict fleet full s act)
verdict-once fleet full (Some s) act v w h g = first-once (first_of (reasons s act)) (λ (said : Option Refusal). IsSomeAnd (aircraft_of fleet s.leg) (λ a. Says a s act said)) (craft-once (aircraft_of fleet s.leg) s act) v w h g
verdict-once fleet full None (NewFlight leg) v w h g = h ∙ sym g
verdict-once fleet full None (Set edition told) v w h g = h ∙ sym g
verdict-once fleet full None (Take edition) v w h g = h ∙ sym g
verdict-once fleet full None (Install edition path same) v w h g = h ∙ sym g
verdict-once fleet full None (Release edition) v w h g = h ∙ sym g
verdict-once fleet full None (Late edition change) v w h g = h ∙ sym g
verdict-once fleet full None (Reopen edition) v w h g = h ∙ sym g
verdict-once fleet full None (Depart edition) v w h g = h ∙ sym g
verdict-once fleet full None (Show what) v w h g = h ∙ sym g
