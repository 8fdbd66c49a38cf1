-- the positions of a plan by their names, and the rules that a plan has to keep
use Rattle.std.proofs.Common.{◌≡◌, ◌≢◌, ⊎_elim, ℕ, ◌+◌, ◌<◌, ◌≤◌, true, false, IsTrue, ◌∷◌, ◌++◌, List, [], length, map, take, get_or, refl, sym, ◌∙◌, ap, subst, arith, All, AllPairs, Contains, ◌⊎◌, Some, None}
use Rattle.std.specs.Prelude.{bytes_eq, position, Any, Result, Ok, Err, IfErr}
use Rattle.std.proofs.lemmas.Bool.{true≢false, false≢true, cases_Bool}
use Rattle.std.proofs.lemmas.List.{length-append, length-map, get_or-map, take_more, take_all}
use Rattle.std.proofs.lemmas.List.Elements.{All-nil, All-head, All-tail, All-push, All-weaker, All-contains, All-contains_itself, All-from_recursion}
use Rattle.std.proofs.lemmas.List.Quantifiers.{position-Some}
use Rattle.std.proofs.lemmas.Option.{slice_get-get_or, same_Some}
use Rattle.std.proofs.lemmas.Slice.Eq.{bytes_eq-Decides}
use Rattle.hold_parts.specs.declared.parts.Position.{Position}
use Rattle.hold_limits.specs.Layout.{name_at}
use Rattle.hold_limits.proofs.FaultLemmas.{position-none}
use Rattle.hold_limits.proofs.LawfulBounds.{hold-bounds}
use Rattle.text_lines.proofs.NameLemmas.{some_position, name_at-is, named_once}
use Rattle.text_lines.proofs.NameRuns.{first_named}
use Rattle.text_lines.proofs.SectionLemmas.{map-push}
use Rattle.aircraft_file.specs.Craft.{Craft}
use Rattle.aircraft_file.specs.Lawful.{IsLawfulCraft}
use Rattle.trim.specs.declared.figures.Figures.{Figures}
use Rattle.trim.specs.declared.fault.TrimFault.{TrimFault}
use Rattle.trim.specs.declared.fault.TrimFault.TheVariants as fault_of
use Rattle.trim.specs.declared.rules.Rule.{Rule}
use Rattle.trim.specs.declared.rules.Rule.TheVariants.{Ramp, ZeroFuel, TakeOff, Landing, Regulated, ZeroFuelEnvelope, TakeOffEnvelope, LandingEnvelope, Hold, Lateral}
use Rattle.mass_units.specs.declared.Kg.{Kg}
use Rattle.payload.specs.declared.figures.PayFault.{PayFault}
use Rattle.hold_limits.specs.declared.fault.TaskFault.{TaskFault}
use Rattle.trim.specs.Refusals.{CanBeWeighed, IsUnweighed, IsRefused}
use Rattle.trim.specs.Rules.{all_rules, Keeps, AreBroken}
use Rattle.trim.specs.Laws.{plan_rules}
use Rattle.trim.proofs.LawLemmas.{listed-is}
use Rattle.flight_state.specs.declared.state.Stage.{Stage}
use Rattle.flight_state.specs.declared.state.Stage.TheVariants.{Working, Planned, Departed}
use Rattle.flight_state.specs.declared.state.FlightState.{FlightState}
use Rattle.flight_state.specs.Effective.{effective}
use Rattle.flight_row.specs.Loading.{AreNamed, StillHolds, rules_due}

abbrev Names : Type 0
Names = List (List ℕ)

-- no two positions have one name
abbrev pub AreDifferent : List Position → Type 0
AreDifferent ps = AllPairs (λ (a b : Position). a.name ≢ b.name) ps

pub names_differ : (a : Craft) → IsLawfulCraft a → AreDifferent a.hold.positions
names_differ a lawful = (hold-bounds a.hold lawful.hold).names

path_once : (ps : List Position) → AreDifferent ps → (p q : List ℕ) → All (λ x. x < length ps) p → All (λ x. x < length ps) q → map (name_at ps) p ≡ map (name_at ps) q → p ≡ q
path_once ps differ [] [] known other e = refl
path_once ps differ [] (y ∷ q) known other e = absurd (cc (e))
path_once ps differ (x ∷ p) [] known other e = absurd (cc (e))
path_once ps differ (x ∷ p) (y ∷ q) known other e =
    let head : name_at ps x ≡ name_at ps y = cc (e) in
    let tails : map (name_at ps) p ≡ map (name_at ps) q = cc (e) in
    let Known : ℕ → Type 0 = λ x. x < length ps in
    let same = named_once ps x y (first_named ps differ x (All-head Known x p known)) (first_named ps differ y (All-head Known y q other)) head in
    let rest = path_once ps differ p q (All-tail Known x p known) (All-tail Known y q other) tails in
    λ i. same i ∷ rest i

pub plan_once : (a : Craft) → AreDifferent a.hold.positions → (names : Names) (p q : List ℕ) → AreNamed a names p → AreNamed a names q → p ≡ q
plan_once a differ names p q m n = path_once a.hold.positions differ p q m.known n.known (sym m.are ∙ n.are)

-- One more name --------------------------------------------------------------------------------------

-- these positions have the first names
pub record AreSoFar (a : Craft) (names : Names) (i : ℕ) (path : List ℕ) : Type 0 where
  pub named : AreNamed a (take i names) path
  pub long : length path ≡ i

pub none_so_far : (a : Craft) (names : Names) → AreSoFar a names 0 []
none_so_far a names = record { named = record { known = All-nil _; are = refl }; long = refl }

same_name : (x name : List ℕ) → bytes_eq x name ≡ true → x ≡ name
same_name x name e = (bytes_eq-Decides x name).0 e

found_at : (ps : List Position) (name : List ℕ) (q : ℕ) → position (λ (p : Position). bytes_eq p.name name) ps ≡ Some q → (q < length ps) × (name_at ps q ≡ name)
found_at ps name q e =
    let at = position-Some (λ (p : Position). bytes_eq p.name name) ps q some_position e in
    (at.0, name_at-is ps q some_position at.0 ∙ same_name (get_or ps q some_position).name name at.1)

unknown : (ps : List Position) (name : List ℕ) → position (λ (p : Position). bytes_eq p.name name) ps ≡ None → (q : ℕ) → q < length ps → name_at ps q ≢ name
unknown ps name e q within same =
    let no : bytes_eq (get_or ps q some_position).name name ≡ false = position-none (λ (p : Position). bytes_eq p.name name) ps e q some_position within in
    true≢false (sym ((bytes_eq-Decides (get_or ps q some_position).name name).1 (sym (name_at-is ps q some_position within) ∙ same)) ∙ no)

pub one_more : (a : Craft) (names : Names) (i : ℕ) (name : List ℕ) (q : ℕ) (path new : List ℕ) → i < length names → name ≡ get_or names i name
    → position (λ (p : Position). bytes_eq p.name name) a.hold.positions ≡ Some q → new ≡ path ++ q ∷ [] → AreSoFar a names i path → AreSoFar a names (i + 1) new
one_more a names i name q path new within is found grew so =
    let ps = a.hold.positions in
    let at = found_at ps name q found in
    let Known : ℕ → Type 0 = λ x. x < length ps in
    let now : take (i + 1) names ≡ map (name_at ps) new =
    take_more names i name within ∙ ap (λ t. take i names ++ t ∷ []) (sym is)
    ∙ ap (λ (t : Names). t ++ name ∷ []) so.named.are ∙ ap (λ t. map (name_at ps) path ++ t ∷ []) (sym at.1) ∙ sym (map-push (name_at ps) path q) ∙ ap (map (name_at ps)) (sym grew) in
    let long = ap length grew ∙ length-push path q in
    record {
      named = record { known = subst (All Known) (sym grew) (All-push Known path q so.named.known at.0); are = now };
      long = long ∙ ap (λ n. n + 1) so.long;
    }
  where
    length-push : (path : List ℕ) (q : ℕ) → length (path ++ q ∷ []) ≡ length path + 1
    length-push path q = length-append path (q ∷ [])

pub no_path : (a : Craft) (names : Names) (i : ℕ) (name : List ℕ) → i < length names → name ≡ get_or names i name
    → position (λ (p : Position). bytes_eq p.name name) a.hold.positions ≡ None → (path : List ℕ) → AreNamed a names path → ⊥
no_path a names i name within is none path named =
    let ps = a.hold.positions in
    let long : length names ≡ length path = ap length named.are ∙ length-map path (name_at ps) in
    let inside : i < length path = omega (arith, long, within) in
    let q = get_or path i 0 in
    let there : get_or names i name ≡ name_at ps q = ap (λ (t : Names). get_or t i name) named.are ∙ get_or-map (name_at ps) path i 0 name inside in
    unknown ps name none q (named.known i 0 inside) (sym there ∙ sym is)

pub all_named : (a : Craft) (names : Names) (i : ℕ) (path : List ℕ) → length names ≤ i → AreSoFar a names i path → AreNamed a names path
all_named a names i path past so = subst (λ (t : Names). AreNamed a t path) (take_all i names past) so.named

-- Rules ----------------------------------------------------------------------------------------------

pub each_rule : (rule : Rule) → Contains all_rules rule
each_rule Ramp = (0, omega arith, refl)
each_rule ZeroFuel = (1, omega arith, refl)
each_rule TakeOff = (2, omega arith, refl)
each_rule Landing = (3, omega arith, refl)
each_rule Regulated = (4, omega arith, refl)
each_rule ZeroFuelEnvelope = (5, omega arith, refl)
each_rule TakeOffEnvelope = (6, omega arith, refl)
each_rule LandingEnvelope = (7, omega arith, refl)
each_rule Hold = (8, omega arith, refl)
each_rule Lateral = (9, omega arith, refl)

-- a rule that is not listed is kept
unlisted_kept : (a : Craft) (f : Figures) (path : List ℕ) (found : List Rule) (rule : Rule) → AreBroken a f path found → (Contains found rule → ⊥) → Keeps a f path rule
unlisted_kept a f path found rule are unlisted = ⊎_elim
    (λ (is : are.keeps rule ≡ true). (are.tells rule).0 is)
    (λ (other : are.keeps rule ≡ false). absurd (unlisted ((listed-is a f path found rule are).1 (λ keeps. true≢false (sym ((are.tells rule).1 keeps) ∙ other)))))
    (cases_Bool (are.keeps rule))

-- no rule that is due is broken
abbrev pub AreNotDue : Stage → List Rule → Type 0
AreNotDue stage found = All (λ (rule : Rule). Contains (rules_due stage) rule → ⊥) found

pub due_kept : (a : Craft) (f : Figures) (path : List ℕ) (found : List Rule) (stage : Stage) → AreBroken a f path found → AreNotDue stage found → All (Keeps a f path) (rules_due stage)
due_kept a f path found stage are none =
    let Due : Rule → Type 0 = λ rule. Contains (rules_due stage) rule in
    All-weaker Due (Keeps a f path)
    (λ rule due. unlisted_kept a f path found rule are (λ listed. All-contains (λ (r : Rule). Due r → ⊥) found rule none listed due))
    (rules_due stage) (All-contains_itself (rules_due stage))

pub kept_not_due : (a : Craft) (f : Figures) (path : List ℕ) (found : List Rule) (stage : Stage) → AreBroken a f path found → All (Keeps a f path) (rules_due stage) → AreNotDue stage found
kept_not_due a f path found stage are kept =
    All-weaker (Contains found) (λ (rule : Rule). Contains (rules_due stage) rule → ⊥)
    (λ rule listed due. (listed-is a f path found rule are).0 listed (All-contains (Keeps a f path) (rules_due stage) rule kept due))
    found (All-contains_itself found)

-- figures with masses and indices are not refused
pub weighed_not_refused : (a : Craft) (f : Figures) (fault : TrimFault) → CanBeWeighed a f → IsUnweighed a f fault → ⊥
weighed_not_refused a f (fault_of.FuelOut fuel) w out = ⊎_elim (λ first. w.fuel.take_off first.1) (λ second. w.fuel.landing second.2) out
weighed_not_refused a f (fault_of.Pay pay) w refused = w.cabin pay refused.1
weighed_not_refused a f (fault_of.LooseName at) w refused = absurd (cc (w.loose, refused.2))
weighed_not_refused a f (fault_of.NoWindow which) w refused = refused
weighed_not_refused a f (fault_of.Task fault) w refused = refused
weighed_not_refused a f fault_of.NoMemory w refused = refused

-- the rules on the plan, one by one

pub on_plan : (rule : Rule) → (rule ≡ ZeroFuelEnvelope) ⊎ ((rule ≡ TakeOffEnvelope) ⊎ ((rule ≡ LandingEnvelope) ⊎ ((rule ≡ Hold) ⊎ (rule ≡ Lateral)))) → Contains plan_rules rule
on_plan rule which =
    let At : Rule → Type 0 = λ r. Contains plan_rules r in
    let a0 : At ZeroFuelEnvelope = (0, omega arith, refl) in
    let a1 : At TakeOffEnvelope = (1, omega arith, refl) in
    let a2 : At LandingEnvelope = (2, omega arith, refl) in
    let a3 : At Hold = (3, omega arith, refl) in
    let a4 : At Lateral = (4, omega arith, refl) in
    ⊎_elim (λ (e : rule ≡ ZeroFuelEnvelope). subst At (sym e) a0)
    (λ (w : (rule ≡ TakeOffEnvelope) ⊎ ((rule ≡ LandingEnvelope) ⊎ ((rule ≡ Hold) ⊎ (rule ≡ Lateral)))). ⊎_elim (λ (e : rule ≡ TakeOffEnvelope). subst At (sym e) a1)
    (λ (v : (rule ≡ LandingEnvelope) ⊎ ((rule ≡ Hold) ⊎ (rule ≡ Lateral))). ⊎_elim (λ (e : rule ≡ LandingEnvelope). subst At (sym e) a2)
    (λ (u : (rule ≡ Hold) ⊎ (rule ≡ Lateral)). ⊎_elim (λ (e : rule ≡ Hold). subst At (sym e) a3) (λ (e : rule ≡ Lateral). subst At (sym e) a4) u) v) w) which

pub not_on_plan : (rule : Rule) → (rule ≡ ZeroFuelEnvelope → ⊥) → (rule ≡ TakeOffEnvelope → ⊥) → (rule ≡ LandingEnvelope → ⊥) → (rule ≡ Hold → ⊥) → (rule ≡ Lateral → ⊥) → Contains plan_rules rule → ⊥
not_on_plan rule z t l h a listed =
    let Other : Rule → Type 0 = λ r. rule ≡ r → ⊥ in
    All-contains Other plan_rules rule (All-from_recursion Other plan_rules (z, (t, (l, (h, (a, tt)))))) listed refl

pub plan_due : (stage : Stage) → (stage ≡ Working) ⊎ ((stage ≡ Planned) ⊎ (stage ≡ Departed)) → rules_due stage ≡ plan_rules
plan_due stage which =
    ⊎_elim (λ (e : stage ≡ Working). ap rules_due e)
    (λ (w : (stage ≡ Planned) ⊎ (stage ≡ Departed)). ⊎_elim (λ (e : stage ≡ Planned). ap rules_due e) (λ (e : stage ≡ Departed). ap rules_due e) w) which

-- no entry is of the kind, or some entry is

pub none_is : {X : Type 0} (P : X → Type 0) (xs : List X) → (Any P xs → ⊥) → All (λ (x : X). P x → ⊥) xs
none_is P xs none = λ k d within p.
    let same : get_or xs k (get_or xs k d) ≡ get_or xs k d =
    same_Some (get_or xs k (get_or xs k d)) (get_or xs k d) (sym (slice_get-get_or xs k (get_or xs k d) within) ∙ slice_get-get_or xs k d within) in
    none (k, get_or xs k d, within, same, p)

pub some_is : {X : Type 0} (P : X → Type 0) (xs : List X) → All (λ (x : X). P x → ⊥) xs → Any P xs → ⊥
some_is P xs none some = none some.0 some.1 some.2 (subst P (sym some.3) some.4)

-- Whether a plan still holds ---------------------------------------------------------------------------

-- a flight that has a task, or is refused for something else, can be weighed

pub unweighed : (a : Craft) (f : Figures) (fault : TrimFault) → IsUnweighed a f fault → (IsTrue false → CanBeWeighed a f) × (CanBeWeighed a f → IsTrue false)
unweighed a f fault refused = (λ no. absurd (false≢true no), λ weighed. absurd (weighed_not_refused a f fault weighed refused))

abbrev IsUnweighedWith : TrimFault → Type 0
IsUnweighedWith fault = (a : Craft) (f : Figures) → IsRefused a f fault → (IsTrue false → CanBeWeighed a f) × (CanBeWeighed a f → IsTrue false)

abbrev IsWeighedWith : TrimFault → Type 0
IsWeighedWith fault = (a : Craft) (f : Figures) → IsRefused a f fault → (IsTrue true → CanBeWeighed a f) × (CanBeWeighed a f → IsTrue true)

pub refused_unweighed : (fault : TrimFault) → ((x : Kg) × (fault ≡ fault_of.FuelOut x)) ⊎ (((x : PayFault) × (fault ≡ fault_of.Pay x)) ⊎ ((x : ℕ) × (fault ≡ fault_of.LooseName x))) → IsUnweighedWith fault
refused_unweighed fault which =
    ⊎_elim
    (λ (h : (x : Kg) × (fault ≡ fault_of.FuelOut x)). subst IsUnweighedWith (sym h.1) (λ a f r. unweighed a f (fault_of.FuelOut h.0) r))
    (λ (w : ((x : PayFault) × (fault ≡ fault_of.Pay x)) ⊎ ((x : ℕ) × (fault ≡ fault_of.LooseName x))). ⊎_elim
    (λ (h : (x : PayFault) × (fault ≡ fault_of.Pay x)). subst IsUnweighedWith (sym h.1) (λ a f r. unweighed a f (fault_of.Pay h.0) r))
    (λ (h : (x : ℕ) × (fault ≡ fault_of.LooseName x)). subst IsUnweighedWith (sym h.1) (λ a f r. unweighed a f (fault_of.LooseName h.0) r)) w) which

pub refused_weighed : (fault : TrimFault) → ((x : ℕ) × (fault ≡ fault_of.NoWindow x)) ⊎ ((x : TaskFault) × (fault ≡ fault_of.Task x)) → IsWeighedWith fault
refused_weighed fault which =
    ⊎_elim
    (λ (h : (x : ℕ) × (fault ≡ fault_of.NoWindow x)). subst IsWeighedWith (sym h.1) (λ a f r. (λ yes. r.0, λ weighed. refl)))
    (λ (h : (x : TaskFault) × (fault ≡ fault_of.Task x)). subst IsWeighedWith (sym h.1) (λ a f r. (λ yes. r.0, λ weighed. refl))) which

-- weighed figures have their broken rules
pub weighed_answers : {X : Type 0} (a : Craft) (f : Figures) (r : Result X TrimFault) → CanBeWeighed a f → IfErr r (IsUnweighed a f) → ((x : X) → r ≡ Ok x → ⊥) → ⊥
weighed_answers a f (Ok x) weighed refused other = other x refl
weighed_answers a f (Err fault) weighed refused other = weighed_not_refused a f fault weighed refused

-- a plan on other positions has other names
pub no_other : (a : Craft) (s : FlightState) (path : List ℕ) → (StillHolds a s path → ⊥) → (names : Names) → ((other : List ℕ) → AreNamed a names other → other ≡ path) → (other : List ℕ) → AreNamed a names other → StillHolds a s other → ⊥
no_other a s path fails names only other named holds = fails (subst (StillHolds a s) (only other named) holds)

pub due_broken : (a : Craft) (s : FlightState) (path : List ℕ) (found : List Rule) → AreBroken a (effective s) path found → Any (Contains (rules_due s.stage)) found → StillHolds a s path → ⊥
due_broken a s path found are some holds = some_is (Contains (rules_due s.stage)) found (kept_not_due a (effective s) path found s.stage are holds.kept) some

pub still_holds : (a : Craft) (s : FlightState) (path : List ℕ) (found : List Rule) → length path ≡ length s.base.containers → CanBeWeighed a (effective s) → AreBroken a (effective s) path found → (Any (Contains (rules_due s.stage)) found → ⊥) → StillHolds a s path
still_holds a s path found complete weighed are none = record {
  complete = complete;
  weighed = weighed;
  kept = due_kept a (effective s) path found s.stage are (none_is (Contains (rules_due s.stage)) found none);
}
