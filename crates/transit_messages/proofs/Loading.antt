-- What is loaded here is among the places of the onward message.
use Rattle.std.proofs.Common.{◌≡◌, ◌≢◌, ℕ, zero, suc, ◌==◌, ◌<◌, ◌≤◌, Bool, true, false, not, ◌||◌, nat_lt, if◌then◌else◌, List, [], ◌∷◌, length, map, get_or, Option, Some, None, is_some, inl, inr, refl, sym, ap, subst, ◌∙◌, arith}
use Rattle.std.proofs.Math.Nat.{eq-or-lt_of_le}
use Rattle.std.proofs.lemmas.Bool.{cases_Bool, true≢false, false≢true, ltb-true, ltb-false}
use Rattle.std.proofs.lemmas.Bool.Decides.{nat_tests}
use Rattle.std.proofs.lemmas.Slice.Zip.{get_or-zip}
use Rattle.std.proofs.lemmas.List.Folds.{list_any-append, list_any_at}
use Rattle.std.proofs.lemmas.Option.{slice_get-get_or, slice_get_cases, get_or_from_slice_get}
use Rattle.std.proofs.lemmas.Slice.Eq.{bytes_eq-Decides}
use Rattle.std.specs.List.{enumerate_from, flat_map, list_any}
use Rattle.std.specs.Option.{option_map_or}
use Rattle.std.specs.Prelude.{All, AllPairs, Contains, IsSomeAnd, slice_get, find, bytes_eq}
use Rattle.hold_parts.specs.Accepting.{Accepts}
use Rattle.hold_parts.specs.Names.{number_named}
use Rattle.hold_parts.specs.declared.lists.Fit.{Fit}
use Rattle.hold_parts.specs.declared.parts.Item.{Item}
use Rattle.hold_parts.specs.declared.parts.Loose.{Loose}
use Rattle.hold_parts.specs.declared.parts.Position.{Position}
use Rattle.hold_limits.proofs.BranchOrderLemmas.{length-ordered}
use Rattle.hold_limits.proofs.FaultLemmas.{refuses-if}
use Rattle.hold_limits.proofs.LawfulBounds.{hold-bounds, lawful-bounds}
use Rattle.hold_limits.proofs.PlacedLemmas.{length-placed}
use Rattle.hold_limits.specs.BranchOrder.{ordered}
use Rattle.hold_limits.specs.Bounds.{HasUpTo16Kinds}
use Rattle.hold_limits.specs.Enumeration.{exclude}
use Rattle.hold_limits.specs.Faults.{IsLawful, is_bulk}
use Rattle.hold_limits.specs.Placement.{Placed, placed, IsSound, IsAccepted}
use Rattle.hold_limits.specs.Problem.{Problem}
use Rattle.ldm_cpm.specs.Messages.{Placing}
use Rattle.transit_tasks.specs.NewTask.{closes, is_closed, closed, position_around, task_around}
use Rattle.transit_tasks.specs.Staying.{place_number, standing, container_on, staying_containers}
use Rattle.transit_tasks.specs.TransitFaults.{is_wrong_kind, transit_fault}
use Rattle.transit_messages.specs.Onward.{empty_on, container_for, load_for, weighs_on, loose_placing, stands_on, loaded_placing, is_named, onward_placing, onward_placings, Carries}
use Rattle.transit_messages.proofs.Finding.{found-none, found-alone, told-at, told-length}
use Rattle.transit_messages.proofs.Keeping.{StandsRight, all-right, number-there, position-named, nowhere}

-- Positions -------------------------------------------------------------------------------------

abbrev HaveNames : Position → Position → Type 0
HaveNames a b = a.name ≢ b.name

-- two numbers of one name are the same
same-number : (ps : List Position) (m n : ℕ) → AllPairs HaveNames ps → m < length ps → n < length ps → (get_or ps m nowhere).name ≡ (get_or ps n nowhere).name → m ≡ n
same-number ps m n apart inside within same = elim (cases_Bool (nat_lt m n)) [
  | inl before ↦ absurd (apart m n nowhere (ltb-true m n before) within same)
  | inr behind ↦ elim (eq-or-lt_of_le (ltb-false m n behind)) [
    | inl is ↦ sym is
    | inr before ↦ absurd (apart n m nowhere before inside (sym same))
  ]
]

bulk-is : (ps : List Position) (n : ℕ) → n < length ps → is_bulk ps n ≡ (get_or ps n nowhere).bulk
bulk-is ps n within = ap (λ (o : Option Position). option_map_or (λ (p : Position). p.bulk) o false) (slice_get-get_or ps n nowhere within)

-- a position that accepts a container accepts some kind
some-fits : (ps : List Position) (n : ℕ) (item : Item) → IsSomeAnd (slice_get ps n) (Accepts item) → (n < length ps) × (1 ≤ length (get_or ps n nowhere).fits)
some-fits ps n item accepted = elim (slice_get_cases ps n).1 [
  | inl there ↦
      let fits : Accepts item there.0 = rw there.2 at accepted in
      let same = get_or_from_slice_get ps n there.0 nowhere there.2 in
      (there.1, omega (arith, fits.2, ap (λ (p : Position). length p.fits) same))
  | inr past ↦ absurd (rw past.1 at accepted)
]

bulk-fits : (bulk : Bool) (fits : List Fit) → HasUpTo16Kinds bulk fits → 1 ≤ length fits → bulk ≡ false
bulk-fits true fits kinds some = absurd (omega (arith, some, ap length kinds))
bulk-fits false fits kinds some = refl

-- The task around what stays --------------------------------------------------------------------

open-fits : (is : Bool) (q : Position) → 1 ≤ length (if is then closed q else q).fits → (is ≡ false) × (1 ≤ length q.fits)
open-fits true q some = absurd (omega (arith, some))
open-fits false q some = (refl, some)

-- a position that takes a container beside what stays is not closed, and takes one by itself
pub record TakesContainer (t : Problem) (stay : List Placing) (n : ℕ) : Type 0 where
  pub within : n < length t.hold.positions
  pub free : is_closed t.hold (staying_containers t.hold.positions stay) n ≡ false
  pub bulk : (get_or t.hold.positions n nowhere).bulk ≡ false

takes-container : (t : Problem) (stay : List Placing) (p : Placed) → IsLawful t → IsAccepted (task_around t stay).hold p → TakesContainer t stay p.1
takes-container t stay p lawful accepted =
    let cs = staying_containers t.hold.positions stay in
    let ps = t.hold.positions in
    let around = position_around t.hold cs in
    let some = some-fits (map around (enumerate_from 0 ps)) p.1 p.0 accepted in
    let within : p.1 < length ps = omega (arith, some.0, told-length around ps) in
    let here = subst (λ (q : Position). 1 ≤ length q.fits) (told-at around ps p.1 nowhere nowhere within) some.1 in
    let opened = open-fits (is_closed t.hold cs p.1) (get_or ps p.1 nowhere) here in
    record {
      within = within;
      free = opened.0;
      bulk = bulk-fits (get_or ps p.1 nowhere).bulk (get_or ps p.1 nowhere).fits ((hold-bounds t.hold lawful.hold).kinds p.1 nowhere within) opened.1;
    }

any-flat : {X Y : Type 0} (test : Y → Bool) (f : X → List Y) (xs : List X) (k : ℕ) (d : X) → k < length xs → list_any test (f (get_or xs k d)) ≡ true
    → list_any test (flat_map f xs) ≡ true
any-flat test f [] k d within is = absurd (omega (arith, within))
any-flat test f (x ∷ xs) zero d within is = list_any-append test (f x) (flat_map f xs) ∙ rw is refl
any-flat test f (x ∷ xs) (suc k) d within is =
    list_any-append test (f x) (flat_map f xs) ∙ either (list_any test (f x)) (list_any test (flat_map f xs)) (any-flat test f xs k d (omega (arith, within)) is)
  where
    either : (a b : Bool) → b ≡ true → (a || b) ≡ true
    either true b is = refl
    either false b is = is

-- Where nothing stays ---------------------------------------------------------------------------

-- the number of a place that stays on a position
number-is : (t : Problem) (s : Placing) (n : ℕ) → IsLawful t → StandsRight t s → n < length t.hold.positions → s.name ≡ (get_or t.hold.positions n nowhere).name
    → number_named t.hold.positions s.name ≡ Some n
number-is t s n lawful right within same =
    let ps = t.hold.positions in
    let m = number-there _ (number_named ps s.name) right.known in
    let there = position-named ps s.name m.0 m.1 in
    m.1 ∙ ap (λ (k : ℕ). Some k) (same-number ps m.0 n (hold-bounds t.hold lawful.hold).names there.0 within (there.1 ∙ same))

wrong-none : (id bulk : Bool) → (if id then bulk else not bulk) ≡ false → id ≡ not bulk
wrong-none true true none = absurd (true≢false none)
wrong-none true false none = refl
wrong-none false true none = refl
wrong-none false false none = absurd (true≢false none)

-- a container stays where no loose load may lie, and nothing else does
stays-by-kind : (t : Problem) (s : Placing) (n : ℕ) → StandsRight t s → n < length t.hold.positions → number_named t.hold.positions s.name ≡ Some n
    → is_some s.id ≡ not (get_or t.hold.positions n nowhere).bulk
stays-by-kind t s n right within number =
    let kind : is_wrong_kind t s n ≡ false = sym (ap (λ (o : Option ℕ). option_map_or (is_wrong_kind t s) o true) number) ∙ right.known in
    wrong-none (is_some s.id) (is_bulk t.hold.positions n) kind ∙ ap not (bulk-is t.hold.positions n within)

same-count : (m n : ℕ) → m ≡ n → (m == n) ≡ true
same-count m n same = grind (arith, nat_tests)

closes-here : (is excludes : Bool) → is ≡ true → ((is || excludes) || false) ≡ true
closes-here true excludes is = refl
closes-here false excludes is = absurd (false≢true is)

closed-by : (t : Problem) (s : Placing) (n : ℕ) → number_named t.hold.positions s.name ≡ Some n → is_some s.id ≡ true → list_any (closes t.hold n) (container_on t.hold.positions s) ≡ true
closed-by t s n number some =
    let place : place_number t.hold.positions s ≡ n = ap (λ (o : Option ℕ). option_map_or (λ (k : ℕ). k) o (length t.hold.positions)) number in
    standing-closes s.id some place
  where
    standing-closes : (id : Option (List ℕ)) → is_some id ≡ true → place_number t.hold.positions s ≡ n
        → list_any (closes t.hold n) (option_map_or (λ (id : List ℕ). standing t.hold.positions s id ∷ []) id []) ≡ true
    standing-closes None some place = absurd (false≢true some)
    standing-closes (Some id) some place =
        closes-here (place_number t.hold.positions s == n) (exclude t.hold (place_number t.hold.positions s) n) (same-count (place_number t.hold.positions s) n place)

-- no place that stays has the position's name
abbrev NoneStays : List Placing → List ℕ → Type 0
NoneStays stay name = find (is_named name) stay ≡ None

none-stays : (stay : List Placing) (name : List ℕ) → ((k : ℕ) (d : Placing) → k < length stay → (get_or stay k d).name ≢ name) → NoneStays stay name
none-stays stay name apart =
    found-none (is_named name) stay (λ k d within. (refuses-if (bytes_eq (get_or stay k d).name name) (bytes_eq-Decides (get_or stay k d).name name)).1 (apart k d within))

none-where_taken : (t : Problem) (stay : List Placing) (n : ℕ) → IsLawful t → All (StandsRight t) stay → TakesContainer t stay n → NoneStays stay (get_or t.hold.positions n nowhere).name
none-where_taken t stay n lawful right takes = none-stays stay (get_or t.hold.positions n nowhere).name (λ k d within same.
    let s = get_or stay k d in
    let number = number-is t s n lawful (right k d within) takes.within same in
    let kind = stays-by-kind t s n (right k d within) takes.within number ∙ ap not takes.bulk in
    let shut = any-flat (closes t.hold n) (container_on t.hold.positions) stay k d within (closed-by t s n number kind) in
    false≢true (sym takes.free ∙ shut))

shared-not : (id shared : Bool) → id ≡ false → shared ≡ true → (if id then false else shared) ≡ false → ⊥
shared-not true shared kind is alone = true≢false kind
shared-not false true kind is alone = true≢false alone
shared-not false false kind is alone = false≢true is

none-where_loose : (t : Problem) (stay : List Placing) (k : ℕ) (d : Loose) → IsLawful t → All (StandsRight t) stay → k < length t.loose
    → (get_or t.hold.positions (get_or t.loose k d).position nowhere).bulk ≡ true → (get_or t.loose k d).position < length t.hold.positions
    → NoneStays stay (get_or t.hold.positions (get_or t.loose k d).position nowhere).name
none-where_loose t stay k d lawful right within bulk there = none-stays stay (get_or t.hold.positions (get_or t.loose k d).position nowhere).name (λ j e inside same.
    let s = get_or stay j e in
    let load = get_or t.loose k d in
    let number = number-is t s load.position lawful (right j e inside) there same in
    let kind : is_some s.id ≡ false = stays-by-kind t s load.position (right j e inside) there number ∙ ap not bulk in
    let place : place_number t.hold.positions s ≡ load.position = ap (λ (o : Option ℕ). option_map_or (λ (k : ℕ). k) o (length t.hold.positions)) number in
    let here : (load.position == place_number t.hold.positions s) ≡ true = same-count load.position (place_number t.hold.positions s) (sym place) in
    let shared : list_any (λ (l : Loose). l.position == place_number t.hold.positions s) t.loose ≡ true = list_any_at (λ (l : Loose). l.position == place_number t.hold.positions s) t.loose k d within here in
    let alone = (right j e inside).alone in
    shared-not (is_some s.id) _ kind shared alone)

-- What is loaded --------------------------------------------------------------------------------

stands-so : (n : ℕ) (p : Placed) → stands_on n p ≡ true → p.1 ≡ n
stands-so n p is = grind (arith, nat_tests)

-- the containers of a sound path are on positions of their own
container-found : (t : Problem) (path : List ℕ) (k : ℕ) (d : Placed) → length path ≤ length t.items → AllPairs (λ (a b : ℕ). a ≢ b) path → k < length (placed t path)
    → find (stands_on (get_or (placed t path) k d).1) (placed t path) ≡ Some (get_or (placed t path) k d)
container-found t path k d short apart within =
    let n = (get_or (placed t path) k d).1 in
    let long = length-placed t path short in
    let at : (i : ℕ) (e : Placed) → i < length path → (get_or (placed t path) i e).1 ≡ get_or path i e.1 =
    λ i e inside. ap (λ (p : Placed). p.1) (get_or-zip (ordered t.items) path i e (omega (arith, inside, short, length-ordered t.items)) inside) in
    found-alone (stands_on n) (placed t path) k d
    (λ i j e before inside one other.
    apart i j e.1 before (omega (arith, inside, long))
    (sym (at i e (omega (arith, before, inside, long))) ∙ stands-so n (get_or (placed t path) i e) one ∙ sym (stands-so n (get_or (placed t path) j e) other) ∙ at j e (omega (arith, inside, long))))
    within (same-count n n refl)

weighs-so : (n : ℕ) (l : Loose) → weighs_on n l ≡ true → l.position ≡ n
weighs-so n l is = grind (arith, nat_tests)

weighs-true : (n : ℕ) (l : Loose) → l.position ≡ n → 0 < l.mass.0 → weighs_on n l ≡ true
weighs-true n l is weighs = grind (arith, nat_tests)

load-found : (t : Problem) (k : ℕ) (d : Loose) → IsLawful t → k < length t.loose → 0 < (get_or t.loose k d).mass.0
    → find (weighs_on (get_or t.loose k d).position) t.loose ≡ Some (get_or t.loose k d)
load-found t k d lawful within weighs =
    let n = (get_or t.loose k d).position in
    found-alone (weighs_on n) t.loose k d
    (λ i j e before inside one other.
    (lawful-bounds t lawful).loose_once i j e before inside (weighs-so n (get_or t.loose i e) one ∙ sym (weighs-so n (get_or t.loose j e) other)))
    within (weighs-true n (get_or t.loose k d) refl weighs)

-- what is said of a position is among the places
among : (next : List ℕ) (stay : List Placing) (t : Problem) (path : List ℕ) (n : ℕ) (made : Position → Placing) → n < length t.hold.positions
    → onward_placing next stay (placed t path) t.loose (n, get_or t.hold.positions n nowhere) ≡ made (get_or t.hold.positions n nowhere)
    → IsSomeAnd (slice_get t.hold.positions n) (λ q. Contains (onward_placings next stay t path) (made q))
among next stay t path n made within says =
    let f = onward_placing next stay (placed t path) t.loose in
    let ps = t.hold.positions in
    let p = made (get_or ps n nowhere) in
    subst (λ (o : Option Position). IsSomeAnd o (λ q. Contains (onward_placings next stay t path) (made q))) (sym (slice_get-get_or ps n nowhere within))
    (n, omega (arith, within, told-length f ps), told-at f ps n nowhere p within ∙ says)

carries-containers : (next : List ℕ) (stay : List Placing) (t : Problem) (path : List ℕ) → IsLawful t → All (StandsRight t) stay → IsSound (task_around t stay) path
    → All (λ (p : Placed). IsSomeAnd (slice_get t.hold.positions p.1) (λ q. Contains (onward_placings next stay t path) (container_for next q p.0))) (placed t path)
carries-containers next stay t path lawful right sound k d within =
    let p = get_or (placed t path) k d in
    let q = get_or t.hold.positions p.1 nowhere in
    let takes = takes-container t stay p lawful (sound.accepted k d within) in
    let none = none-where_taken t stay p.1 lawful right takes in
    let found = container-found t path k d sound.short sound.apart within in
    among next stay t path p.1 (λ q. container_for next q p.0) takes.within
    (ap (λ (o : Option Placing). option_map_or (λ (p : Placing). p) o (loaded_placing next (placed t path) t.loose p.1 q)) none
    ∙ ap (λ (o : Option Placed). option_map_or (λ (p : Placed). container_for next q p.0) o (loose_placing next t.loose p.1 q)) found)

-- no container of a sound path is on the position of a loose load
none-placed : (t : Problem) (stay : List Placing) (path : List ℕ) (n : ℕ) → IsLawful t → IsSound (task_around t stay) path → (get_or t.hold.positions n nowhere).bulk ≡ true
    → find (stands_on n) (placed t path) ≡ None
none-placed t stay path n lawful sound bulk =
    found-none (stands_on n) (placed t path) (λ k d within. elim (cases_Bool (stands_on n (get_or (placed t path) k d))) [
      | inl here ↦
          let p = get_or (placed t path) k d in
          let takes = takes-container t stay p lawful (sound.accepted k d within) in
          let is_bulk : (get_or t.hold.positions p.1 nowhere).bulk ≡ true = ap (λ (m : ℕ). (get_or t.hold.positions m nowhere).bulk) (stands-so n p here) ∙ bulk in
          absurd (true≢false (sym is_bulk ∙ takes.bulk))
      | inr other ↦ other
    ])

carries-loads : (next : List ℕ) (stay : List Placing) (t : Problem) (path : List ℕ) → IsLawful t → All (StandsRight t) stay → IsSound (task_around t stay) path
    → All (λ (load : Loose). 0 < load.mass.0 → IsSomeAnd (slice_get t.hold.positions load.position) (λ q. Contains (onward_placings next stay t path) (load_for next q load))) t.loose
carries-loads next stay t path lawful right sound k d within weighs =
    let load = get_or t.loose k d in
    let n = load.position in
    let q = get_or t.hold.positions n nowhere in
    let bounds = lawful-bounds t lawful in
    let there : n < length t.hold.positions = bounds.loose_known k d within in
    let bulk : q.bulk ≡ true = sym (bulk-is t.hold.positions n there) ∙ bounds.loose_bulk k d within in
    let none = none-where_loose t stay k d lawful right within bulk there in
    let empty = none-placed t stay path n lawful sound bulk in
    among next stay t path n (λ q. load_for next q load) there
    (ap (λ (o : Option Placing). option_map_or (λ (p : Placing). p) o (loaded_placing next (placed t path) t.loose n q)) none
    ∙ ap (λ (o : Option Placed). option_map_or (λ (p : Placed). container_for next q p.0) o (loose_placing next t.loose n q)) empty
    ∙ ap (λ (o : Option Loose). option_map_or (load_for next q) o (empty_on q)) (load-found t k d lawful within weighs))

pub carries : (next : List ℕ) (stay : List Placing) (t : Problem) (path : List ℕ) → IsLawful t → transit_fault t stay ≡ None → IsSound (task_around t stay) path
    → Carries next t path (onward_placings next stay t path)
carries next stay t path lawful right sound = record {
  containers = carries-containers next stay t path lawful (all-right t stay right) sound;
  loads = carries-loads next stay t path lawful (all-right t stay right) sound;
}
