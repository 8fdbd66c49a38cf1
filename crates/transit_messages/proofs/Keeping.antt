-- What stays is among the places of the onward message.
use Rattle.std.proofs.lemmas.List.{get_or-map, get_or-append-add, length-map}
use Rattle.transit_tasks.proofs.LawfulAround.{around-lawful}
use Rattle.transit_tasks.specs.Staying.{lying, place_number, staying_containers}
use Rattle.transit_tasks.specs.NewTask.{task_around}
use Rattle.hold_limits.proofs.LawfulBounds.{lawful-bounds}
use Rattle.std.proofs.Common.{◌≡◌, ◌+◌, ◌≢◌, ℕ, ◌<◌, Bool, true, false, List, [], ◌∷◌, ◌++◌, length, map, get_or, Option, Some, None, refl, sym, ap, ◌∙◌, arith, pos, length-append}
use Rattle.std.proofs.lemmas.Bool.{true≢false}
use Rattle.std.proofs.lemmas.List.Elements.{All-nil, All-cons}
use Rattle.std.proofs.lemmas.List.Quantifiers.{position-Some}
use Rattle.std.proofs.lemmas.Slice.Eq.{bytes_eq-Decides}
use Rattle.std.specs.Option.{option_or, option_map_or}
use Rattle.std.specs.Prelude.{All, AllPairs, IfSome, find, bytes_eq}
use Rattle.hold_parts.specs.Names.{number_named}
use Rattle.hold_parts.specs.declared.parts.Loose.{Loose}
use Rattle.hold_parts.specs.declared.parts.Position.{Position}
use Rattle.hold_limits.proofs.FaultLemmas.{option_or-none, fault_if-none, option_map-none}
use Rattle.hold_limits.specs.Faults.{fault_if, IsLawful, task_fault}
use Rattle.hold_limits.specs.Placement.{Placed, placed}
use Rattle.hold_limits.specs.Problem.{Problem}
use Rattle.ldm_cpm.specs.Messages.{Placing}
use Rattle.transit_tasks.specs.TransitFaults.{is_misplaced, is_unfit, clashes, is_offered, shares_bulk, place_fault, first_place_fault, transit_fault}
use Rattle.transit_tasks.specs.declared.fault.TransitFault.TheVariants.{Place, NoFit, Clash, Offered, BulkShared}
use Rattle.transit_messages.specs.Onward.{empty_on, container_for, load_for, weighs_on, loose_placing, stands_on, loaded_placing, is_named, onward_placing, onward_placings, Keeps}
use Rattle.transit_messages.proofs.Finding.{found-is, found-alone, told-at, told-length}

abbrev pub HaveNames : Placing → Placing → Type 0
HaveNames a b = a.name ≢ b.name

-- a position in no hold
pub nowhere : Position
nowhere = record { name = []; compartment = 0; influence = pos 0; bulk = true; fits = [] }

-- Names -----------------------------------------------------------------------------------------

-- the first place of a name is the one that has it
found-only : (places : List Placing) (k : ℕ) (d : Placing) (name : List ℕ) → AllPairs HaveNames places → k < length places → (get_or places k d).name ≡ name
    → find (is_named name) places ≡ Some (get_or places k d)
found-only places k d name apart within is =
    let same : (p : Placing) → is_named name p ≡ true → p.name ≡ name = λ p. (bytes_eq-Decides p.name name).0 in
    found-alone (is_named name) places k d
    (λ i j e before inside one other. apart i j e before inside (same (get_or places i e) one ∙ sym (same (get_or places j e) other)))
    within ((bytes_eq-Decides (get_or places k d).name name).1 is)

option-name : {X : Type 0} (f : X → Placing) (other : Placing) (name : List ℕ) (o : Option X) → IfSome o (λ x. (f x).name ≡ name) → other.name ≡ name
    → (option_map_or f o other).name ≡ name
option-name f other name None some none = none
option-name f other name (Some x) some none = some

always : {X : Type 0} (P : X → Type 0) (o : Option X) → ((x : X) → P x) → IfSome o P
always P None each = tt
always P (Some x) each = each x

named-so : (name : List ℕ) (o : Option Placing) → IfSome o (λ p. (is_named name p ≡ true) × (Unit {0})) → IfSome o (λ p. p.name ≡ name)
named-so name None some = tt
named-so name (Some p) some = (bytes_eq-Decides p.name name).0 some.0

-- what the message says of a position has the position's name
pub onward-name : (next : List ℕ) (stay : List Placing) (containers : List Placed) (loose : List Loose) (at : ℕ × Position)
    → (onward_placing next stay containers loose at).name ≡ at.1.name
onward-name next stay containers loose at =
    let name = at.1.name in
    let loads : (loose_placing next loose at.0 at.1).name ≡ name =
    option-name (load_for next at.1) (empty_on at.1) name (find (weighs_on at.0) loose) (always (λ (l : Loose). name ≡ name) (find (weighs_on at.0) loose) (λ l. refl)) refl in
    let loaded : (loaded_placing next containers loose at.0 at.1).name ≡ name =
    option-name (λ (p : Placed). container_for next at.1 p.0) (loose_placing next loose at.0 at.1) name (find (stands_on at.0) containers)
    (always (λ (p : Placed). name ≡ name) (find (stands_on at.0) containers) (λ p. refl)) loads in
    option-name (λ (p : Placing). p) (loaded_placing next containers loose at.0 at.1) name (find (is_named name) stay)
    (named-so name (find (is_named name) stay) (found-is (is_named name) (λ (p : Placing). Unit {0}) stay (λ k d within. tt))) loaded

-- names of positions that differ are names of places that differ
pub places-differ : (next : List ℕ) (stay : List Placing) (t : Problem) (path : List ℕ) → AllPairs (λ (a b : Position). a.name ≢ b.name) t.hold.positions
    → AllPairs HaveNames (onward_placings next stay t path)
places-differ next stay t path apart i j d before within same =
    let f = onward_placing next stay (placed t path) t.loose in
    let ps = t.hold.positions in
    let later : j < length ps = omega (arith, within, told-length f ps) in
    let earlier : i < length ps = omega (arith, before, later) in
    let name-at : (k : ℕ) → k < length ps → (get_or (onward_placings next stay t path) k d).name ≡ (get_or ps k nowhere).name =
    λ k inside. ap (λ (p : Placing). p.name) (told-at f ps k nowhere d inside) ∙ onward-name next stay (placed t path) t.loose (k, get_or ps k nowhere) in
    apart i j nowhere before later (sym (name-at i earlier) ∙ same ∙ name-at j later)

-- What stays ------------------------------------------------------------------------------------

-- what is known of a place of which nothing is wrong
pub record StandsRight (t : Problem) (p : Placing) : Type 0 where
  pub known : is_misplaced t p ≡ false
  pub alone : shares_bulk t p ≡ false

first-and-last : {F : Type 0} (a b c d e : Bool) (p q r s u : F)
    → option_or (fault_if a p) (option_or (fault_if b q) (option_or (fault_if c r) (option_or (fault_if d s) (fault_if e u)))) ≡ None → (a ≡ false) × (e ≡ false)
first-and-last true b c d e p q r s u none = absurd (cc)
first-and-last false true c d e p q r s u none = absurd (cc)
first-and-last false false true d e p q r s u none = absurd (cc)
first-and-last false false false true e p q r s u none = absurd (cc)
first-and-last false false false false e p q r s u none = (refl, fault_if-none e u none)

each-right : (t : Problem) (earlier stay : List Placing) → first_place_fault t earlier stay ≡ None → All (StandsRight t) stay
each-right t earlier [] none = All-nil (StandsRight t)
each-right t earlier (p ∷ stay) none =
    let n = length earlier in
    let parts = option_or-none (place_fault t earlier p) (first_place_fault t (earlier ++ p ∷ []) stay) none in
    let tests = first-and-last (is_misplaced t p) (is_unfit t p) (clashes t earlier p) (is_offered t p) (shares_bulk t p) (Place n) (NoFit n) (Clash n) (Offered n) (BulkShared n) parts.0 in
    let here : StandsRight t p = record { known = tests.0; alone = tests.1 } in
    All-cons (StandsRight t) p stay here (each-right t (earlier ++ p ∷ []) stay parts.1)

-- each place of what stays is right, where there is no fault
pub all-right : (t : Problem) (stay : List Placing) → transit_fault t stay ≡ None → All (StandsRight t) stay
all-right t stay none = each-right t [] stay (option_or-none (first_place_fault t [] stay) _ none).0

pub number-there : (test : ℕ → Bool) (o : Option ℕ) → option_map_or test o true ≡ false → (n : ℕ) × (o ≡ Some n)
number-there test None wrong = absurd (true≢false wrong)
number-there test (Some n) wrong = (n, refl)

pub position-named : (positions : List Position) (name : List ℕ) (n : ℕ) → number_named positions name ≡ Some n → (n < length positions) × ((get_or positions n nowhere).name ≡ name)
unfolding number_named
position-named positions name n is =
    let there = position-Some (λ (p : Position). bytes_eq p.name name) positions n nowhere is in
    (there.0, (bytes_eq-Decides (get_or positions n nowhere).name name).0 there.1)

-- no two places that stay have one name, since no two loose loads of the task around them lie on one position
pub staying-differ : (t : Problem) (stay : List Placing) → IsLawful t → transit_fault t stay ≡ None → AllPairs HaveNames stay
staying-differ t stay lawful right i j d before within same =
    let ps = t.hold.positions in
    let loads = map (lying ps) stay in
    let around : IsLawful (task_around t stay) = record {
      hold = around-lawful t.hold (staying_containers ps stay) lawful.hold;
      right = option_map-none _ (task_fault (task_around t stay)) (option_or-none (first_place_fault t [] stay) _ right).1;
    } in
    let once = (lawful-bounds (task_around t stay) around).loose_once in
    let lies : (k : ℕ) → k < length stay → (get_or (t.loose ++ loads) (length t.loose + k) (lying ps d)).position ≡ place_number ps (get_or stay k d) =
    λ k inside. ap (λ (l : Loose). l.position) (get_or-append-add t.loose loads k (lying ps d) ∙ get_or-map (lying ps) stay k d (lying ps d) inside) in
    let place : place_number ps (get_or stay i d) ≡ place_number ps (get_or stay j d) =
    ap (λ (name : List ℕ). option_map_or (λ (n : ℕ). n) (number_named ps name) (length ps)) same in
    once (length t.loose + i) (length t.loose + j) (lying ps d) (omega (arith, before)) (omega (arith, within, length-append t.loose loads, length-map stay (lying ps)))
    (lies i (omega (arith, before, within)) ∙ place ∙ sym (lies j within))

pub keeps : (next : List ℕ) (stay : List Placing) (t : Problem) (path : List ℕ) → transit_fault t stay ≡ None → AllPairs HaveNames stay
    → Keeps stay (onward_placings next stay t path)
keeps next stay t path right apart =
    let f = onward_placing next stay (placed t path) t.loose in
    let ps = t.hold.positions in
    let places-right = all-right t stay right in
    let said : (k n : ℕ) (d : Placing) → k < length stay → (get_or ps n nowhere).name ≡ (get_or stay k d).name → f (n, get_or ps n nowhere) ≡ get_or stay k d =
    λ k n d within same. ap (λ (o : Option Placing). option_map_or (λ (p : Placing). p) o (loaded_placing next (placed t path) t.loose n (get_or ps n nowhere)))
    (found-only stay k d (get_or ps n nowhere).name apart within (sym same)) in
    record {
      among = λ k d within.
          let n = number-there _ (number_named ps (get_or stay k d).name) (places-right k d within).known in
          let there = position-named ps (get_or stay k d).name n.0 n.1 in
          (n.0, omega (arith, there.0, told-length f ps), told-at f ps n.0 nowhere (get_or stay k d) there.0 ∙ said k n.0 d within there.1);
      once = λ j e inside k d within same.
          let number : j < length ps = omega (arith, inside, told-length f ps) in
          let is = told-at f ps j nowhere e number in
          let name = sym (onward-name next stay (placed t path) t.loose (j, get_or ps j nowhere)) ∙ sym (ap (λ (p : Placing). p.name) is) ∙ same in
          is ∙ said k j d within name;
    }
