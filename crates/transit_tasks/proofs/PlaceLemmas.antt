-- the places of what stays, one after another, and what holds where none of them is wrong
use Rattle.std.proofs.Common.{◌≡◌, ◌≢◌, ℕ, ◌+◌, ◌<◌, false, not, Option, Some, None, List, [], ◌∷◌, ◌++◌, length, get_or, take, drop, map, refl, ap, ap₂, sym, ◌∙◌, subst, arith, append_assoc, append-nil}
use Rattle.std.proofs.lemmas.Bool.{not-false}
use Rattle.std.proofs.lemmas.List.{drop_more, take_more, map-append}
use Rattle.std.proofs.lemmas.List.Elements.{All-append, All-cons, All-head, All-nil, All-tail}
use Rattle.std.proofs.lemmas.List.Kept.{AllPairs-cons}
use Rattle.std.proofs.lemmas.List.Quantifiers.{all_pairs_push}
use Rattle.std.specs.Prelude.{All, AllPairs}
use Rattle.std.specs.Option.{option_or, option_map_or}
use Rattle.base_words.proofs.PairLemmas.{AllPairs-head, AllPairs-tail}
use Rattle.hold_parts.specs.declared.parts.Loose.{Loose}
use Rattle.hold_parts.specs.declared.parts.Position.{Position}
use Rattle.hold_limits.specs.Enumeration.{exclude, is_accepted}
use Rattle.hold_limits.specs.Placement.{Placed, IsAccepted, Exclude}
use Rattle.hold_limits.specs.Problem.{Problem}
use Rattle.hold_limits.proofs.EnumerationLemmas.{exclude-Decides, is_accepted-Decides}
use Rattle.hold_limits.proofs.FaultLemmas.{fault_if-none, option_or-none, refuses-any, refuses-if}
use Rattle.ldm_cpm.specs.Messages.{Placing}
use Rattle.transit_tasks.specs.Staying.{place_number, standing, lying, container_on, staying_containers}
use Rattle.transit_tasks.specs.TransitFaults.{clashes, is_unfit, place_fault, first_place_fault}
use Rattle.transit_tasks.proofs.PairLemmas.{AllPairs-from_map}

-- One place more --------------------------------------------------------------------------------

-- the fault of the places from here on is that of the next one, else that of those after it
pub next-place : {X : Type 0} (said : X → Placing) (t : Problem) (stay : List X) (at : ℕ) (x : X) → at < length stay → x ≡ get_or stay at x
    → first_place_fault t (map said (take at stay)) (map said (drop at stay))
    ≡ option_or (place_fault t (map said (take at stay)) (said x)) (first_place_fault t (map said (take (at + 1) stay)) (map said (drop (at + 1) stay)))
next-place said t stay at x within is =
    let before = map said (take at stay) in
    let after = map said (drop (at + 1) stay) in
    let next : drop at stay ≡ x ∷ drop (at + 1) stay = drop_more stay at x within ∙ ap (λ y. y ∷ drop (at + 1) stay) (sym is) in
    let earlier : map said (take (at + 1) stay) ≡ before ++ said x ∷ [] =
    ap (map said) (take_more stay at x within ∙ ap (λ y. take at stay ++ y ∷ []) (sym is)) ∙ map-append said (take at stay) (x ∷ []) in
    ap (λ xs. first_place_fault t before (map said xs)) next
    ∙ ap (λ xs. option_or (place_fault t before (said x)) (first_place_fault t xs after)) (sym earlier)

-- Where none is wrong ---------------------------------------------------------------------------

-- the place is excluded by no earlier one, and the position accepts the container on it
record IsRightBehind (t : Problem) (earlier : List Placing) (p : Placing) : Type 0 where
  fit : is_unfit t p ≡ false
  free : clashes t earlier p ≡ false

right-behind : (t : Problem) (earlier : List Placing) (p : Placing) → place_fault t earlier p ≡ None → IsRightBehind t earlier p
right-behind t earlier p none =
    let unfit = (option_or-none _ _ none).1 in
    let clash = (option_or-none _ _ unfit).1 in
    record {
      fit = fault_if-none (is_unfit t p) _ (option_or-none _ _ unfit).0;
      free = fault_if-none (clashes t earlier p) _ (option_or-none _ _ clash).0;
    }

fit-places : (t : Problem) (earlier later : List Placing) → first_place_fault t earlier later ≡ None → All (λ (p : Placing). is_unfit t p ≡ false) later
fit-places t earlier [] none = All-nil (λ (p : Placing). is_unfit t p ≡ false)
fit-places t earlier (p ∷ later) none =
    let parts = option_or-none (place_fault t earlier p) (first_place_fault t (earlier ++ p ∷ []) later) none in
    All-cons (λ (p : Placing). is_unfit t p ≡ false) p later (right-behind t earlier p parts.0).fit (fit-places t (earlier ++ p ∷ []) later parts.1)

-- the positions of two places do not exclude each other
abbrev AreFree : Problem → Placing → Placing → Type 0
AreFree t a b = Exclude t.hold (place_number t.hold.positions a) (place_number t.hold.positions b) → ⊥

free-places : (t : Problem) (earlier later : List Placing) → AllPairs (AreFree t) earlier → first_place_fault t earlier later ≡ None → AllPairs (AreFree t) (earlier ++ later)
free-places t earlier [] free none = subst (AllPairs (AreFree t)) (sym (append-nil earlier)) free
free-places t earlier (p ∷ later) free none =
    let parts = option_or-none (place_fault t earlier p) (first_place_fault t (earlier ++ p ∷ []) later) none in
    let number = place_number t.hold.positions in
    let guard = refuses-any (λ (e : Placing). exclude t.hold (number e) (number p)) (λ (e : Placing). AreFree t e p) (λ e. refuses-if (exclude t.hold (number e) (number p)) (exclude-Decides t.hold (number e) (number p))) earlier in
    subst (AllPairs (AreFree t)) (append_assoc earlier (p ∷ []) later)
    (free-places t (earlier ++ p ∷ []) later (all_pairs_push (AreFree t) earlier p free (guard.0 (right-behind t earlier p parts.0).free)) parts.1)

-- The containers that stay ----------------------------------------------------------------------

-- what holds of each place where a container stands holds of the container
pub containers-each : (positions : List Position) (P : Placing → Type 0) (Q : Placed → Type 0) → ((p : Placing) (id : List ℕ) → p.id ≡ Some id → P p → Q (standing positions p id))
    → (stay : List Placing) → All P stay → All Q (staying_containers positions stay)
containers-each positions P Q follows [] all = All-nil Q
containers-each positions P Q follows (p ∷ stay) all =
    All-append Q (container_on positions p) (staying_containers positions stay)
    (here p.id refl) (containers-each positions P Q follows stay (All-tail P p stay all))
  where
    here : (id : Option (List ℕ)) → p.id ≡ id → All Q (option_map_or (λ (i : List ℕ). standing positions p i ∷ []) id [])
    here None is = All-nil Q
    here (Some id) is = All-cons Q (standing positions p id) [] (follows p id is (All-head P p stay all)) (All-nil Q)

-- what holds of the positions of each two places holds of those of each two containers
containers-pairs : (positions : List Position) (R : ℕ → ℕ → Type 0) (stay : List Placing)
    → AllPairs (λ (a b : Placing). R (place_number positions a) (place_number positions b)) stay
    → AllPairs (λ (a b : Placed). R a.1 b.1) (staying_containers positions stay)
containers-pairs positions R [] pairs = λ i j d before within. absurd (omega arith)
containers-pairs positions R (p ∷ stay) pairs = here p.id (containers-pairs positions R stay (AllPairs-tail (λ (a b : Placing). R (place_number positions a) (place_number positions b)) p stay pairs))
  where
    here : (id : Option (List ℕ)) → AllPairs (λ (a b : Placed). R a.1 b.1) (staying_containers positions stay)
        → AllPairs (λ (a b : Placed). R a.1 b.1) (option_map_or (λ (i : List ℕ). standing positions p i ∷ []) id [] ++ staying_containers positions stay)
    here None later = later
    here (Some id) later =
        AllPairs-cons (λ (a b : Placed). R a.1 b.1) (standing positions p id) (staying_containers positions stay)
        (containers-each positions (λ (q : Placing). R (place_number positions p) (place_number positions q)) (λ (c : Placed). R (place_number positions p) c.1) (λ q id is holds. holds) stay
        (AllPairs-head (λ (a b : Placing). R (place_number positions a) (place_number positions b)) p stay pairs))
        later

-- Where no place is wrong, the containers that stay are accepted, and none excludes another.
pub staying-accepted : (t : Problem) (stay : List Placing) → first_place_fault t [] stay ≡ None → All (IsAccepted t.hold) (staying_containers t.hold.positions stay)
staying-accepted t stay none = containers-each t.hold.positions (λ (p : Placing). is_unfit t p ≡ false) (IsAccepted t.hold) accepted stay (fit-places t [] stay none)
  where
    accepted : (p : Placing) (id : List ℕ) → p.id ≡ Some id → is_unfit t p ≡ false → IsAccepted t.hold (standing t.hold.positions p id)
    accepted p id is fit =
        let stands : Placed = standing t.hold.positions p id in
        let taken : not (is_accepted t.hold stands) ≡ false = rw is at fit in
        (is_accepted-Decides t.hold stands).0 (not-false (is_accepted t.hold stands) taken)

pub staying-compatible : (t : Problem) (stay : List Placing) → first_place_fault t [] stay ≡ None
    → AllPairs (λ (a b : Placed). Exclude t.hold a.1 b.1 → ⊥) (staying_containers t.hold.positions stay)
staying-compatible t stay none =
    containers-pairs t.hold.positions (λ a b. Exclude t.hold a b → ⊥) stay (free-places t [] stay (λ i j d before within. absurd (omega arith)) none)

-- Where each loose load around them has a position of its own, so has each container.
pub staying-apart : (positions : List Position) (stay : List Placing) → AllPairs (λ (a b : Loose). a.position ≢ b.position) (map (lying positions) stay)
    → AllPairs (λ (a b : Placed). a.1 ≢ b.1) (staying_containers positions stay)
staying-apart positions stay once =
    containers-pairs positions (λ a b. a ≢ b) stay (AllPairs-from_map (λ (a b : Loose). a.position ≢ b.position) (lying positions) stay once)

-- Loose loads -----------------------------------------------------------------------------------

-- the loose loads of the task and of the first places, and of one place more
pub lies-more : {X : Type 0} (said : X → Placing) (positions : List Position) (own : List Loose) (stay : List X) (i : ℕ) (x : X) (loads : List Loose) (load : Loose)
    → i < length stay → x ≡ get_or stay i x → load ≡ lying positions (said x) → loads ≡ own ++ map (lying positions) (map said (take i stay))
    → loads ++ load ∷ [] ≡ own ++ map (lying positions) (map said (take (i + 1) stay))
lies-more said positions own stay i x loads load within here is all =
    let lies = lying positions in
    let first = map lies (map said (take i stay)) in
    let more : map lies (map said (take (i + 1) stay)) ≡ first ++ lies (said x) ∷ [] =
    ap (λ xs. map lies (map said xs)) (take_more stay i x within ∙ ap (λ y. take i stay ++ y ∷ []) (sym here))
    ∙ ap (map lies) (map-append said (take i stay) (x ∷ []))
    ∙ map-append lies (map said (take i stay)) (said x ∷ []) in
    ap₂ (λ xs y. xs ++ y ∷ []) all is ∙ append_assoc own first (lies (said x) ∷ []) ∙ ap (λ xs. own ++ xs) (sym more)
