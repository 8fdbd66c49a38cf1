-- the positions and the excluding pairs around what stays
use Rattle.std.proofs.Common.{◌≡◌, ◌≢◌, ⊎_elim, ℕ, zero, suc, ◌+◌, ◌<◌, pos, Bool, true, false, not, ◌==◌, ◌&&◌, ◌||◌, if◌then◌else◌, Option, Some, None, option_map, List, [], ◌∷◌, ◌++◌, length, get_or, take, map, add-zero, refl, ap, ap₂, sym, ◌∙◌, subst, arith}
use Rattle.std.proofs.lemmas.Bool.{false≢true}
use Rattle.std.proofs.lemmas.Bool.Decides.{Decides-eqb, Decides-and, Decides-or}
use Rattle.std.proofs.lemmas.List.{length-map, length-take, map-append, take_more}
use Rattle.std.proofs.lemmas.List.Folds.{list_any-append}
use Rattle.std.proofs.lemmas.List.FromFn.{length-enumerate_from}
use Rattle.std.proofs.lemmas.Option.{slice_get-map, slice_get-get_or, get_or_from_slice_get}
use Rattle.std.specs.Prelude.{All, ◌↔◌, IsSomeAnd, slice_get}
use Rattle.std.specs.List.{enumerate_from, list_any}
use Rattle.std.specs.Option.{option_map_or}
use Rattle.hold_parts.specs.Accepting.{Accepts}
use Rattle.hold_parts.specs.declared.parts.Item.{Item}
use Rattle.hold_parts.specs.declared.parts.Position.{Position}
use Rattle.hold_limits.specs.Enumeration.{exclude}
use Rattle.hold_limits.specs.Faults.{is_bulk}
use Rattle.hold_limits.specs.Layout.{Layout}
use Rattle.hold_limits.specs.Placement.{Placed, IsAccepted, Exclude, influence_at}
use Rattle.hold_limits.proofs.EnumerationLemmas.{exclude-Decides}
use Rattle.hold_limits.proofs.FaultLemmas.{Refuses, refuses-any, refuses-either, refuses-if}
use Rattle.ldm_cpm.specs.Messages.{Placing}
use Rattle.transit_tasks.specs.Staying.{standing, container_on, staying_containers}
use Rattle.transit_tasks.specs.NewTask.{closes, is_closed, is_closed_by, closed, position_around, positions_around, is_open_pair, hold_around}
use Rattle.transit_tasks.proofs.PairLemmas.{list_any-filter}

-- Closed positions ------------------------------------------------------------------------------

-- a container closes neither its own position nor one that it excludes, exactly where the position is open
abbrev pub Spares : Layout → ℕ → Placed → Type 0
Spares hold q c = (c.1 ≢ q) × (Exclude hold c.1 q → ⊥)

pub open-rule : (hold : Layout) (containers : List Placed) (q : ℕ) → Refuses (is_closed hold containers q) (All (Spares hold q) containers)
open-rule hold containers q = refuses-any (closes hold q) (Spares hold q)
    (λ c. refuses-either (c.1 == q) (exclude hold c.1 q) (refuses-if (c.1 == q) (Decides-eqb c.1 q)) (refuses-if (exclude hold c.1 q) (exclude-Decides hold c.1 q)))
    containers

-- a position is closed where one of the places closes it
one-closed : (test : Placed → Bool) (stands : List ℕ → Placed) (id : Option (List ℕ)) → list_any test (option_map_or (λ i. stands i ∷ []) id []) ≡ option_map_or (λ i. test (stands i)) id false
one-closed test stands None = refl
one-closed test stands (Some id) = or-false (test (stands id))
  where
    or-false : (b : Bool) → (b || false) ≡ b
    or-false true = refl
    or-false false = refl

pub closed-by : {X : Type 0} (said : X → Placing) (hold : Layout) (q : ℕ) (stay : List X)
    → is_closed hold (staying_containers hold.positions (map said stay)) q ≡ list_any (λ x. is_closed_by hold q (said x)) stay
closed-by said hold q [] = refl
closed-by said hold q (x ∷ stay) =
    list_any-append (closes hold q) (container_on hold.positions (said x)) (staying_containers hold.positions (map said stay))
    ∙ ap₂ (λ a b. a || b) (one-closed (closes hold q) (standing hold.positions (said x)) (said x).id) (closed-by said hold q stay)

-- Positions -------------------------------------------------------------------------------------

slice_get-numbered : {X : Type 0} (n : ℕ) (xs : List X) (k : ℕ) → slice_get (enumerate_from n xs) k ≡ option_map (λ x. (n + k, x)) (slice_get xs k)
slice_get-numbered n [] k = refl
slice_get-numbered n (x ∷ xs) zero = let same : n ≡ n + 0 = omega arith in ap (λ m. Some (m, x)) same
slice_get-numbered n (x ∷ xs) (suc k) =
    let same : n + 1 + k ≡ n + suc k = omega arith in
    slice_get-numbered (n + 1) xs k ∙ ap (λ m. option_map (λ y. (m, y)) (slice_get xs k)) same

option_map-twice : {X Y Z : Type 0} (g : Y → Z) (f : X → Y) (o : Option X) → option_map g (option_map f o) ≡ option_map (λ x. g (f x)) o
option_map-twice g f None = refl
option_map-twice g f (Some x) = refl

pub slice_get-around : (hold : Layout) (containers : List Placed) (q : ℕ)
    → slice_get (positions_around hold containers) q ≡ option_map (λ p. position_around hold containers (q, p)) (slice_get hold.positions q)
slice_get-around hold containers q =
    let around : ℕ × Position → Position = position_around hold containers in
    let same : 0 + q ≡ q = omega arith in
    slice_get-map around (enumerate_from 0 hold.positions) q
    ∙ ap (option_map around) (slice_get-numbered 0 hold.positions q)
    ∙ option_map-twice around (λ p. (0 + q, p)) (slice_get hold.positions q)
    ∙ ap (λ m. option_map (λ p. around (m, p)) (slice_get hold.positions q)) same

pub length-around : (hold : Layout) (containers : List Placed) → length (positions_around hold containers) ≡ length hold.positions
length-around hold containers = length-map (enumerate_from 0 hold.positions) (position_around hold containers) ∙ length-enumerate_from 0 hold.positions

pub get_or-around : (hold : Layout) (containers : List Placed) (k : ℕ) (d : Position) → k < length hold.positions
    → get_or (positions_around hold containers) k d ≡ position_around hold containers (k, get_or hold.positions k d)
get_or-around hold containers k d within =
    get_or_from_slice_get (positions_around hold containers) k (position_around hold containers (k, get_or hold.positions k d)) d
    (slice_get-around hold containers k ∙ ap (option_map (λ p. position_around hold containers (k, p))) (slice_get-get_or hold.positions k d within))

-- what holds of each position, and of each that is closed, holds of each around
pub All-around : (P : Position → Type 0) → ((p : Position) → P p → P (closed p)) → (hold : Layout) (containers : List Placed) → All P hold.positions → All P (positions_around hold containers)
All-around P keeps hold containers all k d within =
    let inside : k < length hold.positions = omega (arith, length-around hold containers) in
    subst P (sym (get_or-around hold containers k d inside)) (either (is_closed hold containers k) (get_or hold.positions k d) (all k d inside))
  where
    either : (is : Bool) (p : Position) → P p → P (if is then closed p else p)
    either true p holds = keeps p holds
    either false p holds = holds

pub name-around : (hold : Layout) (containers : List Placed) (k : ℕ) (d : Position) → k < length hold.positions → (get_or (positions_around hold containers) k d).name ≡ (get_or hold.positions k d).name
name-around hold containers k d within =
    ap (λ (p : Position). p.name) (get_or-around hold containers k d within) ∙ kept (is_closed hold containers k) (get_or hold.positions k d)
  where
    kept : (is : Bool) (p : Position) → (if is then closed p else p).name ≡ p.name
    kept true p = refl
    kept false p = refl

pub influence-around : (hold : Layout) (containers : List Placed) (q : ℕ) → influence_at (hold_around hold containers) q ≡ influence_at hold q
influence-around hold containers q =
    ap (λ o. option_map_or (λ (p : Position). p.influence) o (pos 0)) (slice_get-around hold containers q)
    ∙ kept (is_closed hold containers q) (slice_get hold.positions q)
  where
    kept : (is : Bool) (o : Option Position) → option_map_or (λ (p : Position). p.influence) (option_map (λ p. if is then closed p else p) o) (pos 0) ≡ option_map_or (λ (p : Position). p.influence) o (pos 0)
    kept is None = refl
    kept true (Some p) = refl
    kept false (Some p) = refl

-- an open position is what it was
pub bulk-around : (hold : Layout) (containers : List Placed) (q : ℕ) → is_closed hold containers q ≡ false → is_bulk (positions_around hold containers) q ≡ is_bulk hold.positions q
bulk-around hold containers q is_open =
    ap (λ o. option_map_or (λ (p : Position). p.bulk) o false) (slice_get-around hold containers q)
    ∙ kept (is_closed hold containers q) (slice_get hold.positions q) is_open
  where
    kept : (is : Bool) (o : Option Position) → is ≡ false → option_map_or (λ (p : Position). p.bulk) (option_map (λ p. if is then closed p else p) o) false ≡ option_map_or (λ (p : Position). p.bulk) o false
    kept is None is_open = refl
    kept is (Some p) is_open = rw is_open refl

-- a position around what stays accepts a container exactly where the position does and is open
pub accepted-around : (hold : Layout) (containers : List Placed) (p : Placed) → IsAccepted (hold_around hold containers) p ↔ (IsAccepted hold p × (is_closed hold containers p.1 ≡ false))
accepted-around hold containers p =
    let Takes : Option Position → Type 0 = λ o. IsSomeAnd o (Accepts p.0) in
    let is = slice_get-around hold containers p.1 in
    let same = kept p.0 (is_closed hold containers p.1) (slice_get hold.positions p.1) in
    (λ accepted. same.0 (subst Takes is accepted), λ accepted. subst Takes (sym is) (same.1 accepted))
  where
    kept : (item : Item) (is : Bool) (o : Option Position) → IsSomeAnd (option_map (λ p. if is then closed p else p) o) (Accepts item) ↔ (IsSomeAnd o (Accepts item) × (is ≡ false))
    kept item is None = (λ none. absurd none, λ none. absurd none.0)
    kept item true (Some p) = (λ any. absurd (omega (arith, any.2)), λ both. absurd (false≢true (sym both.1)))
    kept item false (Some p) = (λ any. (any, refl), λ both. both.0)

-- One position more -----------------------------------------------------------------------------

numbered-more : {X : Type 0} (n : ℕ) (xs : List X) (x : X) → enumerate_from n (xs ++ x ∷ []) ≡ enumerate_from n xs ++ (n + length xs, x) ∷ []
numbered-more n [] x = rw add-zero refl
numbered-more n (y ∷ xs) x =
    let at : n + 1 + length xs ≡ n + suc (length xs) = omega arith in
    ap (λ zs. (n, y) ∷ zs) (numbered-more (n + 1) xs x ∙ ap (λ k. enumerate_from (n + 1) xs ++ (k, x) ∷ []) at)

-- what a function tells of the first elements with their numbers, and of one more
pub told-more : {X Y : Type 0} (f : ℕ × X → Y) (xs : List X) (i : ℕ) (x : X) (told : List Y) → i < length xs → x ≡ get_or xs i x → told ≡ map f (enumerate_from 0 (take i xs))
    → told ++ f (i, x) ∷ [] ≡ map f (enumerate_from 0 (take (i + 1) xs))
told-more f xs i x told within here is =
    let counted : 0 + length (take i xs) ≡ i = omega (arith, length-take i xs) in
    let longer : take (i + 1) xs ≡ take i xs ++ x ∷ [] = take_more xs i x within ∙ ap (λ y. take i xs ++ y ∷ []) (sym here) in
    sym (
    ap (λ ys. map f (enumerate_from 0 ys)) longer
    ∙ ap (map f) (numbered-more 0 (take i xs) x ∙ ap (λ k. enumerate_from 0 (take i xs) ++ (k, x) ∷ []) counted)
    ∙ map-append f (enumerate_from 0 (take i xs)) ((i, x) ∷ [])
    ∙ ap (λ ys. ys ++ f (i, x) ∷ []) (sym is))

-- Excluding pairs -------------------------------------------------------------------------------

open-ends : (hold : Layout) (containers : List Placed) (x y a b : ℕ) → x ≡ a → y ≡ b → is_closed hold containers a ≡ false → is_closed hold containers b ≡ false
    → (not (is_closed hold containers x) && not (is_closed hold containers y)) ≡ true
open-ends hold containers x y a b one other open_one open_other = rw (one, other, open_one, open_other) refl

-- two open positions exclude each other around what stays exactly where they do
pub exclude-around : (hold : Layout) (containers : List Placed) (a b : ℕ) → is_closed hold containers a ≡ false → is_closed hold containers b ≡ false
    → Exclude (hold_around hold containers) a b ↔ Exclude hold a b
exclude-around hold containers a b first second =
    let is : exclude (hold_around hold containers) a b ≡ exclude hold a b = list_any-filter joins (is_open_pair hold containers) opened hold.excludes in
    let around = exclude-Decides (hold_around hold containers) a b in
    let before = exclude-Decides hold a b in
    (λ pair. before.0 (sym is ∙ around.1 pair), λ pair. around.0 (is ∙ before.1 pair))
  where
    joins : ℕ × ℕ → Bool
    joins pair = ((pair.0 == a) && (pair.1 == b)) || ((pair.0 == b) && (pair.1 == a))

    opened : (pair : ℕ × ℕ) → joins pair ≡ true → is_open_pair hold containers pair ≡ true
    opened pair is =
        let decides = Decides-or _ _ (Decides-and _ _ (Decides-eqb pair.0 a) (Decides-eqb pair.1 b)) (Decides-and _ _ (Decides-eqb pair.0 b) (Decides-eqb pair.1 a)) in
        ⊎_elim
        (λ straight. open-ends hold containers pair.0 pair.1 a b straight.0 straight.1 first second)
        (λ across. open-ends hold containers pair.0 pair.1 b a across.0 across.1 second first)
        (decides.0 is)
