-- what holds of the fronts of a sound prefix
use Rattle.std.proofs.Common.{refl, ◌≡◌, ◌≢◌, ⊎_elim, ℕ, ◌+◌, ◌<◌, ◌≤◌, Bool, List, [], ◌∷◌, ◌++◌, length, drop, zip, get_or, sym, ap, ◌∙◌, subst, arith, append_assoc, append-nil, length-append, if◌then◌else◌}
use Rattle.std.proofs.lemmas.List.{get_or_append_left}
use Rattle.std.proofs.lemmas.List.Elements.{recursion_from_All, All-from_recursion, All-weaker}
use Rattle.std.proofs.lemmas.List.Sums.{sum_by-append}
use Rattle.std.proofs.lemmas.Option.{slice_get_cases}
use Rattle.std.specs.Prelude.{All, AllPairs}
use Rattle.std.specs.List.{AllByRecursion}
use Rattle.base_words.specs.Lists.{Extends}
use Rattle.hold_parts.specs.declared.parts.Combined.{Combined}
use Rattle.hold_parts.specs.declared.parts.Cumulative.{Cumulative}
use Rattle.hold_limits.specs.Layout.{Layout}
use Rattle.hold_limits.specs.Problem.{Problem}
use Rattle.hold_limits.specs.BranchOrder.{ordered}
use Rattle.hold_limits.specs.Placement.{Placed, placed, IsAccepted, Exclude, placed_load, load_of, IsSound}
use Rattle.hold_parts.specs.Limits.{is_listed, is_counted}
use Rattle.hold_limits.proofs.BranchOrderLemmas.{length-ordered}

-- Fronts of lists -------------------------------------------------------------------------------

pub zip-append : {X Y : Type 0} (xs : List X) (front rest : List Y) → zip xs (front ++ rest) ≡ zip xs front ++ zip (drop (length front) xs) rest
zip-append xs [] rest = zip_front xs rest
  where
    zip_front : {X Y : Type 0} (xs : List X) (rest : List Y) → zip xs rest ≡ zip xs [] ++ zip xs rest
    zip_front [] rest = refl
    zip_front (x ∷ xs) rest = refl
zip-append [] (y ∷ front) rest = refl
zip-append (x ∷ xs) (y ∷ front) rest = ap (λ zs. (x, y) ∷ zs) (zip-append xs front rest)

pub All-front : {X : Type 0} (P : X → Type 0) (front rest : List X) → All P (front ++ rest) → All P front
All-front P front rest all k d within = subst P (get_or_append_left front rest d k within) (all k d (omega (arith, length-append front rest)))

pub AllPairs-front : {X : Type 0} (R : X → X → Type 0) (front rest : List X) → AllPairs R (front ++ rest) → AllPairs R front
AllPairs-front R front rest all i j d before within =
    let first = get_or_append_left front rest d i (omega arith) in
    let second = get_or_append_left front rest d j within in
    subst (λ x. R x (get_or front j d)) first (subst (R (get_or (front ++ rest) i d)) second (all i j d before (omega (arith, length-append front rest))))

-- Fronts of prefixes ----------------------------------------------------------------------------

pub load_of-front : (is_in : ℕ → Bool) (t : Problem) (front rest : List ℕ) → load_of is_in t front ≤ load_of is_in t (front ++ rest)
load_of-front is_in t front rest =
    let more : List Placed = zip (drop (length front) (ordered t.items)) rest in
    let mass : Placed → ℕ = λ p. if is_in p.1 then p.0.mass.0 else 0 in
    let split : placed_load is_in (placed t (front ++ rest)) ≡ placed_load is_in (placed t front) + placed_load is_in more =
    ap (placed_load is_in) (zip-append (ordered t.items) front rest) ∙ sum_by-append mass (placed t front) more in
    omega (arith, split)

-- a front of a sound prefix is sound
pub IsSound-front : (t : Problem) (front rest : List ℕ) → IsSound t (front ++ rest) → IsSound t front
IsSound-front t front rest sound = record {
  short = omega (arith, length-append front rest, sound.short);
  accepted = All-front (IsAccepted t.hold) (placed t front) (zip (drop (length front) (ordered t.items)) rest) (subst (All (IsAccepted t.hold)) (zip-append (ordered t.items) front rest) sound.accepted);
  apart = AllPairs-front (λ a b. a ≢ b) front rest sound.apart;
  compatible = AllPairs-front (λ a b. Exclude t.hold a b → ⊥) front rest sound.compatible;
  combined = All-weaker
      (λ (c : Combined). load_of (is_listed c.places) t (front ++ rest) ≤ c.most.0)
      (λ (c : Combined). load_of (is_listed c.places) t front ≤ c.most.0)
      (λ c within. omega (arith, load_of-front (is_listed c.places) t front rest))
      t.hold.combined sound.combined;
  cumulative = All-weaker
      (λ (c : Cumulative). load_of (is_counted c) t (front ++ rest) ≤ c.most.0)
      (λ (c : Cumulative). load_of (is_counted c) t front ≤ c.most.0)
      (λ c within. omega (arith, load_of-front (is_counted c) t front rest))
      t.hold.cumulative sound.cumulative;
}

pub IsSound-extends : (t : Problem) (front whole : List ℕ) → Extends front whole → IsSound t whole → IsSound t front
IsSound-extends t front whole extends sound = IsSound-front t front extends.0 (subst (IsSound t) extends.1 sound)

-- Next numbers ----------------------------------------------------------------------------------

-- a list that extends a shorter one has a next number after it
pub Extends-next : (front whole : List ℕ) → Extends front whole → length front < length whole → (q : ℕ) × Extends (front ++ q ∷ []) whole
Extends-next front whole extends shorter = next extends.0 extends.1
  where
    next : (rest : List ℕ) → whole ≡ front ++ rest → (q : ℕ) × Extends (front ++ q ∷ []) whole
    next [] is = absurd (omega (arith, ap length is, length-append front []))
    next (q ∷ rest) is = (q, (rest, is ∙ sym (append_assoc front (q ∷ []) rest)))

-- the next number of a list that extends a longer one
pub Extends-shorter : (front whole : List ℕ) (q : ℕ) → Extends (front ++ q ∷ []) whole → Extends front whole
Extends-shorter front whole q extends = (q ∷ extends.0, extends.1 ∙ append_assoc front (q ∷ []) extends.0)

-- a list that extends one of its own length is that list
pub Extends-whole : (front whole : List ℕ) → Extends front whole → length whole ≤ length front → whole ≡ front
Extends-whole front whole extends long = none extends.0 extends.1
  where
    none : (rest : List ℕ) → whole ≡ front ++ rest → whole ≡ front
    none [] is = is ∙ append-nil front
    none (q ∷ rest) is = absurd (omega (arith, ap length is, length-append front (q ∷ rest)))

-- Numbers of positions --------------------------------------------------------------------------

pub accepted_within : (hold : Layout) (p : Placed) → IsAccepted hold p → p.1 < length hold.positions
accepted_within hold p accepted = ⊎_elim
    (λ here. here.1)
    (λ past. absurd (rw past.1 at accepted))
    (slice_get_cases hold.positions p.1).1

numbers_within : {X : Type 0} (P : X × ℕ → Type 0) (Q : ℕ → Type 0) (each : (p : X × ℕ) → P p → Q p.1) (xs : List X) (ys : List ℕ) → length ys ≤ length xs → AllByRecursion P (zip xs ys) → AllByRecursion Q ys
numbers_within P Q each xs [] short all = tt
numbers_within P Q each [] (y ∷ ys) short all = absurd (omega arith)
numbers_within P Q each (x ∷ xs) (y ∷ ys) short all = (each (x, y) all.0, numbers_within P Q each xs ys (omega arith) all.1)

-- the numbers of a sound prefix are those of positions
pub IsSound-within : (t : Problem) (prefix : List ℕ) → IsSound t prefix → All (λ q. q < length t.hold.positions) prefix
IsSound-within t prefix sound =
    let short : length prefix ≤ length (ordered t.items) = omega (arith, length-ordered t.items, sound.short) in
    All-from_recursion (λ q. q < length t.hold.positions) prefix
    (numbers_within (IsAccepted t.hold) (λ q. q < length t.hold.positions) (accepted_within t.hold) (ordered t.items) prefix short
    (recursion_from_All (IsAccepted t.hold) (placed t prefix) sound.accepted))
