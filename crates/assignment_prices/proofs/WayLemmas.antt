-- ways of a prefix and of those that are longer, and what hold indices they allow
use Rattle.std.proofs.Common.{refl, ◌≡◌, ◌≢◌, ℕ, ℤ, pos, ◌+ℤ◌, List, [], ◌∷◌, ◌++◌, length, zip, Some, sym, ap, ◌∙◌, subst, arith, append_assoc, append-nil}
use Rattle.std.proofs.lemmas.Int.{ints}
use Rattle.std.proofs.lemmas.List.{drop_all}
use Rattle.std.proofs.lemmas.List.Elements.{All-nil, All-cons, All-contains, Contains-push}
use Rattle.std.proofs.lemmas.List.Kept.{AllPairs-cons}
use Rattle.std.specs.Prelude.{All, IsSomeAnd, slice_get}
use Rattle.std.specs.List.{AllZip}
use Rattle.hold_parts.specs.declared.parts.Item.{Item}
use Rattle.hold_limits.specs.Problem.{Problem}
use Rattle.hold_limits.specs.BranchOrder.{ordered}
use Rattle.hold_limits.specs.Placement.{Placed, placed_moment, IsSound, hold_index, IsAdmissible}
use Rattle.hold_limits.specs.Twins.{IsRising}
use Rattle.hold_limits.proofs.BranchOrderLemmas.{length-ordered}
use Rattle.hold_limits.proofs.SoundLemmas.{IsSound-front}
use Rattle.hold_reach.specs.Reach.{remaining, IsOpen, reach}
use Rattle.hold_reach.specs.Choices.{IsChoice, Allows, LiesIn}
use Rattle.hold_reach.proofs.ChoiceLemmas.{reach-is}
use Rattle.hold_reach.proofs.ViableLemmas.{IsRising-front, IsRising-last, remaining-next, still_open, free_before, hold_index-next, next-of, spans-lie}
use Rattle.assignment.specs.Ways.{cost_of}
use Rattle.assignment_prices.specs.TightReach.{IsWayFrom, moment_of_way, AllowsTightly, IsTightReach}

-- Two lists side by side ------------------------------------------------------------------------

pub AllZip-weaker : {A B : Type 0} (R S : A → B → Type 0) → ((a : A) (b : B) → R a b → S a b) → (xs : List A) (bs : List B) → AllZip R xs bs → AllZip S xs bs
AllZip-weaker R S weaker [] [] each = tt
AllZip-weaker R S weaker [] (b ∷ bs) each = absurd each
AllZip-weaker R S weaker (a ∷ xs) [] each = absurd each
AllZip-weaker R S weaker (a ∷ xs) (b ∷ bs) each = (weaker a b each.0, AllZip-weaker R S weaker xs bs each.1)

-- what each pair has for its second part alone holds of all second parts
pub all-second : {A B : Type 0} (R : A → B → Type 0) (P : B → Type 0) → ((a : A) (b : B) → R a b → P b) → (xs : List A) (bs : List B) → AllZip R xs bs → All P bs
all-second R P has [] [] each = All-nil P
all-second R P has [] (b ∷ bs) each = absurd each
all-second R P has (a ∷ xs) [] each = absurd each
all-second R P has (a ∷ xs) (b ∷ bs) each = All-cons P b bs (has a b each.0) (all-second R P has xs bs each.1)

-- One position more -----------------------------------------------------------------------------

-- a way of the longer prefix, with the position that it has more, is a way of the prefix
way-shorter : (t : Problem) (prefix : List ℕ) (q : ℕ) (way : List ℕ) (item : Item) → slice_get (ordered t.items) (length prefix) ≡ Some item
    → IsSound t (prefix ++ q ∷ []) → IsRising t (prefix ++ q ∷ []) → IsWayFrom t (prefix ++ q ∷ []) way → IsWayFrom t prefix (q ∷ way)
way-shorter t prefix q way item next sound rising is =
    let left = remaining-next t prefix item q next in
    let here : IsOpen t prefix item q = record { free = free_before t prefix item q next sound; above_twins = IsRising-last t prefix item q next rising } in
    let rest = remaining t (prefix ++ q ∷ []) in
    let each : AllZip (IsOpen t prefix) rest way = AllZip-weaker (IsOpen t (prefix ++ q ∷ [])) (IsOpen t prefix) (λ a p. still_open t prefix item q next (a, p)) rest way is.each in
    let other : All (λ p. q ≢ p) way = all-second (IsOpen t (prefix ++ q ∷ [])) (λ p. q ≢ p) (λ a p may. last-unused t prefix q a p may) rest way is.each in
    record {
      each = subst (λ items. AllZip (IsOpen t prefix) items (q ∷ way)) (sym left) (here, each);
      apart = AllPairs-cons (λ p r. p ≢ r) q way other is.apart;
    }
  where
    last-unused : (t : Problem) (prefix : List ℕ) (q : ℕ) (a : Item) (p : ℕ) → IsOpen t (prefix ++ q ∷ []) a p → q ≢ p
    last-unused t prefix q a p may = All-contains (λ used. used ≢ p) (prefix ++ q ∷ []) q may.free.unused (Contains-push prefix q)

-- what the longer prefix allows, the prefix allows by a way that gives its next container the number
pub allows-with : (t : Problem) (prefix : List ℕ) (q : ℕ) (index : ℤ) → IsSound t (prefix ++ q ∷ []) → IsRising t (prefix ++ q ∷ []) → AllowsTightly t (prefix ++ q ∷ []) index
    → (rest : List ℕ) × IsWayFrom t prefix (q ∷ rest) × (index ≡ hold_index t prefix +ℤ moment_of_way t prefix (q ∷ rest))
allows-with t prefix q index sound rising given =
    let next = next-of t prefix q sound in
    let way = given.0 in
    let left = remaining-next t prefix next.0 q next.1 in
    let chosen : moment_of_way t prefix (q ∷ way) ≡ placed_moment t.hold (next.0, q) +ℤ moment_of_way t (prefix ++ q ∷ []) way =
    ap (λ items. cost_of (placed_moment t.hold) items (q ∷ way)) left in
    (way, way-shorter t prefix q way next.0 next.1 sound rising given.1, same_sum _ _ _ _ _ _ given.2 (hold_index-next t prefix next.0 q next.1) chosen)
  where
    same_sum : (sum start longer here rest chosen : ℤ) → sum ≡ longer +ℤ rest → longer ≡ start +ℤ here → chosen ≡ here +ℤ rest → sum ≡ start +ℤ chosen
    same_sum sum start longer here rest chosen is more all = omega (arith, ints)

pub allows-shorter : (t : Problem) (prefix : List ℕ) (q : ℕ) (index : ℤ) → IsSound t (prefix ++ q ∷ []) → IsRising t (prefix ++ q ∷ []) → AllowsTightly t (prefix ++ q ∷ []) index → AllowsTightly t prefix index
allows-shorter t prefix q index sound rising given = let way = allows-with t prefix q index sound rising given in (q ∷ way.0, way.1, way.2)

-- Complete prefixes -----------------------------------------------------------------------------

none-remain : (t : Problem) (path : List ℕ) → length path ≡ length t.items → remaining t path ≡ []
none-remain t path complete = drop_all (length path) (ordered t.items) (omega (arith, complete, length-ordered t.items))

plus-none : (x : ℤ) → x ≡ x +ℤ pos 0
plus-none x = omega (arith, ints)

allows-own : (t : Problem) (path : List ℕ) → length path ≡ length t.items → AllowsTightly t path (hold_index t path)
allows-own t path complete =
    let none = none-remain t path complete in (
      [],
      record { each = subst (λ items. AllZip (IsOpen t path) items []) (sym none) tt; apart = λ i j d before within. absurd (omega arith) },
      subst (λ items. hold_index t path ≡ hold_index t path +ℤ cost_of (placed_moment t.hold) items []) (sym none) (plus-none (hold_index t path)),
    )

only-own : (t : Problem) (path : List ℕ) → length path ≡ length t.items → (index : ℤ) → AllowsTightly t path index → index ≡ hold_index t path
only-own t path complete index given =
    let none = none-remain t path complete in
    let no_moment : moment_of_way t path given.0 ≡ pos 0 = ap (λ items. cost_of (placed_moment t.hold) items given.0) none in
    omega (arith, ints, given.2, no_moment)

-- a complete prefix reaches its own hold index alone
pub complete-tight : (t : Problem) (path : List ℕ) → length path ≡ length t.items → IsTightReach t path (Some (hold_index t path, hold_index t path))
complete-tight t path complete = record {
  least = allows-own t path complete;
  greatest = allows-own t path complete;
  between = λ index given.
      let is = only-own t path complete index given in
      (omega (arith, ints, is), omega (arith, ints, is));
}

-- Prefixes of paths -----------------------------------------------------------------------------

-- each front of a rising admissible path allows the hold index of the path
pub allows-path : (t : Problem) (front rest : List ℕ) → IsAdmissible t (front ++ rest) → IsRising t (front ++ rest) → AllowsTightly t front (hold_index t (front ++ rest))
allows-path t front [] admissible rising =
    let all : front ++ [] ≡ front = append-nil front in
    subst (λ path. AllowsTightly t front (hold_index t path)) (sym all) (allows-own t front (sym (ap length all) ∙ admissible.complete))
allows-path t front (q ∷ rest) admissible rising =
    let all : (front ++ q ∷ []) ++ rest ≡ front ++ q ∷ rest = append_assoc front (q ∷ []) rest in
    let admissible_all : IsAdmissible t ((front ++ q ∷ []) ++ rest) = subst (IsAdmissible t) (sym all) admissible in
    let rising_all : IsRising t ((front ++ q ∷ []) ++ rest) = subst (λ p. IsRising t p) (sym all) rising in
    let below = allows-path t (front ++ q ∷ []) rest admissible_all rising_all in
    subst (λ path. AllowsTightly t front (hold_index t path)) all
    (allows-shorter t front q (hold_index t ((front ++ q ∷ []) ++ rest))
    (IsSound-front t (front ++ q ∷ []) rest admissible_all.sound) (IsRising-front t (front ++ q ∷ []) rest rising_all) below)

-- The reach -------------------------------------------------------------------------------------

-- a way is a choice
choice-of : (t : Problem) (prefix way : List ℕ) → IsWayFrom t prefix way → IsChoice t prefix (IsOpen t prefix) way
choice-of t prefix way is = record { one_each = long (remaining t prefix) way is.each; each = pairs (remaining t prefix) way is.each }
  where
    long : (xs : List Item) (ps : List ℕ) → AllZip (IsOpen t prefix) xs ps → length ps ≡ length xs
    long [] [] each = refl
    long [] (p ∷ ps) each = absurd each
    long (a ∷ xs) [] each = absurd each
    long (a ∷ xs) (p ∷ ps) each = omega (arith, long xs ps each.1)

    pairs : (xs : List Item) (ps : List ℕ) → AllZip (IsOpen t prefix) xs ps → All (λ (p : Placed). IsOpen t prefix p.0 p.1) (zip xs ps)
    pairs [] [] each = All-nil (λ (p : Placed). IsOpen t prefix p.0 p.1)
    pairs [] (p ∷ ps) each = absurd each
    pairs (a ∷ xs) [] each = absurd each
    pairs (a ∷ xs) (p ∷ ps) each = All-cons (λ (s : Placed). IsOpen t prefix s.0 s.1) (a, p) (zip xs ps) each.0 (pairs xs ps each.1)

-- the tight reach lies in the reach
pub tight-lies : (t : Problem) (prefix : List ℕ) (tight : ℤ × ℤ) → IsTightReach t prefix (Some tight) → IsSomeAnd (reach t prefix) (LiesIn tight)
tight-lies t prefix tight is = spans-lie (reach t prefix) (Allows t prefix) (AllowsTightly t prefix) tight
    (λ index given. (given.0, choice-of t prefix given.0 given.1, given.2)) is (reach-is t prefix)
