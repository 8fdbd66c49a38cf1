-- what placed containers close to their twins, with one container more and back
use Rattle.std.proofs.Common.{◌≡◌, ◌≢◌, ◌⊎◌, ⊎_elim, inl, inr, ℕ, ◌+◌, ◌<◌, ◌≤◌, Bool, true, false, ◌&&◌, ◌||◌, nat_le, List, [], ◌∷◌, ◌++◌, length, get_or, set, take, replicate, Option, Some, refl, ap, ap₂, sym, subst, ◌∙◌, arith, length-append, get_or-set_same, get_or-set_other}
use Rattle.std.proofs.Math.Nat.{eq-or-lt_of_le}
use Rattle.std.proofs.lemmas.Bool.{cases_Bool, false≢true}
use Rattle.std.proofs.lemmas.Bool.Decides.{nat_tests, eqb_tells}
use Rattle.std.proofs.lemmas.List.{take_all, take-append-le, length-replicate}
use Rattle.std.proofs.lemmas.List.Folds.{list_any-append, list_any_none}
use Rattle.std.proofs.lemmas.List.Sums.{passes_at_first, fails_before_first}
use Rattle.std.proofs.lemmas.Option.{slice_get_cases, slice_get_within, get_or_from_slice_get}
use Rattle.std.proofs.lemmas.List.Elements.{All-replicate, All-weaker}
use Rattle.std.specs.Prelude.{slice_get, All}
use Rattle.std.specs.List.{list_any, position_or_len}
use Rattle.hold_parts.specs.declared.parts.Item.{Item}
use Rattle.hold_parts.specs.Twins.{AreTwins, are_twins}
use Rattle.hold_limits.specs.Problem.{Problem}
use Rattle.hold_limits.specs.BranchOrder.{ordered}
use Rattle.hold_limits.specs.Placement.{Placed, placed, IsAccepted, IsSound}
use Rattle.hold_limits.proofs.BranchOrderLemmas.{length-ordered}
use Rattle.hold_limits.proofs.SoundLemmas.{accepted_within}
use Rattle.hold_limits.proofs.TwinLemmas.{are_twins-Decides, AreTwins-sym, AreTwins-trans}
use Rattle.hold_reach.specs.Reach.{falls}
use Rattle.hold_reach.proofs.RuleLemmas.{placed-push, zip-nil, false_where_not}
use Rattle.hold_partial.specs.declared.closed.Closed.{Closed}
use Rattle.position_set.specs.declared.set.PositionSet.{PositionSet}
use Rattle.hold_partial.specs.Arrangement.{Ranked, at_rank}
use Rattle.hold_partial.specs.Kept.{AreClosed}
use Rattle.position_set.specs.Sets.{has, Stands}
use Rattle.hold_limits.specs.Twins.{first_twin}
use Rattle.hold_partial.proofs.LevelSteps.{at_rank-or}
use Rattle.position_set.proofs.SetLemmas.{lt-or-le}

-- Classes of twins ------------------------------------------------------------------------------

twins-itself : (item : Item) → are_twins item item ≡ true
twins-itself item = (are_twins-Decides item item).1 (refl, refl)

-- twins have the same twins
twins-of : (a b other : Item) → AreTwins a b → are_twins other a ≡ are_twins other b
twins-of a b other twins = ⊎_elim
    (λ (is : are_twins other b ≡ true).
    let also : are_twins other a ≡ true = (are_twins-Decides other a).1 (AreTwins-trans other b a ((are_twins-Decides other b).0 is) (AreTwins-sym a b twins)) in
    also ∙ sym is)
    (λ (not : are_twins other b ≡ false).
    let neither : are_twins other a ≡ false = false_where_not _ (are_twins-Decides other a)
    (λ is. absurd (false≢true (sym not ∙ (are_twins-Decides other b).1 (AreTwins-trans other a b is twins)))) in
    neither ∙ sym not)
    (cases_Bool (are_twins other b))

first-same : (p q : Item → Bool) → ((x : Item) → p x ≡ q x) → (xs : List Item) → position_or_len p xs ≡ position_or_len q xs
first-same p q same [] = refl
first-same p q same (x ∷ xs) = ⊎_elim
    (λ (here : q x ≡ true). rw (same x, here) refl)
    (λ (not : q x ≡ false). rw (same x, not) (ap (λ n. 1 + n) (first-same p q same xs)))
    (cases_Bool (q x))

pub class-of_twins : (t : Problem) (a b : Item) → AreTwins a b → first_twin t a ≡ first_twin t b
class-of_twins t a b twins = first-same (λ other. are_twins other a) (λ other. are_twins other b) (λ other. twins-of a b other twins) (ordered t.items)

first-within : (p : Item → Bool) (xs : List Item) (k : ℕ) (d : Item) → k < length xs → p (get_or xs k d) ≡ true → position_or_len p xs < length xs
first-within p xs k d within passes = ⊎_elim
    (λ (less : k < position_or_len p xs). absurd (false≢true (sym (fails_before_first p xs k d less) ∙ passes)))
    (λ (from : position_or_len p xs ≤ k). omega (arith, from, within))
    (lt-or-le k (position_or_len p xs))

decide : (a b : ℕ) → (a ≡ b) ⊎ (a ≢ b)
decide a b = ⊎_elim (λ same. inl same.1) (λ apart. inr apart.1) (eqb_tells a b)

-- the class of a container of the task is a rank
pub class-within : (t : Problem) (rank : ℕ) (item : Item) → slice_get (ordered t.items) rank ≡ Some item → first_twin t item < length t.items
class-within t rank item there =
    let within : rank < length (ordered t.items) = slice_get_within (ordered t.items) rank item there in
    let here : get_or (ordered t.items) rank item ≡ item = get_or_from_slice_get (ordered t.items) rank item item there in
    let found = first-within (λ other. are_twins other item) (ordered t.items) rank item within (rw here (twins-itself item)) in
    omega (arith, length-ordered t.items)

-- containers of one class are twins
pub twins-of_class : (t : Problem) (rank : ℕ) (a b : Item) → slice_get (ordered t.items) rank ≡ Some a → first_twin t a ≡ first_twin t b → AreTwins a b
twins-of_class t rank a b there same =
    let below : first_twin t a < length (ordered t.items) = omega (arith, class-within t rank a there, length-ordered t.items) in
    let first : Item = get_or (ordered t.items) (first_twin t a) a in
    let of_a : are_twins first a ≡ true = passes_at_first (λ other. are_twins other a) (ordered t.items) a below in
    let of_b : are_twins first b ≡ true = rw (← same) at (passes_at_first (λ other. are_twins other b) (ordered t.items) a (omega (arith, below, same))) in
    AreTwins-trans a first b (AreTwins-sym first a ((are_twins-Decides first a).0 of_a)) ((are_twins-Decides first b).0 of_b)

-- Falling positions -----------------------------------------------------------------------------

-- the same positions fall for twins
any-same : (p q : Placed → Bool) → ((x : Placed) → p x ≡ q x) → (xs : List Placed) → list_any p xs ≡ list_any q xs
any-same p q same [] = refl
any-same p q same (x ∷ xs) = ap₂ ◌||◌ (same x) (any-same p q same xs)

pub falls-twins : (t : Problem) (prefix : List ℕ) (a b : Item) (q : ℕ) → AreTwins a b → falls t prefix a q ≡ falls t prefix b q
falls-twins t prefix a b q twins =
    any-same (λ (p : Placed). are_twins p.0 a && nat_le q p.1) (λ (p : Placed). are_twins p.0 b && nat_le q p.1)
    (λ p. ap (λ is. is && nat_le q p.1) (twins-of a b p.0 twins)) (placed t prefix)

or-last : (a b : Bool) → (a || (b || false)) ≡ (a || b)
or-last true b = refl
or-last false true = refl
or-last false false = refl

-- one container more closes positions to its twins
falls-next : (t : Problem) (prefix : List ℕ) (item other : Item) (q a : ℕ) → slice_get (ordered t.items) (length prefix) ≡ Some item
    → falls t (prefix ++ q ∷ []) other a ≡ (falls t prefix other a || (are_twins item other && nat_le a q))
falls-next t prefix item other q a next =
    ap (list_any (λ (p : Placed). are_twins p.0 other && nat_le a p.1)) (placed-push t prefix item q next)
    ∙ list_any-append (λ (p : Placed). are_twins p.0 other && nat_le a p.1) (placed t prefix) ((item, q) ∷ [])
    ∙ or-last (falls t prefix other a) (are_twins item other && nat_le a q)

pub falls-next_twin : (t : Problem) (prefix : List ℕ) (item other : Item) (q a : ℕ) → slice_get (ordered t.items) (length prefix) ≡ Some item → AreTwins item other
    → falls t (prefix ++ q ∷ []) other a ≡ (falls t prefix other a || nat_le a q)
falls-next_twin t prefix item other q a next twins =
    falls-next t prefix item other q a next ∙ ap (λ is. falls t prefix other a || (is && nat_le a q)) ((are_twins-Decides item other).1 twins)

or-false : (a : Bool) → (a || false) ≡ a
or-false true = refl
or-false false = refl

pub falls-next_other : (t : Problem) (prefix : List ℕ) (item other : Item) (q a : ℕ) → slice_get (ordered t.items) (length prefix) ≡ Some item → (AreTwins item other → ⊥)
    → falls t (prefix ++ q ∷ []) other a ≡ falls t prefix other a
falls-next_other t prefix item other q a next apart =
    falls-next t prefix item other q a next
    ∙ ap (λ is. falls t prefix other a || (is && nat_le a q)) (false_where_not _ (are_twins-Decides item other) apart)
    ∙ or-false (falls t prefix other a)

pub at_rank-ext : (f g : ℕ → Bool) (ranks : List Ranked) → ((a : ℕ) → f a ≡ g a) → (r : ℕ) → at_rank f ranks r ≡ at_rank g ranks r
at_rank-ext f g ranks same r = ⊎_elim
    (λ here. rw here.2 (same here.0.1))
    (λ past. rw past.1 refl)
    (slice_get_cases ranks r).1

-- What is closed --------------------------------------------------------------------------------

-- each entry of a table of sets without numbers has none
pub none-in : (sets : List PositionSet) (n : ℕ) (empty : PositionSet) → sets ≡ replicate n empty → ((r : ℕ) → has empty r ≡ false) → (k r : ℕ) (d : PositionSet) → k < n → has (get_or sets k d) r ≡ false
none-in sets n empty same none k r d within =
    let long : length sets ≡ n = ap length same ∙ length-replicate n empty in
    let P : PositionSet → Type 0 = λ set. (r : ℕ) → has set r ≡ false in
    (subst (λ (xs : List PositionSet). All P xs) (sym same) (All-replicate P n empty none)) k d (omega (arith, long)) r

-- nothing is closed before a container is placed
pub closed-none : (t : Problem) (ranks : List Ranked) (closed : Closed) → ((class r : ℕ) (d : PositionSet) → class < 60 → has (get_or closed.to class d) r ≡ false) → length t.items ≤ 60
    → AreClosed t ranks [] closed
closed-none t ranks closed none few = record {
  to = λ k d item there r.
      let below = class-within t k item there in
      none (first_twin t item) r d (omega (arith, below)) ∙ ⊎_elim (λ here. sym (rw (here.2, zip-nil (ordered t.items)) refl)) (λ past. sym (rw past.1 refl)) (slice_get_cases ranks r).1;
  before = λ k d item less there. absurd (omega (arith, less));
}

-- with one container more
pub closed-next : (t : Problem) (ranks : List Ranked) (prefix : List ℕ) (item : Item) (q rank class : ℕ) (closed new : Closed) (place : PositionSet) → slice_get (ordered t.items) (length prefix) ≡ Some item
    → AreClosed t ranks prefix closed → Stands place (at_rank (λ a. nat_le a q) ranks) → rank ≡ length prefix → class ≡ first_twin t item → rank < length closed.before
    → ((d : PositionSet) (r : ℕ) → has (get_or new.to class d) r ≡ (has (get_or closed.to class d) r || has place r))
    → ((k : ℕ) (d : PositionSet) → k ≢ class → get_or new.to k d ≡ get_or closed.to k d)
    → ((d : PositionSet) → new.before ≡ set closed.before rank (get_or closed.to class d))
    → AreClosed t ranks (prefix ++ q ∷ []) new
closed-next t ranks prefix item q rank class closed new place next are stands rank_is class_is room to_class to_others before_is = record {
  to = λ k d other there r. ⊎_elim
      (λ (same : first_twin t item ≡ first_twin t other).
      let twins = twins-of_class t (length prefix) item other next same in
      let same_class : class ≡ first_twin t other = class_is ∙ same in
      let now : has (get_or new.to (first_twin t other) d) r ≡ (has (get_or closed.to (first_twin t other) d) r || has place r) = subst (λ c. has (get_or new.to c d) r ≡ (has (get_or closed.to c d) r || has place r)) same_class (to_class d r) in
      now
      ∙ ap₂ ◌||◌ (are.to k d other there r) (stands r)
      ∙ at_rank-or (falls t prefix other) (λ a. nat_le a q) (falls t (prefix ++ q ∷ []) other) ranks (λ a. falls-next_twin t prefix item other q a next twins) r)
      (λ (apart : first_twin t item ≢ first_twin t other).
      let others : AreTwins item other → ⊥ = λ twins. apart (class-of_twins t item other twins) in
      let not_class : first_twin t other ≢ class = λ is. apart (sym class_is ∙ sym is) in
      ap (λ s. has s r) (to_others (first_twin t other) d not_class)
      ∙ are.to k d other there r
      ∙ at_rank-ext (falls t prefix other) (falls t (prefix ++ q ∷ []) other) ranks (λ a. sym (falls-next_other t prefix item other q a next others)) r)
      (decide (first_twin t item) (first_twin t other));
  before = λ k d other less there r. ⊎_elim
      (λ (same : k ≡ rank).
      let here : get_or new.before k d ≡ get_or closed.to class d = ap₂ (λ (b : List PositionSet) j. get_or b j d) (before_is d) same ∙ get_or-set_same closed.before rank (get_or closed.to class d) d room in
      let front : take k (prefix ++ q ∷ []) ≡ prefix = take-append-le k prefix (q ∷ []) (omega (arith, rank_is)) ∙ take_all k prefix (omega (arith, rank_is)) in
      let this : other ≡ item = one_item (slice_get (ordered t.items) (length prefix)) other item (subst (λ j. slice_get (ordered t.items) j ≡ Some other) (same ∙ rank_is) there) next in
      ap (λ s. has s r) here
      ∙ subst (λ c. has (get_or closed.to c d) r ≡ at_rank (falls t prefix other) ranks r) (ap (first_twin t) this ∙ sym class_is) (are.to k d other there r)
      ∙ ap (λ front. at_rank (falls t front other) ranks r) (sym front))
      (λ (apart : k ≢ rank).
      let earlier : k < length prefix = earlier_than k rank (length prefix) rank_is apart (omega (arith, less, length-append prefix (q ∷ []))) in
      let here : get_or new.before k d ≡ get_or closed.before k d = ap (λ (b : List PositionSet). get_or b k d) (before_is d) ∙ get_or-set_other closed.before rank k (get_or closed.to class d) d apart in
      let front : take k (prefix ++ q ∷ []) ≡ take k prefix = take-append-le k prefix (q ∷ []) (omega arith) in
      ap (λ s. has s r) here ∙ are.before k d other earlier there r ∙ ap (λ front. at_rank (falls t front other) ranks r) (sym front))
      (decide k rank);
}
  where
    one_item : (o : Option Item) (a b : Item) → o ≡ Some a → o ≡ Some b → a ≡ b
    one_item o a b first second = cc

    earlier_than : (k rank n : ℕ) → rank ≡ n → k ≢ rank → k < n + 1 → k < n
    earlier_than k rank n is apart less = ⊎_elim (λ same. absurd (apart (same ∙ sym is))) (λ below. below) (eq-or-lt_of_le (omega arith))

-- with the last container taken off
pub closed-back : (t : Problem) (ranks : List Ranked) (prefix : List ℕ) (item : Item) (q rank class : ℕ) (closed new : Closed) → slice_get (ordered t.items) (length prefix) ≡ Some item
    → AreClosed t ranks (prefix ++ q ∷ []) closed → rank ≡ length prefix → class ≡ first_twin t item → class < length closed.to
    → ((d : PositionSet) → new.to ≡ set closed.to class (get_or closed.before rank d)) → new.before ≡ closed.before
    → AreClosed t ranks prefix new
closed-back t ranks prefix item q rank class closed new next are rank_is class_is room to_is before_is = record {
  to = λ k d other there r. ⊎_elim
      (λ (same : first_twin t item ≡ first_twin t other).
      let twins = twins-of_class t (length prefix) item other next same in
      let here : get_or new.to (first_twin t other) d ≡ get_or closed.before rank d =
      ap₂ (λ (l : List PositionSet) j. get_or l j d) (to_is d) (sym (class_is ∙ same)) ∙ get_or-set_same closed.to class (get_or closed.before rank d) d room in
      let front : take rank (prefix ++ q ∷ []) ≡ prefix = take-append-le rank prefix (q ∷ []) (omega (arith, rank_is)) ∙ take_all rank prefix (omega (arith, rank_is)) in
      let was : has (get_or closed.before rank d) r ≡ at_rank (falls t (take rank (prefix ++ q ∷ [])) item) ranks r =
      are.before rank d item (omega (arith, rank_is, length-append prefix (q ∷ []))) (subst (λ j. slice_get (ordered t.items) j ≡ Some item) (sym rank_is) next) r in
      ap (λ s. has s r) here ∙ was ∙ ap (λ front. at_rank (falls t front item) ranks r) front
      ∙ at_rank-ext (falls t prefix item) (falls t prefix other) ranks (λ a. falls-twins t prefix item other a twins) r)
      (λ (apart : first_twin t item ≢ first_twin t other).
      let others : AreTwins item other → ⊥ = λ twins. apart (class-of_twins t item other twins) in
      let not_class : first_twin t other ≢ class = λ is. apart (sym class_is ∙ sym is) in
      let here : get_or new.to (first_twin t other) d ≡ get_or closed.to (first_twin t other) d =
      ap (λ (l : List PositionSet). get_or l (first_twin t other) d) (to_is d) ∙ get_or-set_other closed.to class (first_twin t other) (get_or closed.before rank d) d not_class in
      ap (λ s. has s r) here
      ∙ are.to k d other there r
      ∙ at_rank-ext (falls t (prefix ++ q ∷ []) other) (falls t prefix other) ranks (λ a. falls-next_other t prefix item other q a next others) r)
      (decide (first_twin t item) (first_twin t other));
  before = λ k d other less there r.
      let front : take k (prefix ++ q ∷ []) ≡ take k prefix = take-append-le k prefix (q ∷ []) (omega arith) in
      ap (λ (b : List PositionSet). has (get_or b k d) r) before_is
      ∙ are.before k d other (omega (arith, less, length-append prefix (q ∷ []))) there r
      ∙ ap (λ front. at_rank (falls t front other) ranks r) front;
}

-- no number of a position that is unknown falls
pub falls-known : (t : Problem) (prefix : List ℕ) (item : Item) (q : ℕ) → IsSound t prefix → length t.hold.positions ≤ q → falls t prefix item q ≡ false
falls-known t prefix item q sound past =
    list_any_none (λ (p : Placed). are_twins p.0 item && nat_le q p.1) (placed t prefix)
    (All-weaker (IsAccepted t.hold) (λ (p : Placed). (are_twins p.0 item && nat_le q p.1) ≡ false)
    (λ p accepted.
    let below : p.1 < length t.hold.positions = accepted_within t.hold p accepted in
    let no : nat_le q p.1 ≡ false = grind (arith, nat_tests) in
    rw no (and-false (are_twins p.0 item)))
    (placed t prefix) sound.accepted)
  where
    and-false : (b : Bool) → (b && false) ≡ false
    and-false true = refl
    and-false false = refl
