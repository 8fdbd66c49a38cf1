-- classes of twins
use Rattle.std.proofs.Common.{◌≡◌, ⊎_elim, ℕ, ◌+◌, ◌<◌, ◌≤◌, Bool, true, false, ◌==◌, List, [], ◌∷◌, length, map, get_or, Some, refl, ap, sym, ◌∙◌, arith}
use Rattle.std.proofs.lemmas.Bool.{cases_Bool, false≢true}
use Rattle.std.proofs.lemmas.Bool.Decides.{eqb_tells}
use Rattle.std.proofs.lemmas.List.Sums.{passes_at_first, fails_before_first}
use Rattle.std.proofs.lemmas.Option.{slice_get_within, get_or_from_slice_get}
use Rattle.std.proofs.lemmas.List.{length-map}
use Rattle.std.specs.Prelude.{slice_get}
use Rattle.std.specs.List.{position_or_len}
use Rattle.hold_parts.specs.declared.parts.Item.{Item}
use Rattle.hold_parts.specs.Twins.{AreTwins, are_twins}
use Rattle.hold_limits.specs.Problem.{Problem}
use Rattle.hold_limits.specs.BranchOrder.{ordered}
use Rattle.hold_limits.proofs.BranchOrderLemmas.{length-ordered}
use Rattle.hold_limits.proofs.TwinLemmas.{are_twins-Decides, AreTwins-sym, AreTwins-trans}
use Rattle.position_set.proofs.SetLemmas.{lt-or-le}
use Rattle.hold_limits.specs.Twins.{first_twin}
use Rattle.hold_choices.proofs.ListLemmas.{map-at}

twins-itself : (item : Item) → are_twins item item ≡ true
twins-itself item = (are_twins-Decides item item).1 (refl, refl)

same-answer : (a b : Bool) → (a ≡ true → b ≡ true) → (b ≡ true → a ≡ true) → a ≡ b
same-answer true b there back = sym (there refl)
same-answer false true there back = back refl
same-answer false false there back = refl

-- twins have the same twins
twins-of : (a b other : Item) → AreTwins a b → are_twins other a ≡ are_twins other b
twins-of a b other twins = same-answer (are_twins other a) (are_twins other b)
    (λ is. (are_twins-Decides other b).1 (AreTwins-trans other a b ((are_twins-Decides other a).0 is) twins))
    (λ is. (are_twins-Decides other a).1 (AreTwins-trans other b a ((are_twins-Decides other b).0 is) (AreTwins-sym a b twins)))

first-same : (p q : Item → Bool) → ((x : Item) → p x ≡ q x) → (xs : List Item) → position_or_len p xs ≡ position_or_len q xs
first-same p q same [] = refl
first-same p q same (x ∷ xs) = ⊎_elim
    (λ (here : q x ≡ true). rw (same x, here) refl)
    (λ (not : q x ≡ false). rw (same x, not) (ap (λ n. 1 + n) (first-same p q same xs)))
    (cases_Bool (q x))

class-of_twins : (t : Problem) (a b : Item) → AreTwins a b → first_twin t a ≡ first_twin t b
class-of_twins t a b twins = first-same (λ other. are_twins other a) (λ other. are_twins other b) (λ other. twins-of a b other twins) (ordered t.items)

first-within : (p : Item → Bool) (xs : List Item) (k : ℕ) (d : Item) → k < length xs → p (get_or xs k d) ≡ true → position_or_len p xs < length xs
first-within p xs k d within passes = ⊎_elim
    (λ (less : k < position_or_len p xs). absurd (false≢true (sym (fails_before_first p xs k d less) ∙ passes)))
    (λ (from : position_or_len p xs ≤ k). omega (arith, from, within))
    (lt-or-le k (position_or_len p xs))

-- the class of a container of the task is a rank
pub class-within : (t : Problem) (rank : ℕ) (item : Item) → slice_get (ordered t.items) rank ≡ Some item → first_twin t item < length t.items
class-within t rank item there =
    let within : rank < length (ordered t.items) = slice_get_within (ordered t.items) rank item there in
    let here : get_or (ordered t.items) rank item ≡ item = get_or_from_slice_get (ordered t.items) rank item item there in
    let found = first-within (λ other. are_twins other item) (ordered t.items) rank item within (rw here (twins-itself item)) in
    omega (arith, length-ordered t.items)

-- containers of one class are twins
twins-of_class : (t : Problem) (rank : ℕ) (a b : Item) → slice_get (ordered t.items) rank ≡ Some a → first_twin t a ≡ first_twin t b → AreTwins a b
twins-of_class t rank a b there same =
    let below : first_twin t a < length (ordered t.items) = omega (arith, class-within t rank a there, length-ordered t.items) in
    let first : Item = get_or (ordered t.items) (first_twin t a) a in
    let of_a : are_twins first a ≡ true = passes_at_first (λ other. are_twins other a) (ordered t.items) a below in
    let of_b : are_twins first b ≡ true = rw (← same) at (passes_at_first (λ other. are_twins other b) (ordered t.items) a (omega (arith, below, same))) in
    AreTwins-trans a first b (AreTwins-sym first a ((are_twins-Decides first a).0 of_a)) ((are_twins-Decides first b).0 of_b)

-- a container is of the class of one of the task exactly where they are twins
pub of-class : (t : Problem) (rank : ℕ) (item other : Item) → slice_get (ordered t.items) rank ≡ Some item → (first_twin t other == first_twin t item) ≡ are_twins other item
of-class t rank item other there = ⊎_elim
    (λ same. same.0 ∙ sym ((are_twins-Decides other item).1 (AreTwins-sym item other (twins-of_class t rank item other there (sym same.1)))))
    (λ apart. apart.0 ∙ same-answer false (are_twins other item) (λ no. absurd (false≢true no)) (λ is. absurd (apart.1 (class-of_twins t other item ((are_twins-Decides other item).0 is)))))
    (eqb_tells (first_twin t other) (first_twin t item))

pub twins-swap : (a b : Item) → are_twins a b ≡ are_twins b a
twins-swap a b = same-answer (are_twins a b) (are_twins b a)
    (λ is. (are_twins-Decides b a).1 (AreTwins-sym a b ((are_twins-Decides a b).0 is)))
    (λ is. (are_twins-Decides a b).1 (AreTwins-sym b a ((are_twins-Decides b a).0 is)))

-- the class of the container at a rank, looked up
pub length-classes : (t : Problem) (classes : List ℕ) → classes ≡ map (first_twin t) (ordered t.items) → length classes ≡ length t.items
length-classes t classes is = ap length is ∙ length-map (ordered t.items) (first_twin t) ∙ length-ordered t.items

pub class-is : (t : Problem) (classes : List ℕ) (rank : ℕ) (item : Item) → classes ≡ map (first_twin t) (ordered t.items) → slice_get (ordered t.items) rank ≡ Some item
    → get_or classes rank 0 ≡ first_twin t item
class-is t classes rank item is there = ap (λ cs. get_or cs rank 0) is ∙ map-at (first_twin t) (ordered t.items) rank item 0 there

pub class-known : (t : Problem) (classes : List ℕ) (rank : ℕ) (item : Item) → classes ≡ map (first_twin t) (ordered t.items) → length classes ≤ 60 → slice_get (ordered t.items) rank ≡ Some item
    → get_or classes rank 0 < 60
class-known t classes rank item is few there =
    omega (arith, class-is t classes rank item is there, class-within t rank item there, length-classes t classes is, few)
