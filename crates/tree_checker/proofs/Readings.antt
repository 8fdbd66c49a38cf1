-- what comes of operations: there is one outcome, and narrowed choices stand for what they were
use Rattle.std.proofs.Common.{◌≡◌, ⊎_elim, inr, List, [], ◌∷◌, ◌++◌, refl, sym, ap, ◌∙◌, subst}
use Rattle.std.proofs.lemmas.List.{append_assoc}
use Rattle.hold_limits.specs.Problem.{Problem}
use Rattle.price_trees.specs.Prices.{Choice, Prices}
use Rattle.price_trees.specs.Narrowing.{Ticks, HasEmpty, narrowed_once}
use Rattle.tree_certificate.specs.declared.parts.Operation.{Operation}
use Rattle.tree_checker.specs.TreeReading.{IsOpenAs, IsClosed, Holds, left_after, Outcome, Reading, Done, Closed, Missing, Wrong, Right}
use Rattle.hold_choices.proofs.NarrowedLemmas.{narrowed-empty, narrowed-full}

pub open-not_closed : (t : Problem) (choice left : Choice) → IsOpenAs t choice left → IsClosed t choice → ⊥
open-not_closed t choice left opens closed = opens.full (narrowed-empty t choice closed.left left closed.narrowed opens.narrowed closed.empty)

pub open-one : (t : Problem) (choice one other : Choice) → IsOpenAs t choice one → IsOpenAs t choice other → one ≡ other
open-one t choice one other a b = narrowed-full t choice one other a.narrowed b.narrowed a.full

pub open-again : (t : Problem) (choice left : Choice) → IsOpenAs t choice left → IsOpenAs t left left
open-again t choice left opens = record { narrowed = record { again = 0; left = sym same; ended = inr same }; full = opens.full }
  where
    same : narrowed_once t left ≡ left
    same = ⊎_elim (λ (empty : HasEmpty left). absurd (opens.full empty)) (λ (is : narrowed_once t left ≡ left). is) opens.narrowed.ended

pub one-outcome : (t : Problem) (ticks : Ticks) (prices : List Prices) (choices : List Choice) (operations : List Operation) (a b : Outcome)
    → Reading t ticks prices choices operations a → Reading t ticks prices choices operations b → a ≡ b
one-outcome t ticks prices [] operations _ _ Done Done = refl
one-outcome t ticks prices (choice ∷ choices) operations a b (Closed closed one) (Closed also two) = one-outcome t ticks prices choices operations a b one two
one-outcome t ticks prices (choice ∷ choices) [] a _ (Closed closed one) (Missing left opens) = absurd (open-not_closed t choice left opens closed)
one-outcome t ticks prices (choice ∷ choices) (operation ∷ operations) a _ (Closed closed one) (Wrong left opens wrong) = absurd (open-not_closed t choice left opens closed)
one-outcome t ticks prices (choice ∷ choices) (operation ∷ operations) a b (Closed closed one) (Right left opens holds two) = absurd (open-not_closed t choice left opens closed)
one-outcome t ticks prices (choice ∷ choices) [] _ b (Missing left opens) (Closed closed two) = absurd (open-not_closed t choice left opens closed)
one-outcome t ticks prices (choice ∷ choices) [] _ _ (Missing left opens) (Missing other also) = refl
one-outcome t ticks prices (choice ∷ choices) (operation ∷ operations) _ b (Wrong left opens wrong) (Closed closed two) = absurd (open-not_closed t choice left opens closed)
one-outcome t ticks prices (choice ∷ choices) (operation ∷ operations) _ _ (Wrong left opens wrong) (Wrong other also mistaken) = refl
one-outcome t ticks prices (choice ∷ choices) (operation ∷ operations) _ b (Wrong left opens wrong) (Right other also holds two) =
    absurd (wrong (subst (λ c. Holds t ticks prices c operation) (open-one t choice other left also opens) holds))
one-outcome t ticks prices (choice ∷ choices) (operation ∷ operations) a b (Right left opens holds one) (Closed closed two) = absurd (open-not_closed t choice left opens closed)
one-outcome t ticks prices (choice ∷ choices) (operation ∷ operations) a _ (Right left opens holds one) (Wrong other also wrong) =
    absurd (wrong (subst (λ c. Holds t ticks prices c operation) (open-one t choice left other opens also) holds))
one-outcome t ticks prices (choice ∷ choices) (operation ∷ operations) a b (Right left opens holds one) (Right other also hold two) =
    one-outcome t ticks prices (left_after t ticks prices left operation ++ choices) operations a b one
    (subst (λ c. Reading t ticks prices (left_after t ticks prices c operation ++ choices) operations b) (open-one t choice other left also opens) two)

-- what a choice is narrowed to may stand for it
pub reading-opened : (t : Problem) (ticks : Ticks) (prices : List Prices) (choice left : Choice) (choices : List Choice) (operations : List Operation) (outcome : Outcome)
    → IsOpenAs t choice left → Reading t ticks prices (left ∷ choices) operations outcome → Reading t ticks prices (choice ∷ choices) operations outcome
reading-opened t ticks prices choice left choices operations outcome opens (Closed closed rest) = absurd (open-not_closed t left left (open-again t choice left opens) closed)
reading-opened t ticks prices choice left choices [] _ opens (Missing other also) = Missing left opens
reading-opened t ticks prices choice left choices (operation ∷ operations) _ opens (Wrong other also wrong) =
    let same = open-one t left left other (open-again t choice left opens) also in
    Wrong left opens (λ holds. wrong (subst (λ c. Holds t ticks prices c operation) same holds))
reading-opened t ticks prices choice left choices (operation ∷ operations) outcome opens (Right other also holds rest) =
    let same = open-one t left other left also (open-again t choice left opens) in
    Right left opens (subst (λ c. Holds t ticks prices c operation) same holds)
    (subst (λ c. Reading t ticks prices (left_after t ticks prices c operation ++ choices) operations outcome) same rest)

-- what may stand for later choices may do so behind others
same-rest : (x y : Choice) (xs ys : List Choice) → x ∷ xs ≡ y ∷ ys → (x ≡ y) × (xs ≡ ys)
same-rest x y xs ys same = (cc, cc)

under : (t : Problem) (ticks : Ticks) (prices : List Prices) (front now was all : List Choice) (operations : List Operation) (outcome : Outcome)
    → ((operations : List Operation) → Reading t ticks prices now operations outcome → Reading t ticks prices was operations outcome)
    → all ≡ front ++ now → Reading t ticks prices all operations outcome → Reading t ticks prices (front ++ was) operations outcome
under t ticks prices [] now was all operations outcome stands is reading = stands operations (subst (λ cs. Reading t ticks prices cs operations outcome) is reading)
under t ticks prices (choice ∷ front) now was [] operations outcome stands is reading = absurd (cc)
under t ticks prices (choice ∷ front) now was (c ∷ all) operations outcome stands is (Closed closed rest) =
    let same = same-rest c choice all (front ++ now) is in
    Closed (subst (IsClosed t) same.0 closed) (under t ticks prices front now was all operations outcome stands same.1 rest)
under t ticks prices (choice ∷ front) now was (c ∷ all) [] _ stands is (Missing left opens) =
    let same = same-rest c choice all (front ++ now) is in
    Missing left (subst (λ x. IsOpenAs t x left) same.0 opens)
under t ticks prices (choice ∷ front) now was (c ∷ all) (operation ∷ operations) _ stands is (Wrong left opens wrong) =
    let same = same-rest c choice all (front ++ now) is in
    Wrong left (subst (λ x. IsOpenAs t x left) same.0 opens) wrong
under t ticks prices (choice ∷ front) now was (c ∷ all) (operation ∷ operations) outcome stands is (Right left opens holds rest) =
    let same = same-rest c choice all (front ++ now) is in
    let next : List Choice = left_after t ticks prices left operation in
    let again = under t ticks prices (next ++ front) now was (next ++ all) operations outcome stands (ap (λ cs. next ++ cs) same.1 ∙ sym (append_assoc next front now)) rest in
    Right left (subst (λ x. IsOpenAs t x left) same.0 opens) holds (subst (λ cs. Reading t ticks prices cs operations outcome) (append_assoc next front was) again)

pub reading-under : (t : Problem) (ticks : Ticks) (prices : List Prices) (front now was : List Choice) (operations : List Operation) (outcome : Outcome)
    → ((operations : List Operation) → Reading t ticks prices now operations outcome → Reading t ticks prices was operations outcome)
    → Reading t ticks prices (front ++ now) operations outcome → Reading t ticks prices (front ++ was) operations outcome
reading-under t ticks prices front now was operations outcome stands reading = under t ticks prices front now was (front ++ now) operations outcome stands refl reading
