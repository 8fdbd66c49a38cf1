-- each reach goes from the least to the greatest sum that its positions allow
use Rattle.std.proofs.Common.{refl, ◌≡◌, ◌≢◌, ⊎_elim, ℕ, suc, ◌<◌, ℤ, ◌+ℤ◌, ◌≤ℤ◌, Bool, true, false, not, ◌&&◌, nat_le, List, [], ◌∷◌, length, zip, map, get_or, sym, ap, ap₂, ◌∙◌, subst, arith, zero-add}
use Rattle.std.proofs.lemmas.Bool.{cases_Bool, false≢true}
use Rattle.std.proofs.lemmas.Bool.Decides.{Decides-and, Decides-like, not_from_Decides, nat_tests}
use Rattle.std.proofs.lemmas.Int.{ints, fold-int_min_bounds, fold-int_min_reached, fold-int_max_bounds, fold-int_max_reached}
use Rattle.std.proofs.lemmas.List.Elements.{All-nil, All-cons, All-map, All-weaker, All-contains, All-from_recursion, recursion_from_All, filter_passes}
use Rattle.std.proofs.lemmas.List.Folds.{list_any_at, list_any_none}
use Rattle.std.proofs.lemmas.List.FromFn.{get_or-range_with_len, length-range_with_len}
use Rattle.std.specs.Prelude.{All, ◌↔◌}
use Rattle.std.specs.Bool.{Decides}
use Rattle.std.specs.Int.{int_min, int_max}
use Rattle.std.specs.List.{AllByRecursion, filter, fold, list_all, list_any, range_with_len}
use Rattle.base_words.specs.Lists.{int_sum_by}
use Rattle.hold_parts.specs.declared.parts.Item.{Item}
use Rattle.hold_parts.specs.Twins.{AreTwins, are_twins}
use Rattle.hold_limits.specs.Problem.{Problem}
use Rattle.hold_limits.specs.Placement.{Placed, Exclude, placed, placed_moment, hold_index, placed_lateral, lateral_difference}
use Rattle.hold_limits.specs.Enumeration.{exclude}
use Rattle.hold_limits.proofs.EnumerationLemmas.{is_accepted-Decides, exclude-Decides}
use Rattle.hold_limits.proofs.SoundLemmas.{accepted_within}
use Rattle.hold_limits.proofs.TwinLemmas.{are_twins-Decides}
use Rattle.hold_reach.specs.Rules.{is_used}
use Rattle.hold_reach.specs.Reach.{remaining, IsFree, is_free, IsOpen, is_open, falls, amounts, has_position, least, greatest, span_from, reach, wide_reach, lateral_reach}
use Rattle.hold_reach.specs.Choices.{IsChoice, Gives, Allows, AllowsWidely, AllowsLaterally, IsSpanOf, Spans}
use Rattle.hold_reach.proofs.ReachLemmas.{least_sum, greatest_sum}
use Rattle.hold_reach.proofs.RuleLemmas.{false_where_not, list_any-fails, unused-from_none, used-none}

-- Free and open positions -----------------------------------------------------------------------

not_true : (r : Bool) → not r ≡ true → r ≡ false
not_true true is = absurd (cc)
not_true false is = refl

true_from_false : (r : Bool) → r ≡ false → not r ≡ true
true_from_false r is = rw is refl

pub is_free-Decides : (t : Problem) (prefix : List ℕ) (item : Item) (q : ℕ) → Decides (is_free t prefix item q) (IsFree t prefix item q)
is_free-Decides t prefix item q =
    let unused : Decides (not (is_used prefix q)) (All (λ used. used ≢ q) prefix) = (
      λ is. unused-from_none prefix q (not_true (is_used prefix q) is),
      λ all. true_from_false (is_used prefix q) (used-none prefix q all),
    ) in
    let compatible : Decides (not (list_any (λ used. exclude t.hold used q) prefix)) (All (λ used. Exclude t.hold used q → ⊥) prefix) = (
      λ is. All-weaker (λ used. exclude t.hold used q ≡ false) (λ used. Exclude t.hold used q → ⊥)
          (λ used no. not_from_Decides (exclude t.hold used q) (exclude-Decides t.hold used q) no) prefix
          (list_any-fails (λ used. exclude t.hold used q) prefix (not_true (list_any (λ used. exclude t.hold used q) prefix) is)),
      λ all. true_from_false (list_any (λ used. exclude t.hold used q) prefix) (list_any_none (λ used. exclude t.hold used q) prefix
          (All-weaker (λ used. Exclude t.hold used q → ⊥) (λ used. exclude t.hold used q ≡ false)
          (λ used free. false_where_not (exclude t.hold used q) (exclude-Decides t.hold used q) free) prefix all)),
    ) in
    Decides-like (is_free t prefix item q)
    (λ all. record { accepted = all.0; unused = all.1.0; compatible = all.1.1 })
    (λ (given : IsFree t prefix item q). (given.accepted, (given.unused, given.compatible)))
    (Decides-and _ _ (is_accepted-Decides t.hold (item, q)) (Decides-and _ _ unused compatible))

-- what a placed container of the same kind and mass asks of the number
above : Item → ℕ → Placed → Type 0
above item q p = AreTwins p.0 item → p.1 < q

twin-above : (item : Item) (q : ℕ) (p : Placed) → (are_twins p.0 item && nat_le q p.1) ≡ false → above item q p
unfolding above
twin-above item q p fails twins =
    let are : are_twins p.0 item ≡ true = (are_twins-Decides p.0 item).1 twins in
    let not_below : nat_le q p.1 ≡ false = rw are at fails in
    grind (arith, nat_tests)

above-twin : (item : Item) (q : ℕ) (p : Placed) → above item q p → (are_twins p.0 item && nat_le q p.1) ≡ false
unfolding above
above-twin item q p is = ⊎_elim
    (λ (twins : are_twins p.0 item ≡ true).
    let less : p.1 < q = is ((are_twins-Decides p.0 item).0 twins) in
    let not_below : nat_le q p.1 ≡ false = grind (arith, nat_tests) in
    rw (twins, not_below) refl)
    (λ (others : are_twins p.0 item ≡ false). rw others refl)
    (cases_Bool (are_twins p.0 item))

-- a number falls for a container exactly where it is not above all its placed twins
pub falls-not : (t : Problem) (prefix : List ℕ) (item : Item) (q : ℕ) → (falls t prefix item q ≡ false) ↔ All (λ (p : Placed). AreTwins p.0 item → p.1 < q) (placed t prefix)
unfolding above
falls-not t prefix item q = (
  λ none. All-weaker (λ (p : Placed). (are_twins p.0 item && nat_le q p.1) ≡ false) (above item q) (twin-above item q) (placed t prefix)
      (list_any-fails (λ (p : Placed). are_twins p.0 item && nat_le q p.1) (placed t prefix) none),
  λ all. list_any_none (λ (p : Placed). are_twins p.0 item && nat_le q p.1) (placed t prefix)
      (All-weaker (above item q) (λ (p : Placed). (are_twins p.0 item && nat_le q p.1) ≡ false) (above-twin item q) (placed t prefix) all),
)

pub is_open-Decides : (t : Problem) (prefix : List ℕ) (item : Item) (q : ℕ) → Decides (is_open t prefix item q) (IsOpen t prefix item q)
is_open-Decides t prefix item q =
    let rises : Decides (not (falls t prefix item q)) (All (λ (p : Placed). AreTwins p.0 item → p.1 < q) (placed t prefix)) = (
      λ is. (falls-not t prefix item q).0 (not_true (falls t prefix item q) is),
      λ all. true_from_false (falls t prefix item q) ((falls-not t prefix item q).1 all),
    ) in
    Decides-like (is_open t prefix item q)
    (λ both. record { free = both.0; above_twins = both.1 })
    (λ (given : IsOpen t prefix item q). (given.free, given.above_twins))
    (Decides-and _ _ (is_free-Decides t prefix item q) rises)

-- The least and the greatest of a list ----------------------------------------------------------

least-bounds : (xs : List ℤ) → All (λ x. least xs ≤ℤ x) xs
least-bounds [] = All-nil (λ x. least [] ≤ℤ x)
least-bounds (x ∷ xs) = let bounds = fold-int_min_bounds x xs (fold int_min x xs) refl in All-cons (λ y. least (x ∷ xs) ≤ℤ y) x xs bounds.0 bounds.1

greatest-bounds : (xs : List ℤ) → All (λ x. x ≤ℤ greatest xs) xs
greatest-bounds [] = All-nil (λ x. x ≤ℤ greatest [])
greatest-bounds (x ∷ xs) = let bounds = fold-int_max_bounds x xs (fold int_max x xs) refl in All-cons (λ y. y ≤ℤ greatest (x ∷ xs)) x xs bounds.0 bounds.1

-- what holds of each number of a list holds of the least and of the greatest
least-is : (P : ℤ → Type 0) (xs : List ℤ) → 0 < length xs → All P xs → P (least xs)
least-is P [] some all = absurd (omega arith)
least-is P (x ∷ xs) some all = ⊎_elim
    (λ first. subst P (sym first) (all 0 x (omega arith)))
    (λ later. All-contains P xs (least (x ∷ xs)) (λ k d less. all (suc k) d (omega arith)) later)
    (fold-int_min_reached x xs (fold int_min x xs) refl)

greatest-is : (P : ℤ → Type 0) (xs : List ℤ) → 0 < length xs → All P xs → P (greatest xs)
greatest-is P [] some all = absurd (omega arith)
greatest-is P (x ∷ xs) some all = ⊎_elim
    (λ first. subst P (sym first) (all 0 x (omega arith)))
    (λ later. All-contains P xs (greatest (x ∷ xs)) (λ k d less. all (suc k) d (omega arith)) later)
    (fold-int_max_reached x xs (fold int_max x xs) refl)

-- The amounts of one container ------------------------------------------------------------------

some_kept : (p : ℕ → Bool) (f : ℕ → ℤ) (qs : List ℕ) → list_any p qs ≡ true → 0 < length (map f (filter p qs))
some_kept p f [] is = absurd (cc)
some_kept p f (q ∷ qs) is = ⊎_elim
    (λ (passes : p q ≡ true). rw passes (omega arith))
    (λ (fails : p q ≡ false). rw fails (some_kept p f qs (rw fails at is)))
    (cases_Bool (p q))

each_kept : (P : ℤ → Type 0) (p : ℕ → Bool) (f : ℕ → ℤ) (qs : List ℕ) → AllByRecursion P (map f (filter p qs)) → AllByRecursion (λ q. p q ≡ true → P (f q)) qs
each_kept P p f [] all = tt
each_kept P p f (q ∷ qs) all = ⊎_elim
    (λ (passes : p q ≡ true). let kept : AllByRecursion P (map f (q ∷ filter p qs)) = rw passes at all in (λ _. kept.0, each_kept P p f qs kept.1))
    (λ (fails : p q ≡ false). let kept : AllByRecursion P (map f (filter p qs)) = rw fails at all in (λ passes. absurd (false≢true (sym fails ∙ passes)), each_kept P p f qs kept))
    (cases_Bool (p q))

in_range : (P : ℕ → Type 0) (n q : ℕ) → q < n → All P (range_with_len 0 n) → P q
in_range P n q less all =
    let here : get_or (range_with_len 0 n) q 0 ≡ q = get_or-range_with_len 0 n q 0 less ∙ zero-add q in
    subst P here (all q 0 (omega (arith, length-range_with_len 0 n)))

-- where the remaining containers may stand, as a question and as a fact, and what they add there
pub record Question (t : Problem) : Type 1 where
  pub may : Item → ℕ → Bool
  pub May : Item → ℕ → Type 0
  pub asked : (item : Item) (q : ℕ) → Decides (may item q) (May item q)
  pub known : (item : Item) (q : ℕ) → May item q → q < length t.hold.positions
  pub amount : Placed → ℤ

-- a container that may stand on a position has one
pub has_position-from : (t : Problem) (o : Question t) (item : Item) (q : ℕ) → o.May item q → has_position t o.may item ≡ true
has_position-from t o item q given =
    let n = length t.hold.positions in
    let inside : q < n = o.known item q given in
    let here : get_or (range_with_len 0 n) q 0 ≡ q = get_or-range_with_len 0 n q 0 inside ∙ zero-add q in
    let passes : o.may item (get_or (range_with_len 0 n) q 0) ≡ true = subst (λ k. o.may item k ≡ true) (sym here) ((o.asked item q).1 given) in
    list_any_at (o.may item) (range_with_len 0 n) q 0 (omega (arith, length-range_with_len 0 n)) passes

-- a position where the container may stand gives it this amount
HasAmount : (t : Problem) → Question t → Item → ℤ → Type 0
HasAmount t o item amount = (q : ℕ) × o.May item q × (amount ≡ o.amount (item, q))

each_amount : (t : Problem) (o : Question t) (item : Item) → All (HasAmount t o item) (amounts t o.may o.amount item)
unfolding HasAmount
each_amount t o item = All-map (HasAmount t o item) (λ q. o.amount (item, q)) (filter (o.may item) (range_with_len 0 (length t.hold.positions)))
    (All-weaker (λ q. o.may item q ≡ true) (λ q. HasAmount t o item (o.amount (item, q)))
    (λ q is. (q, (o.asked item q).0 is, refl))
    (filter (o.may item) (range_with_len 0 (length t.hold.positions)))
    (filter_passes (o.may item) (range_with_len 0 (length t.hold.positions))))

least-amount : (t : Problem) (o : Question t) (item : Item) → has_position t o.may item ≡ true → HasAmount t o item (least (amounts t o.may o.amount item))
least-amount t o item has = least-is (HasAmount t o item) (amounts t o.may o.amount item)
    (some_kept (o.may item) (λ q. o.amount (item, q)) (range_with_len 0 (length t.hold.positions)) has)
    (each_amount t o item)

greatest-amount : (t : Problem) (o : Question t) (item : Item) → has_position t o.may item ≡ true → HasAmount t o item (greatest (amounts t o.may o.amount item))
greatest-amount t o item has = greatest-is (HasAmount t o item) (amounts t o.may o.amount item)
    (some_kept (o.may item) (λ q. o.amount (item, q)) (range_with_len 0 (length t.hold.positions)) has)
    (each_amount t o item)

-- what holds of each amount holds of that on a position where the container may stand
one_amount : (P : ℤ → Type 0) (t : Problem) (o : Question t) (item : Item) (q : ℕ) → All P (amounts t o.may o.amount item) → o.May item q → P (o.amount (item, q))
one_amount P t o item q all given =
    let n = length t.hold.positions in
    let amount : ℕ → ℤ = λ q. o.amount (item, q) in
    let kept = each_kept P (o.may item) amount (range_with_len 0 n) (recursion_from_All P (amounts t o.may o.amount item) all) in
    in_range (λ q. o.may item q ≡ true → P (amount q)) n q (o.known item q given)
    (All-from_recursion (λ q. o.may item q ≡ true → P (amount q)) (range_with_len 0 n) kept)
    ((o.asked item q).1 given)

-- Sums over containers --------------------------------------------------------------------------

-- positions where the containers may stand
record ChoiceFor (t : Problem) (o : Question t) (items : List Item) (choice : List ℕ) : Type 0 where
  pub one_each : length choice ≡ length items
  pub each : AllByRecursion (λ (p : Placed). o.May p.0 p.1) (zip items choice)

sum_of : (Placed → ℤ) → List Item → List ℕ → ℤ
sum_of amount items choice = int_sum_by amount (zip items choice)

-- the sum of one amount of each container is that of a choice
chosen : (t : Problem) (o : Question t) (amount : Item → ℤ) → ((item : Item) → has_position t o.may item ≡ true → HasAmount t o item (amount item))
    → (items : List Item) → AllByRecursion (λ item. has_position t o.may item ≡ true) items
    → (choice : List ℕ) × ChoiceFor t o items choice × (int_sum_by amount items ≡ sum_of o.amount items choice)
unfolding HasAmount sum_of
chosen t o amount each [] has = ([], record { one_each = refl; each = tt }, refl)
chosen t o amount each (item ∷ items) has =
    let here = each item has.0 in
    let rest = chosen t o amount each items has.1 in (
      here.0 ∷ rest.0,
      record { one_each = ap suc rest.1.one_each; each = (here.1, rest.1.each) },
      ap₂ (λ a b. a +ℤ b) here.2 rest.2,
    )

-- the amounts of a choice lie between the sums of the least and of the greatest
chosen_between : (t : Problem) (o : Question t) (items : List Item) (choice : List ℕ) → ChoiceFor t o items choice
    → (int_sum_by (λ item. least (amounts t o.may o.amount item)) items ≤ℤ sum_of o.amount items choice) × (sum_of o.amount items choice ≤ℤ int_sum_by (λ item. greatest (amounts t o.may o.amount item)) items)
unfolding sum_of
chosen_between t o [] [] given = (omega (arith, ints), omega (arith, ints))
chosen_between t o [] (q ∷ choice) given = absurd (omega (arith, given.one_each))
chosen_between t o (item ∷ items) [] given = absurd (omega (arith, given.one_each))
chosen_between t o (item ∷ items) (q ∷ choice) given =
    let here = amounts t o.may o.amount item in
    let low = one_amount (λ m. least here ≤ℤ m) t o item q (least-bounds here) given.each.0 in
    let high = one_amount (λ m. m ≤ℤ greatest here) t o item q (greatest-bounds here) given.each.0 in
    let rest = chosen_between t o items choice record { one_each = omega (arith, given.one_each); each = given.each.1 } in
    (omega (arith, ints, low, rest.0), omega (arith, ints, high, rest.1))

-- the containers of a choice have positions
chosen_has : (t : Problem) (o : Question t) (items : List Item) (choice : List ℕ) → ChoiceFor t o items choice → AllByRecursion (λ item. has_position t o.may item ≡ true) items
chosen_has t o [] choice given = tt
chosen_has t o (item ∷ items) [] given = absurd (omega (arith, given.one_each))
chosen_has t o (item ∷ items) (q ∷ choice) given =
    (has_position-from t o item q given.each.0, chosen_has t o items choice record { one_each = omega (arith, given.one_each); each = given.each.1 })

-- Spans -----------------------------------------------------------------------------------------

each-from_test : {X : Type 0} (p : X → Bool) (xs : List X) → list_all p xs ≡ true → AllByRecursion (λ x. p x ≡ true) xs
each-from_test p [] is = tt
each-from_test p (x ∷ xs) is = ⊎_elim
    (λ (passes : p x ≡ true). (passes, each-from_test p xs (rw passes at is)))
    (λ (fails : p x ≡ false). absurd (false≢true (rw fails at is)))
    (cases_Bool (p x))

test-from_each : {X : Type 0} (p : X → Bool) (xs : List X) → AllByRecursion (λ x. p x ≡ true) xs → list_all p xs ≡ true
test-from_each p [] each = refl
test-from_each p (x ∷ xs) each = rw each.0 (test-from_each p xs each.1)

choice_for : (t : Problem) (prefix : List ℕ) (o : Question t) (choice : List ℕ) → IsChoice t prefix o.May choice → ChoiceFor t o (remaining t prefix) choice
choice_for t prefix o choice given = record {
  one_each = given.one_each;
  each = recursion_from_All (λ (p : Placed). o.May p.0 p.1) (zip (remaining t prefix) choice) given.each;
}

choice-from : (t : Problem) (prefix : List ℕ) (o : Question t) (choice : List ℕ) → ChoiceFor t o (remaining t prefix) choice → IsChoice t prefix o.May choice
choice-from t prefix o choice given = record {
  one_each = given.one_each;
  each = All-from_recursion (λ (p : Placed). o.May p.0 p.1) (zip (remaining t prefix) choice) given.each;
}

span-where : (t : Problem) (prefix : List ℕ) (o : Question t) (start : ℤ) → list_all (has_position t o.may) (remaining t prefix) ≡ true
    → IsSpanOf (Gives t prefix o.May o.amount start) (least_sum t prefix o.may o.amount start, greatest_sum t prefix o.may o.amount start)
unfolding sum_of
span-where t prefix o start all =
    let has = each-from_test (has_position t o.may) (remaining t prefix) all in
    let low = chosen t o (λ item. least (amounts t o.may o.amount item)) (least-amount t o) (remaining t prefix) has in
    let high = chosen t o (λ item. greatest (amounts t o.may o.amount item)) (greatest-amount t o) (remaining t prefix) has in
    record {
      least = (low.0, choice-from t prefix o low.0 low.1, ap (λ m. start +ℤ m) low.2);
      greatest = (high.0, choice-from t prefix o high.0 high.1, ap (λ m. start +ℤ m) high.2);
      between = λ sum given.
          let sums = chosen_between t o (remaining t prefix) given.0 (choice_for t prefix o given.0 given.1) in
          (omega (arith, ints, given.2, sums.0), omega (arith, ints, given.2, sums.1));
    }

-- the span goes from the least to the greatest sum that is given, and there is none exactly where none is given
pub span-is : (t : Problem) (prefix : List ℕ) (o : Question t) (start : ℤ) → Spans (span_from t prefix o.may o.amount start) (Gives t prefix o.May o.amount start)
span-is t prefix o start = ⊎_elim
    (λ (all : list_all (has_position t o.may) (remaining t prefix) ≡ true). rw all (span-where t prefix o start all))
    (λ (not_all : list_all (has_position t o.may) (remaining t prefix) ≡ false).
    rw not_all (λ sum given.
    let all = test-from_each (has_position t o.may) (remaining t prefix) (chosen_has t o (remaining t prefix) given.0 (choice_for t prefix o given.0 given.1)) in
    false≢true (sym not_all ∙ all)))
    (cases_Bool (list_all (has_position t o.may) (remaining t prefix)))

-- The three reaches -----------------------------------------------------------------------------

pub over_open : (t : Problem) (prefix : List ℕ) → Question t
over_open t prefix = record {
  may = is_open t prefix;
  May = IsOpen t prefix;
  asked = is_open-Decides t prefix;
  known = λ item q given. accepted_within t.hold (item, q) given.free.accepted;
  amount = placed_moment t.hold;
}

pub over_free : (t : Problem) (prefix : List ℕ) → (Placed → ℤ) → Question t
over_free t prefix amount = record {
  may = is_free t prefix;
  May = IsFree t prefix;
  asked = is_free-Decides t prefix;
  known = λ item q given. accepted_within t.hold (item, q) given.accepted;
  amount = amount;
}

pub reach-is : (t : Problem) (prefix : List ℕ) → Spans (reach t prefix) (Allows t prefix)
unfolding over_open
reach-is t prefix = span-is t prefix (over_open t prefix) (hold_index t prefix)

pub wide_reach-is : (t : Problem) (prefix : List ℕ) → Spans (wide_reach t prefix) (AllowsWidely t prefix)
unfolding over_free
wide_reach-is t prefix = span-is t prefix (over_free t prefix (placed_moment t.hold)) (hold_index t prefix)

pub lateral_reach-is : (t : Problem) (prefix : List ℕ) → Spans (lateral_reach t prefix) (AllowsLaterally t prefix)
unfolding over_free
lateral_reach-is t prefix = span-is t prefix (over_free t prefix (placed_lateral t.hold)) (lateral_difference t prefix)
