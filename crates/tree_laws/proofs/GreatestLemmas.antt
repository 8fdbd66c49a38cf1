-- what passes leave is the greatest choice within a choice from which a pass takes nothing
use Rattle.std.proofs.Common.{◌≡◌, ◌⊎◌, ⊎_elim, ℕ, ℤ, ◌-ℤ◌, zero, suc, ◌≤◌, Bool, true, false, not, ◌&&◌, ◌||◌, nat_lt, List, [], ◌∷◌, ◌++◌, zip, length, refl, ap, ap₂, sym, ◌∙◌, subst, arith}
use Rattle.std.specs.Prelude.{◌↔◌}
use Rattle.std.specs.List.{AllZip, filter, list_all, list_any, range_with_len}
use Rattle.std.proofs.lemmas.Bool.{cases_Bool, false≢true, and_parts, and_from, or_cases, or_left, or_right, or_parts, false_from_ne_true}
use Rattle.std.proofs.lemmas.List.{length-map}
use Rattle.std.proofs.lemmas.List.Elements.{AllZip-push, filter_agree, length_all_zip}
use Rattle.hold_parts.specs.declared.parts.Item.{Item}
use Rattle.hold_parts.specs.Twins.{are_twins}
use Rattle.hold_limits.specs.BranchOrder.{ordered}
use Rattle.hold_limits.specs.Enumeration.{is_accepted}
use Rattle.hold_limits.specs.Layout.{Layout}
use Rattle.hold_limits.specs.Problem.{Problem}
use Rattle.hold_limits.proofs.BranchOrderLemmas.{length-ordered}
use Rattle.price_trees.specs.Prices.{Choice, Candidate, Prices, value}
use Rattle.price_trees.specs.Narrowing.{Ticks, goal, full, fixed, HasEmpty, is_empty, leaves, leaves_later, leaves_earlier, left_by, narrowed_once, cheap, trimmed, cut}
use Rattle.hold_choices.specs.Narrowed.{narrowed_times, IsNarrowed}
use Rattle.hold_choices.proofs.NarrowedLemmas.{narrowed-some}
use Rattle.tree_checker.specs.TreeReading.{IsOpenAs, IsClosed}
use Rattle.tree_laws.specs.GreatestChoices.{IsOfTask, IsPart, IsWithin, IsStableWithin, IsGreatest}

-- Parts of sets ---------------------------------------------------------------------------------

filter-twice : (f g : ℕ → Bool) (qs : List ℕ) → filter f (filter g qs) ≡ filter (λ q. g q && f q) qs
filter-twice f g [] = refl
filter-twice f g (q ∷ qs) = ⊎_elim
    (λ (one : g q ≡ true). ⊎_elim
    (λ (both : f q ≡ true). rw one (rw both (ap (λ rest. q ∷ rest) (filter-twice f g qs))))
    (λ (first : f q ≡ false). rw one (rw first (filter-twice f g qs)))
    (cases_Bool (f q)))
    (λ (other : g q ≡ false). rw other (filter-twice f g qs))
    (cases_Bool (g q))

filter-length : (test : ℕ → Bool) (qs : List ℕ) → length (filter test qs) ≤ length qs
filter-length test [] = omega arith
filter-length test (q ∷ qs) = ⊎_elim
    (λ (one : test q ≡ true). rw one (let rest = filter-length test qs in omega (arith, rest)))
    (λ (other : test q ≡ false). rw other (let rest = filter-length test qs in omega (arith, rest)))
    (cases_Bool (test q))

filter-same : (test : ℕ → Bool) (qs : List ℕ) → length qs ≤ length (filter test qs) → filter test qs ≡ qs
filter-same test [] all = refl
filter-same test (q ∷ qs) all = ⊎_elim
    (λ (one : test q ≡ true).
    let more : suc (length qs) ≤ suc (length (filter test qs)) = rw one at all in
    rw one (ap (λ rest. q ∷ rest) (filter-same test qs (omega (arith, more)))))
    (λ (other : test q ≡ false).
    let more : suc (length qs) ≤ length (filter test qs) = rw other at all in
    absurd (omega (arith, more, filter-length test qs)))
    (cases_Bool (test q))

filter-all : (qs : List ℕ) → qs ≡ filter (λ q. true) qs
filter-all [] = refl
filter-all (q ∷ qs) = ap (λ rest. q ∷ rest) (filter-all qs)

part-through : (a b c : List ℕ) → IsPart a b → IsPart b c → IsPart a c
part-through a b c one two = record { test = λ q. two.test q && one.test q; is = one.is ∙ ap (filter one.test) two.is ∙ filter-twice one.test two.test c }

part-length : (part whole : List ℕ) → IsPart part whole → length part ≤ length whole
part-length part whole is = let here = filter-length is.test whole in omega (arith, here, ap length is.is)

part-both : (a b : List ℕ) → IsPart a b → IsPart b a → a ≡ b
part-both a b one two = one.is ∙ filter-same one.test b (omega (arith, part-length b a two, ap length one.is))

-- a part of what passes a test, where what passes the stricter one passes the other too
part-filter : (f g : ℕ → Bool) (part whole : List ℕ) → IsPart part whole → ((q : ℕ) → f q ≡ true → g q ≡ true) → IsPart (filter f part) (filter g whole)
part-filter f g part whole is passes = record {
  test = λ q. is.test q && f q;
  is = ap (filter f) is.is
      ∙ filter-twice f is.test whole
      ∙ filter_agree (λ q. is.test q && f q) (λ q. g q && (is.test q && f q)) (λ q. implied (g q) (is.test q) (f q) (passes q)) whole
      ∙ sym (filter-twice (λ q. is.test q && f q) g whole);
}
  where
    implied : (g t f : Bool) → (f ≡ true → g ≡ true) → (t && f) ≡ (g && (t && f))
    implied true t f passes = refl
    implied false t true passes = absurd (false≢true (passes refl))
    implied false true false passes = refl
    implied false false false passes = refl

-- Choices within others -------------------------------------------------------------------------

within-self : (choice : Choice) → IsWithin choice choice
within-self [] = tt
within-self (set ∷ choice) = (record { test = λ q. true; is = filter-all set }, within-self choice)

within-through : (a b c : Choice) → IsWithin a b → IsWithin b c → IsWithin a c
within-through [] [] c one two = two
within-through [] (y ∷ b) c one two = absurd one
within-through (x ∷ a) [] c one two = absurd one
within-through (x ∷ a) (y ∷ b) [] one two = absurd two
within-through (x ∷ a) (y ∷ b) (z ∷ c) one two = (part-through x y z one.0 two.0, within-through a b c one.1 two.1)

within-both : (a b : Choice) → IsWithin a b → IsWithin b a → a ≡ b
within-both [] [] one two = refl
within-both [] (y ∷ b) one two = absurd one
within-both (x ∷ a) [] one two = absurd one
within-both (x ∷ a) (y ∷ b) one two = ap₂ (λ set rest. set ∷ rest) (part-both x y one.0 two.0) (within-both a b one.1 two.1)

-- where the whole has an empty set, each choice within it has
empty-within : (part whole : Choice) → IsWithin part whole → HasEmpty whole → HasEmpty part
empty-within [] [] within empty = empty
empty-within [] (y ∷ whole) within empty = absurd within
empty-within (x ∷ part) [] within empty = absurd within
empty-within (x ∷ part) ([] ∷ whole) within empty = rw within.0.is refl
empty-within (x ∷ part) ((q ∷ set) ∷ whole) within empty = or_right (is_empty x) (list_any is_empty part) (empty-within part whole within.1 empty)

-- A pass ----------------------------------------------------------------------------------------

-- a container with some of the positions of the other candidate, and not with none
record IsSmaller (a b : Candidate) : Type 0 where
  item : a.0 ≡ b.0
  part : IsPart a.1 b.1
  full : is_empty a.1 ≡ false

leaves-more : (hold : Layout) (part whole : List ℕ) (p : ℕ) → IsPart part whole → is_empty part ≡ false → leaves hold part p ≡ true → leaves hold whole p ≡ true
leaves-more hold part [] p is full left = refl
leaves-more hold part (q ∷ []) p is full left = ⊎_elim
    (λ (one : is.test q ≡ true). let same : part ≡ q ∷ [] = rw one at is.is in subst (λ set. leaves hold set p ≡ true) same left)
    (λ (other : is.test q ≡ false). let none : part ≡ [] = rw other at is.is in absurd (false≢true (sym full ∙ ap is_empty none)))
    (cases_Bool (is.test q))
leaves-more hold part (q ∷ r ∷ whole) p is full left = refl

any-filtered : (test f : ℕ → Bool) (qs : List ℕ) → list_any test (filter f qs) ≡ true → list_any test qs ≡ true
any-filtered test f [] any = any
any-filtered test f (q ∷ qs) any = ⊎_elim
    (λ (kept : f q ≡ true).
    let first : (test q || list_any test (filter f qs)) ≡ true = rw kept at any in
    ⊎_elim
    (λ (here : test q ≡ true). or_left (test q) (list_any test qs) here)
    (λ (later : list_any test (filter f qs) ≡ true). or_right (test q) (list_any test qs) (any-filtered test f qs later))
    (or_cases (test q) (list_any test (filter f qs)) first))
    (λ (dropped : f q ≡ false).
    let later : list_any test (filter f qs) ≡ true = rw dropped at any in
    or_right (test q) (list_any test qs) (any-filtered test f qs later))
    (cases_Bool (f q))

-- of a test that asks for a position on one side of the twin's, if they are twins
twins-more : (test : ℕ → Bool) (twins twins' : Bool) (part whole : List ℕ) → twins ≡ twins' → IsPart part whole
    → (not twins || list_any test part) ≡ true → (not twins' || list_any test whole) ≡ true
twins-more test twins twins' part whole same is passes = ⊎_elim
    (λ (apart : not twins ≡ true). or_left (not twins') (list_any test whole) (sym (ap not same) ∙ apart))
    (λ (any : list_any test part ≡ true). or_right (not twins') (list_any test whole) (any-filtered test is.test whole (sym (ap (list_any test) is.is) ∙ any)))
    (or_cases (not twins) (list_any test part) passes)

later-more : (hold : Layout) (item : Item) (p : ℕ) (a b : Candidate) → IsSmaller a b → leaves_later hold item p a ≡ true → leaves_later hold item p b ≡ true
later-more hold item p a b smaller left =
    let parts = and_parts (leaves hold a.1 p) (not (are_twins a.0 item) || list_any (λ q. nat_lt q p) a.1) left in
    and_from (leaves hold b.1 p) (not (are_twins b.0 item) || list_any (λ q. nat_lt q p) b.1)
    (leaves-more hold a.1 b.1 p smaller.part smaller.full parts.0)
    (twins-more (λ q. nat_lt q p) (are_twins a.0 item) (are_twins b.0 item) a.1 b.1 (ap (λ other. are_twins other item) smaller.item) smaller.part parts.1)

earlier-more : (hold : Layout) (item : Item) (p : ℕ) (a b : Candidate) → IsSmaller a b → leaves_earlier hold item p a ≡ true → leaves_earlier hold item p b ≡ true
earlier-more hold item p a b smaller left =
    let parts = and_parts (leaves hold a.1 p) (not (are_twins item a.0) || list_any (λ q. nat_lt p q) a.1) left in
    and_from (leaves hold b.1 p) (not (are_twins item b.0) || list_any (λ q. nat_lt p q) b.1)
    (leaves-more hold a.1 b.1 p smaller.part smaller.full parts.0)
    (twins-more (λ q. nat_lt p q) (are_twins item a.0) (are_twins item b.0) a.1 b.1 (ap (are_twins item) smaller.item) smaller.part parts.1)

all-more : (test : Candidate → Bool) (small large : List Candidate) → ((a b : Candidate) → IsSmaller a b → test a ≡ true → test b ≡ true) → AllZip IsSmaller small large
    → list_all test small ≡ true → list_all test large ≡ true
all-more test [] [] more smaller all = refl
all-more test [] (b ∷ large) more smaller all = absurd smaller
all-more test (a ∷ small) [] more smaller all = absurd smaller
all-more test (a ∷ small) (b ∷ large) more smaller all =
    let parts = and_parts (test a) (list_all test small) all in
    and_from (test b) (list_all test large) (more a b smaller.0 parts.0) (all-more test small large more smaller.1 parts.1)

zip-smaller : (items : List Item) (small large : Choice) → IsWithin small large → list_any is_empty small ≡ false → AllZip IsSmaller (zip items small) (zip items large)
zip-smaller [] small large within full = tt
zip-smaller (item ∷ items) [] [] within full = tt
zip-smaller (item ∷ items) [] (b ∷ large) within full = absurd within
zip-smaller (item ∷ items) (a ∷ small) [] within full = absurd within
zip-smaller (item ∷ items) (a ∷ small) (b ∷ large) within full =
    let parts = or_parts (is_empty a) (list_any is_empty small) full in
    (record { item = refl; part = within.0; full = parts.0 }, zip-smaller items small large within.1 parts.1)

left-more : (hold : Layout) (before before' : List Candidate) (items : List Item) (small large : Choice) → AllZip IsSmaller before before' → IsWithin small large → list_any is_empty small ≡ false
    → IsWithin (left_by hold before (zip items small)) (left_by hold before' (zip items large))
left-more hold before before' [] small large front within full = tt
left-more hold before before' (item ∷ items) [] [] front within full = tt
left-more hold before before' (item ∷ items) [] (b ∷ large) front within full = absurd within
left-more hold before before' (item ∷ items) (a ∷ small) [] front within full = absurd within
left-more hold before before' (item ∷ items) (a ∷ small) (b ∷ large) front within full =
    let parts = or_parts (is_empty a) (list_any is_empty small) full in
    let after = zip-smaller items small large within.1 parts.1 in (
      part-filter
          (λ p. list_all (leaves_later hold item p) before && list_all (leaves_earlier hold item p) (zip items small))
          (λ p. list_all (leaves_later hold item p) before' && list_all (leaves_earlier hold item p) (zip items large))
          a b within.0
          (λ p left.
          let both = and_parts (list_all (leaves_later hold item p) before) (list_all (leaves_earlier hold item p) (zip items small)) left in
          and_from (list_all (leaves_later hold item p) before') (list_all (leaves_earlier hold item p) (zip items large))
          (all-more (leaves_later hold item p) before before' (later-more hold item p) front both.0)
          (all-more (leaves_earlier hold item p) (zip items small) (zip items large) (earlier-more hold item p) after both.1)),
      left-more hold (before ++ (item, a) ∷ []) (before' ++ (item, b) ∷ []) items small large
          (AllZip-push IsSmaller before before' (item, a) (item, b) front (record { item = refl; part = within.0; full = parts.0 })) within.1 parts.1,
    )

-- a pass leaves of a choice within another one no more than of the other
pass-more : (t : Problem) (small large : Choice) → IsWithin small large → (HasEmpty small → ⊥) → IsWithin (narrowed_once t small) (narrowed_once t large)
pass-more t small large within full = left-more t.hold [] [] (ordered t.items) small large tt within (false_from_ne_true (list_any is_empty small) full)

left-within : (hold : Layout) (before : List Candidate) (items : List Item) (choice : Choice) → length choice ≤ length items → IsWithin (left_by hold before (zip items choice)) choice
left-within hold before [] [] few = tt
left-within hold before [] (set ∷ choice) few = absurd (omega (arith, few))
left-within hold before (item ∷ items) [] few = tt
left-within hold before (item ∷ items) (set ∷ choice) few = (
  record { test = λ p. list_all (leaves_later hold item p) before && list_all (leaves_earlier hold item p) (zip items choice); is = refl },
  left-within hold (before ++ (item, set) ∷ []) items choice (omega (arith, few)),
)

once-within : (t : Problem) (choice : Choice) → IsOfTask t choice → IsWithin (narrowed_once t choice) choice
once-within t choice few = left-within t.hold [] (ordered t.items) choice (omega (arith, few, length-ordered t.items))

-- Pass after pass -------------------------------------------------------------------------------

times-within : (n : ℕ) (t : Problem) (choice : Choice) → IsOfTask t choice → IsWithin (narrowed_times n t choice) choice
times-within zero t choice few = within-self choice
times-within (suc n) t choice few =
    let once = once-within t choice few in
    within-through (narrowed_times n t (narrowed_once t choice)) (narrowed_once t choice) choice
    (times-within n t (narrowed_once t choice) (omega (arith, few, length_all_zip IsPart (narrowed_once t choice) choice once))) once

times-above : (n : ℕ) (t : Problem) (choice other : Choice) → IsStableWithin t choice other → IsWithin other (narrowed_times n t choice)
times-above zero t choice other stable = stable.within
times-above (suc n) t choice other stable = times-above n t (narrowed_once t choice) other record {
  within = subst (λ c. IsWithin c (narrowed_once t choice)) stable.stable (pass-more t other choice stable.within stable.full);
  full = stable.full;
  stable = stable.stable;
}

-- Laws ------------------------------------------------------------------------------------------

pub result-within : (t : Problem) (choice result : Choice) → IsOfTask t choice → IsNarrowed t choice result → IsWithin result choice
result-within t choice result few narrowed = subst (λ c. IsWithin c choice) (sym narrowed.left) (times-within (suc narrowed.again) t choice few)

pub result-above : (t : Problem) (choice result other : Choice) → IsNarrowed t choice result → IsStableWithin t choice other → IsWithin other result
result-above t choice result other narrowed stable = subst (IsWithin other) (sym narrowed.left) (times-above (suc narrowed.again) t choice other stable)

pub none-stable : (t : Problem) (choice result other : Choice) → IsNarrowed t choice result → HasEmpty result → IsStableWithin t choice other → ⊥
none-stable t choice result other narrowed empty stable = stable.full (empty-within other result (result-above t choice result other narrowed stable) empty)

open-greatest : (t : Problem) (choice left : Choice) → IsOfTask t choice → IsOpenAs t choice left → IsGreatest t choice left
open-greatest t choice left few opens = record {
  stable = record {
    within = result-within t choice left few opens.narrowed;
    full = opens.full;
    stable = ⊎_elim (λ (empty : HasEmpty left). absurd (opens.full empty)) (λ (is : narrowed_once t left ≡ left). is) opens.narrowed.ended;
  };
  above = λ other stable. result-above t choice left other opens.narrowed stable;
}

full-or-empty : (t : Problem) (choice : Choice) → (IsOpenAs t choice (narrowed-some t choice).0 → ⊥) → IsClosed t choice
full-or-empty t choice not_open = ⊎_elim
    (λ (empty : list_any is_empty (narrowed-some t choice).0 ≡ true). record { left = (narrowed-some t choice).0; narrowed = (narrowed-some t choice).1; empty = empty })
    (λ (full : list_any is_empty (narrowed-some t choice).0 ≡ false). absurd (not_open record { narrowed = (narrowed-some t choice).1; full = λ empty. false≢true (sym full ∙ empty) }))
    (cases_Bool (list_any is_empty (narrowed-some t choice).0))

greatest-open : (t : Problem) (choice left : Choice) → IsOfTask t choice → IsGreatest t choice left → IsOpenAs t choice left
greatest-open t choice left few greatest =
    let some = narrowed-some t choice in
    ⊎_elim
    (λ (empty : list_any is_empty some.0 ≡ true). absurd (none-stable t choice some.0 left some.1 empty greatest.stable))
    (λ (full : list_any is_empty some.0 ≡ false).
    let opens : IsOpenAs t choice some.0 = record { narrowed = some.1; full = λ empty. false≢true (sym full ∙ empty) } in
    let also = open-greatest t choice some.0 few opens in
    subst (IsOpenAs t choice) (within-both some.0 left (greatest.above some.0 also.stable) (also.above left greatest.stable)) opens)
    (cases_Bool (list_any is_empty some.0))

pub open-iff : (t : Problem) (choice left : Choice) → IsOfTask t choice → IsOpenAs t choice left ↔ IsGreatest t choice left
open-iff t choice left few = (open-greatest t choice left few, greatest-open t choice left few)

pub closed-iff : (t : Problem) (choice : Choice) → IsOfTask t choice → IsClosed t choice ↔ ((other : Choice) → IsStableWithin t choice other → ⊥)
closed-iff t choice few = (
  λ closed other stable. none-stable t choice closed.left other closed.narrowed closed.empty stable,
  λ none. full-or-empty t choice (λ opens. none (narrowed-some t choice).0 (open-greatest t choice (narrowed-some t choice).0 few opens).stable),
)

pub result-ended : (t : Problem) (choice result : Choice) → IsNarrowed t choice result → HasEmpty result ⊎ (narrowed_once t result ≡ result)
result-ended t choice result narrowed = narrowed.ended

-- Sets for no more containers -------------------------------------------------------------------

pub full-of_task : (t : Problem) → IsOfTask t (full t)
full-of_task t = let sets = length-map (ordered t.items) (λ (item : Item). filter (λ q. is_accepted t.hold (item, q)) (range_with_len 0 (length t.hold.positions))) in
    omega (arith, sets, length-ordered t.items)

fixed-length : (prefix : List ℕ) (choice : Choice) → length (fixed prefix choice) ≤ length choice
fixed-length [] choice = omega arith
fixed-length (q ∷ prefix) [] = omega arith
fixed-length (q ∷ prefix) (set ∷ choice) = let rest = fixed-length prefix choice in omega (arith, rest)

pub fixed-of_task : (t : Problem) (prefix : List ℕ) (choice : Choice) → IsOfTask t choice → IsOfTask t (fixed prefix choice)
fixed-of_task t prefix choice few = omega (arith, few, fixed-length prefix choice)

pub narrowed-of_task : (t : Problem) (choice result : Choice) → IsOfTask t choice → IsNarrowed t choice result → IsOfTask t result
narrowed-of_task t choice result few narrowed = omega (arith, few, length_all_zip IsPart result choice (result-within t choice result few narrowed))

cheap-length : (hold : Layout) (v : Prices) (slack : ℤ) (items : List Item) (choice : Choice) → length (cheap hold v slack (zip items choice)) ≤ length choice
cheap-length hold v slack [] choice = omega arith
cheap-length hold v slack (item ∷ items) [] = omega arith
cheap-length hold v slack (item ∷ items) (set ∷ choice) = let rest = cheap-length hold v slack items choice in omega (arith, rest)

pub trimmed-of_task : (t : Problem) (ticks : Ticks) (v : Prices) (choice : Choice) → IsOfTask t choice → IsOfTask t (trimmed t ticks v choice)
trimmed-of_task t ticks v choice few = omega (arith, few, cheap-length t.hold v (goal ticks v.end -ℤ value t choice v) (ordered t.items) choice)

cut-length : (test : ℕ → Bool) (i : ℕ) (choice : Choice) → length (cut test i choice) ≡ length choice
cut-length test i [] = refl
cut-length test zero (set ∷ choice) = refl
cut-length test (suc i) (set ∷ choice) = ap suc (cut-length test i choice)

pub cut-of_task : (t : Problem) (test : ℕ → Bool) (i : ℕ) (choice : Choice) → IsOfTask t choice → IsOfTask t (cut test i choice)
cut-of_task t test i choice few = omega (arith, few, cut-length test i choice)
