-- no regular placement is lost where a choice is narrowed, trimmed or split
use Rattle.std.proofs.Common.{◌≡◌, ◌≢◌, ◌⊎◌, ⊎_elim, inl, inr, ℕ, zero, suc, ◌<◌, ◌≤◌, ℤ, ◌-ℤ◌, Bool, true, false, not, ◌&&◌, ◌||◌, nat_lt, List, [], ◌∷◌, ◌++◌, map, zip, length, refl, ap, sym, ◌∙◌, subst, arith, lt-ltb}
use Rattle.std.specs.Prelude.{◌≤ℤ◌, int_le}
use Rattle.std.specs.List.{AllByRecursion, AllZip, filter, list_all, list_any}
use Rattle.std.proofs.lemmas.Bool.{cases_Bool, false≢true}
use Rattle.std.proofs.lemmas.Bool.Decides.{eqb_tells}
use Rattle.std.proofs.lemmas.Int.{ints}
use Rattle.base_words.specs.Lists.{int_sum_by}
use Rattle.base_words.proofs.Arrangements.{Ranked}
use Rattle.base_words.proofs.PairLemmas.{Ranked-from_AllPairs}
use Rattle.hold_parts.specs.declared.parts.Item.{Item}
use Rattle.hold_parts.specs.Limits.{is_listed}
use Rattle.hold_parts.specs.Twins.{AreTwins, are_twins}
use Rattle.hold_limits.specs.BranchOrder.{ordered}
use Rattle.hold_limits.specs.Enumeration.{exclude}
use Rattle.hold_limits.specs.Layout.{Layout}
use Rattle.hold_limits.specs.Placement.{Placed, placed, Exclude}
use Rattle.hold_limits.specs.Problem.{Problem}
use Rattle.hold_limits.proofs.EnumerationLemmas.{exclude-Decides, int_le-Decides, Any-weaker}
use Rattle.hold_limits.proofs.TwinLemmas.{are_twins-Decides}
use Rattle.price_trees.specs.Prices.{Choice, Candidate, candidates, IsAmong, Prices, cost, least_cost}
use Rattle.price_trees.specs.Narrowing.{IsRegular, HasEmpty, leaves, leaves_later, leaves_earlier, left_by, narrowed_once, cheap, cut}
use Rattle.price_trees.proofs.PriceLaw.{least-le, leasts-le}

-- a listed number that passes the test is listed among those that pass
pub listed-filter : (test : ℕ → Bool) (set : List ℕ) (q : ℕ) → is_listed set q ≡ true → test q ≡ true → is_listed (filter test set) q ≡ true
listed-filter test [] q listed passes = listed
listed-filter test (p ∷ set) q listed passes = ⊎_elim
    (λ same.
    let here : test p ≡ true = ap test same.1 ∙ passes in
    rw here (rw same.0 refl))
    (λ other.
    let rest : is_listed (filter test set) q ≡ true = listed-filter test set q (rw other.0 at listed) passes in
    ⊎_elim
    (λ (here : test p ≡ true). rw here (rw other.0 rest))
    (λ (not_here : test p ≡ false). rw not_here rest)
    (cases_Bool (test p)))
    (eqb_tells p q)

-- Split -----------------------------------------------------------------------------------------

pub among-cut : (test : ℕ → Bool) (i : ℕ) (path : List ℕ) (choice : Choice) → IsAmong path choice → IsAmong path (cut test i choice) ⊎ IsAmong path (cut (λ p. not (test p)) i choice)
among-cut test i [] [] among = inl among
among-cut test i [] (set ∷ choice) among = absurd among
among-cut test i (q ∷ path) [] among = absurd among
among-cut test zero (q ∷ path) (set ∷ choice) among = ⊎_elim
    (λ (kept : test q ≡ true). inl (listed-filter test set q among.0 kept, among.1))
    (λ (dropped : test q ≡ false). inr (listed-filter (λ p. not (test p)) set q among.0 (rw dropped refl), among.1))
    (cases_Bool (test q))
among-cut test (suc i) (q ∷ path) (set ∷ choice) among = ⊎_elim
    (λ (kept : IsAmong path (cut test i choice)). inl (among.0, kept))
    (λ (dropped : IsAmong path (cut (λ p. not (test p)) i choice)). inr (among.0, dropped))
    (among-cut test i path choice among.1)

-- Trim ------------------------------------------------------------------------------------------

pub among-cheap : (hold : Layout) (v : Prices) (slack : ℤ) (items : List Item) (path : List ℕ) (choice : Choice) → length path ≤ length items → IsAmong path choice
    → (int_sum_by (cost hold v) (zip items path) -ℤ int_sum_by (least_cost hold v) (zip items choice)) ≤ℤ slack
    → IsAmong path (cheap hold v slack (zip items choice))
among-cheap hold v slack [] [] [] short among little = tt
among-cheap hold v slack [] [] (set ∷ choice) short among little = absurd among
among-cheap hold v slack [] (q ∷ path) choice short among little = absurd (omega arith)
among-cheap hold v slack (item ∷ items) [] [] short among little = tt
among-cheap hold v slack (item ∷ items) [] (set ∷ choice) short among little = absurd among
among-cheap hold v slack (item ∷ items) (q ∷ path) [] short among little = absurd among
among-cheap hold v slack (item ∷ items) (q ∷ path) (set ∷ choice) short among little =
    let here = least-le (λ q. cost hold v (item, q)) set q among.0 in
    let rest = leasts-le (cost hold v) items path choice among.1 in
    let own : (cost hold v (item, q) -ℤ least_cost hold v (item, set)) ≤ℤ slack = omega (arith, ints) in (
      listed-filter (λ p. int_le (cost hold v (item, p) -ℤ least_cost hold v (item, set)) slack) set q among.0 ((int_le-Decides _ _).1 own),
      among-cheap hold v slack items path choice (omega arith) among.1 (omega (arith, ints)),
    )

-- Positions that other containers leave -----------------------------------------------------------

-- two placed containers, in branch order, that may stand beside each other
record Together (hold : Layout) (a b : Placed) : Type 0 where
  apart : a.1 ≢ b.1
  compatible : Exclude hold a.1 b.1 → ⊥
  rising : AreTwins a.0 b.0 → a.1 < b.1

-- a placed container has one of its candidate's positions
abbrev Takes : Placed → Candidate → Type 0
Takes p c = (c.0 ≡ p.0) × (is_listed c.1 p.1 ≡ true)

Exclude-sym : (hold : Layout) (q p : ℕ) → Exclude hold q p → Exclude hold p q
Exclude-sym hold q p = Any-weaker
    (λ (pair : ℕ × ℕ). ((pair.0 ≡ q) × (pair.1 ≡ p)) ⊎ ((pair.0 ≡ p) × (pair.1 ≡ q)))
    (λ (pair : ℕ × ℕ). ((pair.0 ≡ p) × (pair.1 ≡ q)) ⊎ ((pair.0 ≡ q) × (pair.1 ≡ p)))
    (λ pair. ⊎_elim inr inl)
    hold.excludes

one-leaves : (hold : Layout) (p q : ℕ) → q ≢ p → (Exclude hold q p → ⊥) → leaves hold (q ∷ []) p ≡ true
one-leaves hold p q apart compatible = ⊎_elim
    (λ same. absurd (apart same.1))
    (λ other. ⊎_elim
    (λ (excluded : exclude hold q p ≡ true). absurd (compatible ((exclude-Decides hold q p).0 excluded)))
    (λ (free : exclude hold q p ≡ false). rw other.0 (rw free refl))
    (cases_Bool (exclude hold q p)))
    (eqb_tells q p)

set-leaves : (hold : Layout) (p q : ℕ) (set : List ℕ) → q ≢ p → (Exclude hold q p → ⊥) → is_listed set q ≡ true → leaves hold set p ≡ true
set-leaves hold p q [] apart compatible listed = refl
set-leaves hold p q (r ∷ []) apart compatible listed = ⊎_elim
    (λ same. rw same.1 (one-leaves hold p q apart compatible))
    (λ other. absurd (false≢true (rw other.0 at listed)))
    (eqb_tells r q)
set-leaves hold p q (r ∷ s ∷ set) apart compatible listed = refl

any-listed : (test : ℕ → Bool) (set : List ℕ) (q : ℕ) → is_listed set q ≡ true → test q ≡ true → list_any test set ≡ true
any-listed test [] q listed passes = absurd (false≢true listed)
any-listed test (p ∷ set) q listed passes = ⊎_elim
    (λ (here : test p ≡ true). rw here refl)
    (λ (not_here : test p ≡ false). ⊎_elim
    (λ same. absurd (false≢true (sym not_here ∙ ap test same.1 ∙ passes)))
    (λ other. rw not_here (any-listed test set q (rw other.0 at listed) passes))
    (eqb_tells p q))
    (cases_Bool (test p))

-- a test with a premise passes where the premise fails, or the test passes
implied : (premise test : Bool) → (premise ≡ true → test ≡ true) → (not premise || test) ≡ true
implied true test passes = passes refl
implied false test passes = refl

earlier-leaves : (hold : Layout) (a b : Placed) (c : Candidate) → Together hold a b → Takes a c → leaves_later hold b.0 b.1 c ≡ true
earlier-leaves hold a b c together takes =
    let free = set-leaves hold b.1 a.1 c.1 together.apart together.compatible takes.1 in
    let below = implied (are_twins c.0 b.0) (list_any (λ q. nat_lt q b.1) c.1) (λ twins.
    let rising = together.rising (subst (λ item. AreTwins item b.0) takes.0 ((are_twins-Decides c.0 b.0).0 twins)) in
    any-listed (λ q. nat_lt q b.1) c.1 a.1 takes.1 (lt-ltb a.1 b.1 rising)) in
    rw (free, below) refl

later-leaves : (hold : Layout) (a b : Placed) (c : Candidate) → Together hold a b → Takes b c → leaves_earlier hold a.0 a.1 c ≡ true
later-leaves hold a b c together takes =
    let free = set-leaves hold a.1 b.1 c.1 (λ same. together.apart (sym same)) (λ excluded. together.compatible (Exclude-sym hold b.1 a.1 excluded)) takes.1 in
    let above = implied (are_twins a.0 c.0) (list_any (λ q. nat_lt a.1 q) c.1) (λ twins.
    let rising = together.rising (subst (λ item. AreTwins a.0 item) takes.0 ((are_twins-Decides a.0 c.0).0 twins)) in
    any-listed (λ q. nat_lt a.1 q) c.1 b.1 takes.1 (lt-ltb a.1 b.1 rising)) in
    rw (free, above) refl

all-earlier-leave : (hold : Layout) (p : Placed) (earlier : List Placed) (before : List Candidate) → AllZip Takes earlier before → AllByRecursion (λ a. Together hold a p) earlier
    → list_all (leaves_later hold p.0 p.1) before ≡ true
all-earlier-leave hold p [] [] takes together = refl
all-earlier-leave hold p [] (c ∷ before) takes together = absurd takes
all-earlier-leave hold p (a ∷ earlier) [] takes together = absurd takes
all-earlier-leave hold p (a ∷ earlier) (c ∷ before) takes together =
    rw (earlier-leaves hold a p c together.0 takes.0) (all-earlier-leave hold p earlier before takes.1 together.1)

all-later-leave : (hold : Layout) (p : Placed) (later : List Placed) (after : List Candidate) → AllZip Takes later after → AllByRecursion (Together hold p) later
    → list_all (leaves_earlier hold p.0 p.1) after ≡ true
all-later-leave hold p [] [] takes together = refl
all-later-leave hold p [] (c ∷ after) takes together = absurd takes
all-later-leave hold p (b ∷ later) [] takes together = absurd takes
all-later-leave hold p (b ∷ later) (c ∷ after) takes together =
    rw (later-leaves hold p b c together.0 takes.0) (all-later-leave hold p later after takes.1 together.1)

AllByRecursion-push : {X : Type 0} (P : X → Type 0) (xs : List X) (x : X) → AllByRecursion P xs → P x → AllByRecursion P (xs ++ x ∷ [])
AllByRecursion-push P [] x each here = (here, tt)
AllByRecursion-push P (y ∷ xs) x each here = (each.0, AllByRecursion-push P xs x each.1 here)

Takes-push : (earlier : List Placed) (before : List Candidate) (p : Placed) (c : Candidate) → AllZip Takes earlier before → Takes p c → AllZip Takes (earlier ++ p ∷ []) (before ++ c ∷ [])
Takes-push [] [] p c takes here = (here, tt)
Takes-push [] (d ∷ before) p c takes here = absurd takes
Takes-push (a ∷ earlier) [] p c takes here = absurd takes
Takes-push (a ∷ earlier) (d ∷ before) p c takes here = (takes.0, Takes-push earlier before p c takes.1 here)

crossed : (hold : Layout) (p : Placed) (earlier later : List Placed) → AllByRecursion (Together hold p) later → AllByRecursion (λ x. AllByRecursion (λ a. Together hold a x) earlier) later
    → AllByRecursion (λ x. AllByRecursion (λ a. Together hold a x) (earlier ++ p ∷ [])) later
crossed hold p earlier [] one others = tt
crossed hold p earlier (x ∷ later) one others = (AllByRecursion-push (λ a. Together hold a x) earlier p others.0 one.0, crossed hold p earlier later one.1 others.1)

abbrev numbers : List Placed → List ℕ
numbers containers = map (λ (p : Placed). p.1) containers

among-left : (hold : Layout) (earlier : List Placed) (before : List Candidate) (later : List Placed) (after : List Candidate)
    → AllZip Takes earlier before → AllZip Takes later after → Ranked (Together hold) later → AllByRecursion (λ p. AllByRecursion (λ a. Together hold a p) earlier) later
    → IsAmong (numbers later) (left_by hold before after)
among-left hold earlier before [] [] left right ranked cross = tt
among-left hold earlier before [] (c ∷ after) left right ranked cross = absurd right
among-left hold earlier before (p ∷ later) [] left right ranked cross = absurd right
among-left hold earlier before (p ∷ later) (c ∷ after) left right ranked cross =
    let first : list_all (leaves_later hold c.0 p.1) before ≡ true = subst (λ item. list_all (leaves_later hold item p.1) before ≡ true) (sym right.0.0) (all-earlier-leave hold p earlier before left cross.0) in
    let second : list_all (leaves_earlier hold c.0 p.1) after ≡ true = subst (λ item. list_all (leaves_earlier hold item p.1) after ≡ true) (sym right.0.0) (all-later-leave hold p later after right.1 ranked.0) in (
      listed-filter (λ p. list_all (leaves_later hold c.0 p) before && list_all (leaves_earlier hold c.0 p) after) c.1 p.1 right.0.1 (rw (first, second) refl),
      among-left hold (earlier ++ p ∷ []) (before ++ c ∷ []) later after (Takes-push earlier before p c left right.0) right.1 ranked.1 (crossed hold p earlier later ranked.0 cross.1),
    )

none-crossed : (hold : Layout) (later : List Placed) → AllByRecursion (λ p. AllByRecursion (λ a. Together hold a p) []) later
none-crossed hold [] = tt
none-crossed hold (p ∷ later) = (tt, none-crossed hold later)

-- what holds of the numbers of a prefix, pair by pair, holds of its placed containers
zip-each : (R : ℕ → ℕ → Type 0) (a : Placed) (items : List Item) (path : List ℕ) → AllByRecursion (R a.1) path → AllByRecursion (λ (b : Placed). R a.1 b.1) (zip items path)
zip-each R a [] path each = tt
zip-each R a (item ∷ items) [] each = tt
zip-each R a (item ∷ items) (q ∷ path) each = (each.0, zip-each R a items path each.1)

zip-ranked : (R : ℕ → ℕ → Type 0) (items : List Item) (path : List ℕ) → Ranked R path → Ranked (λ (a b : Placed). R a.1 b.1) (zip items path)
zip-ranked R [] path ranked = tt
zip-ranked R (item ∷ items) [] ranked = tt
zip-ranked R (item ∷ items) (q ∷ path) ranked = (zip-each R (item, q) items path ranked.0, zip-ranked R items path ranked.1)

ranked-together : (hold : Layout) (containers : List Placed) → Ranked (λ (a b : Placed). a.1 ≢ b.1) containers → Ranked (λ (a b : Placed). Exclude hold a.1 b.1 → ⊥) containers
    → Ranked (λ (a b : Placed). AreTwins a.0 b.0 → a.1 < b.1) containers → Ranked (Together hold) containers
ranked-together hold [] apart compatible rising = tt
ranked-together hold (a ∷ containers) apart compatible rising = (each containers apart.0 compatible.0 rising.0, ranked-together hold containers apart.1 compatible.1 rising.1)
  where
    each : (rest : List Placed) → AllByRecursion (λ (b : Placed). a.1 ≢ b.1) rest → AllByRecursion (λ (b : Placed). Exclude hold a.1 b.1 → ⊥) rest
        → AllByRecursion (λ (b : Placed). AreTwins a.0 b.0 → a.1 < b.1) rest → AllByRecursion (Together hold a) rest
    each [] first second third = tt
    each (b ∷ rest) first second third = (record { apart = first.0; compatible = second.0; rising = third.0 }, each rest first.1 second.1 third.1)

takes-each : (items : List Item) (path : List ℕ) (choice : Choice) → IsAmong path choice → AllZip Takes (zip items path) (zip items choice)
takes-each [] path choice among = tt
takes-each (item ∷ items) [] [] among = tt
takes-each (item ∷ items) [] (set ∷ choice) among = absurd among
takes-each (item ∷ items) (q ∷ path) [] among = absurd among
takes-each (item ∷ items) (q ∷ path) (set ∷ choice) among = ((refl, among.0), takes-each items path choice among.1)

numbers-zip : (items : List Item) (path : List ℕ) → length path ≤ length items → numbers (zip items path) ≡ path
numbers-zip [] [] short = refl
numbers-zip [] (q ∷ path) short = absurd (omega arith)
numbers-zip (item ∷ items) [] short = refl
numbers-zip (item ∷ items) (q ∷ path) short = ap (λ rest. q ∷ rest) (numbers-zip items path (omega arith))

pub among-narrowed : (t : Problem) (choice : Choice) (path : List ℕ) → length path ≤ length (ordered t.items) → IsRegular t path → IsAmong path choice → IsAmong path (narrowed_once t choice)
among-narrowed t choice path short regular among =
    let containers = placed t path in
    let apart = zip-ranked (λ a b. a ≢ b) (ordered t.items) path (Ranked-from_AllPairs (λ a b. a ≢ b) path regular.sound.apart) in
    let compatible = zip-ranked (λ a b. Exclude t.hold a b → ⊥) (ordered t.items) path (Ranked-from_AllPairs (λ a b. Exclude t.hold a b → ⊥) path regular.sound.compatible) in
    let rising = Ranked-from_AllPairs (λ (a b : Placed). AreTwins a.0 b.0 → a.1 < b.1) containers regular.rising in
    let left = among-left t.hold [] [] containers (candidates t choice) tt (takes-each (ordered t.items) path choice among)
    (ranked-together t.hold containers apart compatible rising) (none-crossed t.hold containers) in
    subst (λ whole. IsAmong whole (narrowed_once t choice)) (numbers-zip (ordered t.items) path short) left

-- no path is among a choice with an empty set
pub none-empty : (path : List ℕ) (choice : Choice) → IsAmong path choice → HasEmpty choice → ⊥
none-empty [] [] among empty = false≢true empty
none-empty [] (set ∷ choice) among empty = among
none-empty (q ∷ path) [] among empty = among
none-empty (q ∷ path) ([] ∷ choice) among empty = false≢true among.0
none-empty (q ∷ path) ((p ∷ set) ∷ choice) among empty = none-empty path choice among.1 empty
