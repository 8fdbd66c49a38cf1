-- the loads of the limits with one container more, and back
use Rattle.std.proofs.Common.{◌≡◌, ⊎_elim, ℕ, zero, suc, ◌+◌, ◌<◌, ◌≤◌, ◌^◌, Bool, true, false, ◌&&◌, ◌==◌, nat_lt, List, [], ◌∷◌, ◌++◌, length, cond, Some, option_map, refl, ap, sym, subst, ◌∙◌, arith, add-one}
use Rattle.std.proofs.lemmas.Bool.{cases_Bool, false≢true}
use Rattle.std.proofs.lemmas.Bool.Decides.{nat_tests, eqb_tells}
use Rattle.std.proofs.lemmas.List.Elements.{All-append, All-map, All-from_recursion}
use Rattle.std.proofs.lemmas.List.Sums.{sum_by-append, sum_by_push}
use Rattle.std.proofs.lemmas.Option.{slice_get_cases, slice_get_within, get_or_from_slice_get}
use Rattle.std.specs.Prelude.{slice_get, slice_index, All, if◌then◌else◌}
use Rattle.std.specs.List.{AllByRecursion, filter, find, range_with_len}
use Rattle.std.specs.Option.{option_map_or}
use Rattle.hold_parts.specs.declared.parts.Combined.{Combined}
use Rattle.hold_parts.specs.declared.parts.Cumulative.{Cumulative}
use Rattle.hold_parts.specs.declared.parts.Item.{Item}
use Rattle.hold_limits.specs.Layout.{Layout}
use Rattle.hold_limits.specs.Problem.{Problem}
use Rattle.hold_limits.specs.BranchOrder.{ordered}
use Rattle.hold_limits.specs.Faults.{IsLawful}
use Rattle.hold_limits.specs.Placement.{Placed, placed, placed_load, load_of, IsSound}
use Rattle.hold_parts.specs.Limits.{is_listed, is_counted}
use Rattle.hold_partial.specs.Limits.{Allowance, limits_of, limit_covers, limit_load, limits_on, rule_at, added_at, AreLoads, AreAllowed}
use Rattle.hold_reach.specs.Rules.{limit_broken}
use Rattle.hold_partial.proofs.FirstLimit.{each-number, find-filter, find-below, find-place, is_over, first-limit}
use Rattle.hold_partial.proofs.LimitLemmas.{filter-more}
use Rattle.hold_reach.proofs.RuleLemmas.{placed-push}

-- One container more ----------------------------------------------------------------------------

pub load-next : (is_in : ℕ → Bool) (t : Problem) (prefix : List ℕ) (item : Item) (q : ℕ) → length prefix < length t.items → slice_get (ordered t.items) (length prefix) ≡ Some item
    → load_of is_in t (prefix ++ q ∷ []) ≡ load_of is_in t prefix + (if is_in q then item.mass.0 else 0)
load-next is_in t prefix item q within there =
    let mass : Placed → ℕ = λ p. if is_in p.1 then p.0.mass.0 else 0 in
    let more : placed_load is_in (placed t (prefix ++ q ∷ [])) ≡ placed_load is_in (placed t prefix) + (if is_in q then item.mass.0 else 0) =
    ap (placed_load is_in) (placed-push t prefix item q there) ∙ sum_by_push mass (placed t prefix) (item, q) in
    omega (arith, more)

limit-next : (t : Problem) (prefix : List ℕ) (item : Item) (q j : ℕ) → length prefix < length t.items → slice_get (ordered t.items) (length prefix) ≡ Some item
    → limit_load t (prefix ++ q ∷ []) j ≡ limit_load t prefix j + (if limit_covers t.hold j q then item.mass.0 else 0)
limit-next t prefix item q j within there = ⊎_elim
    (λ here. rw here.2 (load-next here.0.0 t prefix item q within there))
    (λ past. rw past.1 (omega arith))
    (slice_get_cases (limits_of t.hold) j).1

-- What is added ---------------------------------------------------------------------------------

added-one : (mass k n : ℕ) (b : Bool) → added_at mass (cond b (n ∷ []) []) k ≡ (if b && (n == k) then mass else 0)
added-one mass k n true = grind (arith, nat_tests)
added-one mass k n false = refl

added-step : (mass k n : ℕ) (p : ℕ → Bool) (so_far : ℕ) → so_far ≡ (if nat_lt k n && p k then mass else 0)
    → so_far + (if p n && (n == k) then mass else 0) ≡ (if nat_lt k (n + 1) && p k then mass else 0)
added-step mass k n p so_far is = ⊎_elim
    (λ same.
    let passed : nat_lt k n ≡ false = (let equal : n ≡ k = same.1 in grind (arith, nat_tests)) in
    let now : nat_lt k (n + 1) ≡ true = (let equal : n ≡ k = same.1 in grind (arith, nat_tests)) in
    let none : so_far ≡ 0 = rw passed at is in
    let also : p n ≡ p k = ap p same.1 in
    rw (none, also, same.0, now) (equal (p k) mass))
    (λ other.
    let lasting : nat_lt k (n + 1) ≡ nat_lt k n = (let differ = other.1 in grind (arith, nat_tests)) in
    rw (other.0, lasting, is) (unequal (p n) (nat_lt k n && p k) mass))
    (eqb_tells n k)
  where
    equal : (b : Bool) (mass : ℕ) → 0 + (if b && true then mass else 0) ≡ (if true && b then mass else 0)
    equal true mass = omega arith
    equal false mass = omega arith

    unequal : (b c : Bool) (mass : ℕ) → (if c then mass else 0) + (if b && false then mass else 0) ≡ (if c then mass else 0)
    unequal true c mass = omega arith
    unequal false c mass = omega arith

added-filter : (mass k n : ℕ) (p : ℕ → Bool) → added_at mass (filter p (range_with_len 0 n)) k ≡ (if nat_lt k n && p k then mass else 0)
added-filter mass k zero p = let none : nat_lt k 0 ≡ false = grind (arith, nat_tests) in rw none refl
added-filter mass k (suc n) p =
    let P : ℕ → Type 0 = λ m. added_at mass (filter p (range_with_len 0 m)) k ≡ (if nat_lt k m && p k then mass else 0) in
    let split : added_at mass (filter p (range_with_len 0 (n + 1))) k ≡ added_at mass (filter p (range_with_len 0 n)) k + (if p n && (n == k) then mass else 0) =
    ap (λ ns. added_at mass ns k) (filter-more p n (p n) refl)
    ∙ sum_by-append (λ j. if j == k then mass else 0) (filter p (range_with_len 0 n)) (cond (p n) (n ∷ []) [])
    ∙ ap (λ m. added_at mass (filter p (range_with_len 0 n)) k + m) (added-one mass k n (p n)) in
    subst P (add-one n) (split ∙ added-step mass k n p _ (added-filter mass k n p))

covers-below : (b c : Bool) (mass : ℕ) → (c ≡ true → b ≡ true) → (if b && c then mass else 0) ≡ (if c then mass else 0)
covers-below true c mass below = refl
covers-below false false mass below = refl
covers-below false true mass below = absurd (false≢true (below refl))

-- at a limit is added what counts in it
pub added-on : (hold : Layout) (q mass k : ℕ) → added_at mass (limits_on hold q) k ≡ (if limit_covers hold k q then mass else 0)
added-on hold q mass k =
    added-filter mass k (length (limits_of hold)) (λ j. limit_covers hold j q)
    ∙ covers-below (nat_lt k (length (limits_of hold))) (limit_covers hold k q) mass (λ covers. ⊎_elim
    (λ here. let less : k < length (limits_of hold) = here.1 in grind (arith, nat_tests))
    (λ past. absurd (false≢true (rw past.1 at covers)))
    (slice_get_cases (limits_of hold) k).1)

pub loads-next : (t : Problem) (prefix : List ℕ) (item : Item) (q : ℕ) (old new : List ℕ) → length prefix < length t.items → slice_get (ordered t.items) (length prefix) ≡ Some item
    → AreLoads t prefix old → ((k : ℕ) → slice_index new k ≡ slice_index old k + added_at item.mass.0 (limits_on t.hold q) k) → AreLoads t (prefix ++ q ∷ []) new
loads-next t prefix item q old new within there loads added j below =
    omega (arith, added j, added-on t.hold q item.mass.0 j, loads j below, limit-next t prefix item q j within there)

pub loads-back : (t : Problem) (prefix : List ℕ) (item : Item) (q : ℕ) (old new : List ℕ) → length prefix < length t.items → slice_get (ordered t.items) (length prefix) ≡ Some item
    → AreLoads t (prefix ++ q ∷ []) old → ((k : ℕ) → slice_index new k + added_at item.mass.0 (limits_on t.hold q) k ≡ slice_index old k) → AreLoads t prefix new
loads-back t prefix item q old new within there loads taken j below =
    omega (arith, taken j, added-on t.hold q item.mass.0 j, loads j below, limit-next t prefix item q j within there)

-- All limits ------------------------------------------------------------------------------------

each-limit : (P : Allowance → Type 0) (hold : Layout) → All (λ (c : Combined). P (is_listed c.places, c.most.0)) hold.combined → All (λ (c : Cumulative). P (is_counted c, c.most.0)) hold.cumulative
    → (j : ℕ) (l : Allowance) → slice_get (limits_of hold) j ≡ Some l → P l
each-limit P hold combined cumulative j l there =
    let all : All P (limits_of hold) = All-append P _ _
    (All-map P (λ (c : Combined). (is_listed c.places, c.most.0)) hold.combined combined)
    (All-map P (λ (c : Cumulative). (is_counted c, c.most.0)) hold.cumulative cumulative) in
    subst P (get_or_from_slice_get (limits_of hold) j l l there) (all j l (slice_get_within (limits_of hold) j l there))

-- a sound prefix keeps each limit
pub limits-kept : (t : Problem) (prefix : List ℕ) → IsSound t prefix → (j : ℕ) (l : Allowance) → slice_get (limits_of t.hold) j ≡ Some l → load_of l.0 t prefix ≤ l.1
limits-kept t prefix sound = each-limit (λ l. load_of l.0 t prefix ≤ l.1) t.hold sound.combined sound.cumulative

-- a lawful hold allows at most 999,999,999 kg anywhere
pub limits-low : (t : Problem) → IsLawful t → (j : ℕ) (l : Allowance) → slice_get (limits_of t.hold) j ≡ Some l → l.1 ≤ 999999999
limits-low t lawful = each-limit (λ l. l.1 ≤ 999999999) t.hold lawful.hold.spelled.combined lawful.hold.spelled.cumulative

filter-each : (P : ℕ → Type 0) (p : ℕ → Bool) (ns : List ℕ) → AllByRecursion P ns → AllByRecursion P (filter p ns)
filter-each P p [] each = tt
filter-each P p (n ∷ ns) each = ⊎_elim
    (λ (passes : p n ≡ true). rw passes (each.0, filter-each P p ns each.1))
    (λ (fails : p n ≡ false). rw fails (filter-each P p ns each.1))
    (cases_Bool (p n))

-- what holds of each place of the list holds of each limit that speaks of a position
pub each-on : (P : ℕ → Type 0) (hold : Layout) (q : ℕ) → ((k : ℕ) → k < length (limits_of hold) → P k) → All P (limits_on hold q)
each-on P hold q each =
    All-from_recursion P (limits_on hold q)
    (filter-each P (λ j. limit_covers hold j q) (range_with_len 0 (length (limits_of hold))) (each-number P 0 (length (limits_of hold)) (λ j low high. each j (omega arith))))

load-low : (t : Problem) (prefix : List ℕ) → IsLawful t → IsSound t prefix → (k : ℕ) → k < length (limits_of t.hold) → limit_load t prefix k ≤ 999999999
load-low t prefix lawful sound k below = ⊎_elim
    (λ here. rw here.2 (omega (arith, limits-kept t prefix sound k here.0 here.2, limits-low t lawful k here.0 here.2)))
    (λ past. absurd (omega (arith, past.0)))
    (slice_get_cases (limits_of t.hold) k).1

counted-low : (b : Bool) (mass : ℕ) → (if b then mass else 0) ≤ mass
counted-low true mass = omega arith
counted-low false mass = omega arith

-- a load with a container's mass added fits
pub loads-fit : (t : Problem) (prefix loads : List ℕ) (q mass : ℕ) → IsLawful t → IsSound t prefix → AreLoads t prefix loads → mass ≤ 20000
    → All (λ k. slice_index loads k + added_at mass (limits_on t.hold q) k < 2 ^ 32) (limits_on t.hold q)
loads-fit t prefix loads q mass lawful sound are light =
    each-on (λ k. slice_index loads k + added_at mass (limits_on t.hold q) k < 2 ^ 32) t.hold q
    (λ k below. omega (arith, are k below, load-low t prefix lawful sound k below, added-on t.hold q mass k, counted-low (limit_covers t.hold k q) mass))

pub loads-fit_mass : (t : Problem) (prefix loads : List ℕ) (q mass : ℕ) → IsLawful t → IsSound t prefix → AreLoads t prefix loads → mass ≤ 20000
    → All (λ k. slice_index loads k + mass < 2 ^ 32) (limits_on t.hold q)
loads-fit_mass t prefix loads q mass lawful sound are light =
    each-on (λ k. slice_index loads k + mass < 2 ^ 32) t.hold q
    (λ k below. omega (arith, are k below, load-low t prefix lawful sound k below))

-- the last container's mass is in the loads
pub loads-there : (t : Problem) (prefix loads : List ℕ) (item : Item) (q : ℕ) → length prefix < length t.items → slice_get (ordered t.items) (length prefix) ≡ Some item
    → AreLoads t (prefix ++ q ∷ []) loads → All (λ k. added_at item.mass.0 (limits_on t.hold q) k ≤ slice_index loads k) (limits_on t.hold q)
loads-there t prefix loads item q within there are =
    each-on (λ k. added_at item.mass.0 (limits_on t.hold q) k ≤ slice_index loads k) t.hold q
    (λ k below. omega (arith, are k below, added-on t.hold q item.mass.0 k, limit-next t prefix item q k within there))

-- The first that breaks -------------------------------------------------------------------------

over-by : (covers : Bool) (most load mass next : ℕ) → load ≤ most → next ≡ load + (if covers then mass else 0) → (covers && nat_lt most (load + mass)) ≡ nat_lt most next
over-by true most load mass next kept is = rw is refl
over-by false most load mass next kept is =
    let not_over : nat_lt most next ≡ false = grind (arith, nat_tests) in
    sym not_over

over-at : (t : Problem) (prefix loads allowed : List ℕ) (item : Item) (q : ℕ) → IsSound t prefix → length prefix < length t.items → slice_get (ordered t.items) (length prefix) ≡ Some item
    → AreLoads t prefix loads → AreAllowed t.hold allowed → (j : ℕ) → j < length (limits_of t.hold)
    → (limit_covers t.hold j q && nat_lt (slice_index allowed j) (slice_index loads j + item.mass.0)) ≡ option_map_or (is_over t (prefix ++ q ∷ [])) (slice_get (limits_of t.hold) j) false
over-at t prefix loads allowed item q sound within there are may j below = ⊎_elim
    (λ here.
    let l : Allowance = here.0 in
    let covers : limit_covers t.hold j q ≡ l.0 q = rw here.2 refl in
    let load : slice_index loads j ≡ load_of l.0 t prefix = are j below ∙ rw here.2 refl in
    let most : slice_index allowed j ≡ l.1 = may j below ∙ rw here.2 refl in
    let over : option_map_or (is_over t (prefix ++ q ∷ [])) (slice_get (limits_of t.hold) j) false ≡ nat_lt l.1 (load_of l.0 t (prefix ++ q ∷ [])) = rw here.2 refl in
    rw (covers, load, most) (over-by (l.0 q) l.1 (load_of l.0 t prefix) item.mass.0 (load_of l.0 t (prefix ++ q ∷ [])) (limits-kept t prefix sound j l here.2) (load-next l.0 t prefix item q within there)) ∙ sym over)
    (λ past. absurd (omega (arith, past.0)))
    (slice_get_cases (limits_of t.hold) j).1

-- the first limit that speaks of the position and would be over breaks first
pub first-over-is : (t : Problem) (prefix loads allowed : List ℕ) (item : Item) (q : ℕ) → IsSound t prefix → length prefix < length t.items → slice_get (ordered t.items) (length prefix) ≡ Some item
    → AreLoads t prefix loads → AreAllowed t.hold allowed
    → option_map (rule_at t.hold) (find (λ j. nat_lt (slice_index allowed j) (slice_index loads j + item.mass.0)) (limits_on t.hold q)) ≡ limit_broken t (prefix ++ q ∷ [])
first-over-is t prefix loads allowed item q sound within there are may =
    let test : ℕ → Bool = λ j. nat_lt (slice_index allowed j) (slice_index loads j + item.mass.0) in
    let n : ℕ = length (limits_of t.hold) in
    ap (option_map (rule_at t.hold))
    (find-filter test (λ j. limit_covers t.hold j q) (range_with_len 0 n)
    ∙ find-below (λ j. limit_covers t.hold j q && test j) (λ j. option_map_or (is_over t (prefix ++ q ∷ [])) (slice_get (limits_of t.hold) j) false) n (over-at t prefix loads allowed item q sound within there are may)
    ∙ find-place (is_over t (prefix ++ q ∷ [])) (limits_of t.hold))
    ∙ first-limit t (prefix ++ q ∷ [])
