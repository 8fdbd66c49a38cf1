-- where a list of tests names no fault, each test passes, and where each passes there is no fault
use Rattle.std.proofs.Common.{◌≡◌, ⊎_elim, ℕ, zero, suc, ◌<◌, ◌≤◌, Bool, true, false, not, ◌==◌, ◌||◌, nat_lt, nat_le, List, [], ◌∷◌, length, take, get_or, Option, Some, None, option_map, refl, ap, sym, ◌∙◌, subst, arith}
use Rattle.std.proofs.Math.Nat.{eq-or-lt_of_le}
use Rattle.std.proofs.lemmas.Bool.{cases_Bool, ltb-false, ltb-true, not-false, true≢false, false≢true}
use Rattle.std.proofs.lemmas.Bool.Decides.{nat_tests, not_from_Decides}
use Rattle.std.proofs.lemmas.List.{get_or-take, length-take}
use Rattle.std.proofs.lemmas.List.Elements.{All-weaker, All-from_recursion}
use Rattle.std.proofs.lemmas.List.Folds.{list_any_none}
use Rattle.std.proofs.lemmas.List.Sums.{fails_before_first, passes_at_first}
use Rattle.std.proofs.lemmas.Option.{slice_get-get_or}
use Rattle.std.specs.Bool.{Decides}
use Rattle.std.specs.Prelude.{All, AllPairs, position, slice_get, is_some}
use Rattle.std.specs.List.{list_any, position_or_len, AllByRecursion}
use Rattle.std.specs.Option.{option_or}
use Rattle.base_words.specs.Lists.{first_below, first_repeat, repeats_at}
use Rattle.base_words.proofs.PairLemmas.{pairs-all}
use Rattle.hold_limits.specs.Faults.{fault_if}

pub option_or-none : {X : Type 0} (a b : Option X) → option_or a b ≡ None → (a ≡ None) × (b ≡ None)
option_or-none None b none = (refl, none)
option_or-none (Some x) b none = absurd (cc)

pub fault_if-none : {X : Type 0} (wrong : Bool) (fault : X) → fault_if wrong fault ≡ None → wrong ≡ false
fault_if-none false fault none = refl
fault_if-none true fault none = absurd (cc)

pub option_map-none : {X Y : Type 0} (f : X → Y) (o : Option X) → option_map f o ≡ None → o ≡ None
option_map-none f None none = refl
option_map-none f (Some x) none = absurd (cc)

pub position-none : {X : Type 0} (p : X → Bool) (xs : List X) → position p xs ≡ None → All (λ x. p x ≡ false) xs
position-none p xs none k d within = ⊎_elim
    (λ (found : nat_lt (position_or_len p xs) (length xs) ≡ true).
    let some = rw found at none in
    absurd (cc some))
    (λ (past : nat_lt (position_or_len p xs) (length xs) ≡ false). fails_before_first p xs k d (omega (arith, ltb-false _ _ past)))
    (cases_Bool (nat_lt (position_or_len p xs) (length xs)))

pub first_below-none_each : (test : ℕ → Bool) (n : ℕ) → first_below test n ≡ None → (k : ℕ) → k < n → test k ≡ false
first_below-none_each test zero none k less = absurd (omega arith)
first_below-none_each test (suc n) none k less =
    let parts = option_or-none (first_below test n) (fault_if (test n) n) none in
    ⊎_elim
    (λ (same : k ≡ n). ap test same ∙ fault_if-none (test n) n parts.1)
    (λ (lower : k < n). first_below-none_each test n parts.0 k lower)
    (eq-or-lt_of_le (omega arith))

-- an element that is the same as no earlier one
pub first_repeat-none : {X : Type 0} (same : X → X → Bool) (xs : List X) → first_repeat same xs ≡ None
    → (k : ℕ) (d : X) → k < length xs → list_any (same (get_or xs k d)) (take k xs) ≡ false
first_repeat-none same xs none k d within =
    let there : slice_get xs k ≡ Some (get_or xs k d) = slice_get-get_or xs k d within in
    rw there at (first_below-none_each (repeats_at same xs) (length xs) none k within)

-- Fault tests and the rules that they guard ------------------------------------------------------

-- the test is false exactly where the rule is kept
abbrev pub Refuses : Bool → Type 0 → Type 0
Refuses wrong Rule = (wrong ≡ false → Rule) × (Rule → wrong ≡ false)

-- there is no fault exactly where the rule is kept
abbrev pub Guards : {F : Type 0} → Option F → Type 0 → Type 0
Guards fault Rule = (fault ≡ None → Rule) × (Rule → fault ≡ None)

pub refuses-like : {P Q : Type 0} (wrong : Bool) → (P → Q) → (Q → P) → Refuses wrong P → Refuses wrong Q
refuses-like wrong to from rule = (λ right. to (rule.0 right), λ kept. rule.1 (from kept))

pub refuses-over : (most n : ℕ) → Refuses (nat_lt most n) (n ≤ most)
refuses-over most n = (λ right. ltb-false most n right, λ few. grind (arith, nat_tests))

pub refuses-zero : (n : ℕ) → Refuses (n == 0) (1 ≤ n)
refuses-zero n = (λ right. grind (arith, nat_tests), λ some. grind (arith, nat_tests))

pub refuses-past : (n q : ℕ) → Refuses (nat_le n q) (q < n)
refuses-past n q = (λ right. grind (arith, nat_tests), λ within. grind (arith, nat_tests))

-- a test that is true exactly where something holds refuses it
pub refuses-if : {P : Type 0} (wrong : Bool) → Decides wrong P → Refuses wrong (P → ⊥)
refuses-if wrong decides = (not_from_Decides wrong decides, λ no. ⊎_elim (λ is. absurd (no (decides.0 is))) (λ right. right) (cases_Bool wrong))

-- and its negation refuses the rest
pub refuses-unless : {P : Type 0} (right : Bool) → Decides right P → Refuses (not right) P
refuses-unless right decides = (λ is. decides.0 (not-false right is), λ kept. rw (decides.1 kept) refl)

or-parts : (a b : Bool) → (a || b) ≡ false → (a ≡ false) × (b ≡ false)
or-parts false b none = (refl, none)
or-parts true b none = absurd (cc)

pub refuses-either : {P Q : Type 0} (a b : Bool) → Refuses a P → Refuses b Q → Refuses (a || b) (P × Q)
refuses-either a b first second = (
  λ right. let parts = or-parts a b right in (first.0 parts.0, second.0 parts.1),
  λ kept. rw (first.1 kept.0, second.1 kept.1) refl,
)

list_any-false : {X : Type 0} (p : X → Bool) (xs : List X) → list_any p xs ≡ false → All (λ x. p x ≡ false) xs
list_any-false {X} p xs none = All-from_recursion (λ x. p x ≡ false) xs (each xs none)
  where
    each : (xs : List X) → list_any p xs ≡ false → AllByRecursion (λ x. p x ≡ false) xs
    each [] none = tt
    each (x ∷ xs) none =
        let parts = or-parts (p x) (list_any p xs) none in
        (parts.0, each xs parts.1)

pub refuses-any : {X : Type 0} (wrong : X → Bool) (Rule : X → Type 0) → ((x : X) → Refuses (wrong x) (Rule x)) → (xs : List X) → Refuses (list_any wrong xs) (All Rule xs)
refuses-any wrong Rule each xs = (
  λ right. All-weaker (λ x. wrong x ≡ false) Rule (λ x. (each x).0) xs (list_any-false wrong xs right),
  λ kept. list_any_none wrong xs (All-weaker Rule (λ x. wrong x ≡ false) (λ x. (each x).1) xs kept),
)

pub refuses-some : {X P : Type 0} (fault : Option X) → Guards fault P → Refuses (is_some fault) P
refuses-some None guards = (λ right. guards.0 refl, λ kept. refl)
refuses-some (Some x) guards = (λ right. absurd (true≢false right), λ kept. absurd (cc (guards.1 kept)))

pub guards-if : {F P : Type 0} (wrong : Bool) (fault : F) → Refuses wrong P → Guards (fault_if wrong fault) P
guards-if wrong fault rule = (λ none. rule.0 (fault_if-none wrong fault none), λ kept. rw (rule.1 kept) refl)

pub guards-map : {X F P : Type 0} (f : X → F) (o : Option X) → Guards o P → Guards (option_map f o) P
guards-map f o rule = (λ none. rule.0 (option_map-none f o none), λ kept. rw (rule.1 kept) refl)

pub guards-or : {F P Q : Type 0} (a b : Option F) → Guards a P → Guards b Q → Guards (option_or a b) (P × Q)
guards-or a b first second = (
  λ none. let parts = option_or-none a b none in (first.0 parts.0, second.0 parts.1),
  λ kept. rw (first.1 kept.0) (second.1 kept.1),
)

-- Places in lists -------------------------------------------------------------------------------

position-right : {X : Type 0} (p : X → Bool) (xs : List X) → All (λ x. p x ≡ false) xs → position p xs ≡ None
position-right p [] right = refl
position-right p (x ∷ xs) right = ⊎_elim
    (λ (found : nat_lt (position_or_len p (x ∷ xs)) (length (x ∷ xs)) ≡ true).
    let within : position_or_len p (x ∷ xs) < length (x ∷ xs) = ltb-true _ _ found in
    absurd (false≢true (sym (right (position_or_len p (x ∷ xs)) x within) ∙ passes_at_first p (x ∷ xs) x within)))
    (λ (past : nat_lt (position_or_len p (x ∷ xs)) (length (x ∷ xs)) ≡ false). rw past refl)
    (cases_Bool (nat_lt (position_or_len p (x ∷ xs)) (length (x ∷ xs))))

pub guards-position : {X : Type 0} (wrong : X → Bool) (Rule : X → Type 0) → ((x : X) → Refuses (wrong x) (Rule x)) → (xs : List X) → Guards (position wrong xs) (All Rule xs)
guards-position wrong Rule each xs = (
  λ none. All-weaker (λ x. wrong x ≡ false) Rule (λ x. (each x).0) xs (position-none wrong xs none),
  λ kept. position-right wrong xs (All-weaker Rule (λ x. wrong x ≡ false) (λ x. (each x).1) xs kept),
)

pub first_below-right : (test : ℕ → Bool) (n : ℕ) → ((k : ℕ) → k < n → test k ≡ false) → first_below test n ≡ None
first_below-right test zero each = refl
first_below-right test (suc n) each = rw (first_below-right test n (λ k less. each k (omega arith)), each n (omega arith)) refl

-- no element is the same as an earlier one exactly where each two are told apart
pub guards-repeat : {X : Type 0} (same : X → X → Bool) (Apart : X → X → Type 0) → ((a b : X) → Refuses (same b a) (Apart a b)) → (xs : List X) → Guards (first_repeat same xs) (AllPairs Apart xs)
guards-repeat {X} same Apart each xs = (λ none i j d before within. apart none i j d before within, λ kept. right xs kept)
  where
    apart : first_repeat same xs ≡ None → AllPairs Apart xs
    apart none i j d before within =
        let b : X = get_or xs j d in
        let at : get_or (take j xs) i d ≡ get_or xs i d = get_or-take j xs i d before in
        let inside : i < length (take j xs) = omega (arith, length-take j xs) in
        let differs : same b (get_or (take j xs) i d) ≡ false = list_any-false (same b) (take j xs) (first_repeat-none same xs none j d within) i d inside in
        let P : X → Type 0 = λ a. same b a ≡ false in
        (each (get_or xs i d) b).0 (subst P at differs)

    right : (xs : List X) → AllPairs Apart xs → first_repeat same xs ≡ None
    right [] kept = refl
    right (x ∷ xs) kept =
        let all : List X = x ∷ xs in
        first_below-right (repeats_at same all) (length all) (λ k less.
        let last : X = get_or all k x in
        let there : slice_get all k ≡ Some last = slice_get-get_or all k x less in
        let before = All-weaker (λ a. Apart a last) (λ a. same last a ≡ false) (λ a. (each a last).1) (take k all) (pairs-all Apart all k x less kept) in
        rw there (list_any_none (same last) (take k all) before))
