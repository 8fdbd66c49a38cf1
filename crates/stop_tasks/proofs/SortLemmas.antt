-- branch order is what a stable sort by mass gives, and a stable sort of what is kept of a list is what is kept of its
-- sort
use Rattle.std.proofs.Common.{◌≡◌, ⊎_elim, ℕ, ◌+◌, ◌<◌, ◌≤◌, Bool, true, false, ◌||◌, ◌&&◌, ◌==◌, nat_lt, nat_le, if◌then◌else◌, List, [], ◌∷◌, map, refl, ap, sym, ◌∙◌, subst, arith}
use Rattle.std.proofs.lemmas.Bool.{cases_Bool, leb-true, leb-false, le-leb}
use Rattle.std.proofs.lemmas.Bool.Decides.{nat_tests}
use Rattle.std.specs.List.{AllByRecursion, enumerate_from, filter}
use Rattle.base_words.proofs.Arrangements.{Ranked}
use Rattle.base_words.proofs.PairLemmas.{each-weaker}
use Rattle.hold_parts.specs.declared.parts.Item.{Item}
use Rattle.hold_limits.specs.BranchOrder.{Offered, arrange, branch_order, offer_of, precedes, put_in}

-- A stable sort ---------------------------------------------------------------------------------

-- the list with one element more, in front of the first that is no heavier
abbrev pub put_by : {X : Type 0} → (X → ℕ) → X → List X → List X
put_by mass x [] = x ∷ []
put_by mass x (y ∷ ys) = if nat_le (mass y) (mass x) then x ∷ y ∷ ys else y ∷ put_by mass x ys

-- the heaviest first, equal masses as they come
abbrev pub sort_by : {X : Type 0} → (X → ℕ) → List X → List X
sort_by mass [] = []
sort_by mass (x ∷ xs) = put_by mass x (sort_by mass xs)

put-each : {X : Type 0} (P : X → Type 0) (mass : X → ℕ) (x : X) (ys : List X) → P x → AllByRecursion P ys → AllByRecursion P (put_by mass x ys)
put-each P mass x [] one each = (one, tt)
put-each P mass x (y ∷ ys) one each = ⊎_elim
    (λ (lighter : nat_le (mass y) (mass x) ≡ true). rw lighter (one, each))
    (λ (heavier : nat_le (mass y) (mass x) ≡ false). rw heavier (each.0, put-each P mass x ys one each.1))
    (cases_Bool (nat_le (mass y) (mass x)))

sort-each : {X : Type 0} (P : X → Type 0) (mass : X → ℕ) (xs : List X) → AllByRecursion P xs → AllByRecursion P (sort_by mass xs)
sort-each P mass [] each = each
sort-each P mass (x ∷ xs) each = put-each P mass x (sort_by mass xs) each.0 (sort-each P mass xs each.1)

-- no later element is heavier
abbrev Falls : {X : Type 0} → (X → ℕ) → List X → Type 0
Falls mass = Ranked (λ x y. mass y ≤ mass x)

put-falls : {X : Type 0} (mass : X → ℕ) (x : X) (ys : List X) → Falls mass ys → Falls mass (put_by mass x ys)
put-falls mass x [] falls = (tt, tt)
put-falls mass x (y ∷ ys) falls = ⊎_elim
    (λ (lighter : nat_le (mass y) (mass x) ≡ true).
    let first : mass y ≤ mass x = leb-true _ _ lighter in
    rw lighter ((first, each-weaker (λ z. mass z ≤ mass y) (λ z. mass z ≤ mass x) (λ z below. omega arith) ys falls.0), falls))
    (λ (heavier : nat_le (mass y) (mass x) ≡ false).
    let first : mass x < mass y = leb-false _ _ heavier in
    let under : mass x ≤ mass y = omega arith in
    rw heavier (put-each (λ z. mass z ≤ mass y) mass x ys under falls.0, put-falls mass x ys falls.1))
    (cases_Bool (nat_le (mass y) (mass x)))

sort-falls : {X : Type 0} (mass : X → ℕ) (xs : List X) → Falls mass (sort_by mass xs)
sort-falls mass [] = tt
sort-falls mass (x ∷ xs) = put-falls mass x (sort_by mass xs) (sort-falls mass xs)

-- What is kept ----------------------------------------------------------------------------------

kept-each : {X : Type 0} (P : X → Type 0) (keep : X → Bool) (xs : List X) → AllByRecursion P xs → AllByRecursion P (filter keep xs)
kept-each P keep [] each = each
kept-each P keep (x ∷ xs) each = ⊎_elim
    (λ (yes : keep x ≡ true). rw yes (each.0, kept-each P keep xs each.1))
    (λ (no : keep x ≡ false). rw no (kept-each P keep xs each.1))
    (cases_Bool (keep x))

-- an element that none is heavier than goes to the front
put-front : {X : Type 0} (mass : X → ℕ) (x : X) (ys : List X) → AllByRecursion (λ y. mass y ≤ mass x) ys → put_by mass x ys ≡ x ∷ ys
put-front mass x [] each = refl
put-front mass x (y ∷ ys) each = rw (le-leb (mass y) (mass x) each.0) refl

kept-put : {X : Type 0} (mass : X → ℕ) (keep : X → Bool) (x : X) (ys : List X) → Falls mass ys
    → filter keep (put_by mass x ys) ≡ (if keep x then put_by mass x (filter keep ys) else filter keep ys)
kept-put mass keep x [] falls = refl
kept-put {X} mass keep x (y ∷ ys) falls = ⊎_elim
    (λ (lighter : nat_le (mass y) (mass x) ≡ true).
    let first : mass y ≤ mass x = leb-true _ _ lighter in
    let each : AllByRecursion (λ z. mass z ≤ mass x) (y ∷ ys) = (first, each-weaker (λ z. mass z ≤ mass y) (λ z. mass z ≤ mass x) (λ z below. omega arith) ys falls.0) in
    let front = put-front mass x (filter keep (y ∷ ys)) (kept-each (λ z. mass z ≤ mass x) keep (y ∷ ys) each) in
    let Q : List X → Type 0 = λ zs. filter keep (put_by mass x (y ∷ ys)) ≡ (if keep x then zs else filter keep (y ∷ ys)) in
    subst Q (sym front) (rw lighter refl))
    (λ (heavier : nat_le (mass y) (mass x) ≡ false).
    let rest = kept-put mass keep x ys falls.1 in
    ⊎_elim
    (λ (yes : keep y ≡ true). ⊎_elim
    (λ (also : keep x ≡ true). rw (heavier, yes, also, heavier) (rw also at (ap (λ zs. y ∷ zs) rest)))
    (λ (not : keep x ≡ false). rw (heavier, yes, not) (rw not at (ap (λ zs. y ∷ zs) rest)))
    (cases_Bool (keep x)))
    (λ (no : keep y ≡ false). rw (heavier, no) rest)
    (cases_Bool (keep y)))
    (cases_Bool (nat_le (mass y) (mass x)))

-- a stable sort of what is kept is what is kept of the sort
pub kept-sort : {X : Type 0} (mass : X → ℕ) (keep : X → Bool) (xs : List X) → filter keep (sort_by mass xs) ≡ sort_by mass (filter keep xs)
kept-sort mass keep [] = refl
kept-sort mass keep (x ∷ xs) =
    let put = kept-put mass keep x (sort_by mass xs) (sort-falls mass xs) in
    let rest = kept-sort mass keep xs in
    ⊎_elim
    (λ (yes : keep x ≡ true). rw yes (rw (yes, rest) at put))
    (λ (no : keep x ≡ false). rw no (rw (no, rest) at put))
    (cases_Bool (keep x))

-- sorting images by their masses is sorting and then taking images
put-images : {X Y : Type 0} (mass : Y → ℕ) (f : X → Y) (x : X) (ys : List X) → put_by mass (f x) (map f ys) ≡ map f (put_by (λ z. mass (f z)) x ys)
put-images mass f x [] = refl
put-images mass f x (y ∷ ys) = ⊎_elim
    (λ (lighter : nat_le (mass (f y)) (mass (f x)) ≡ true). rw lighter refl)
    (λ (heavier : nat_le (mass (f y)) (mass (f x)) ≡ false). rw heavier (ap (λ zs. f y ∷ zs) (put-images mass f x ys)))
    (cases_Bool (nat_le (mass (f y)) (mass (f x))))

pub sort-images : {X Y : Type 0} (mass : Y → ℕ) (f : X → Y) (xs : List X) → sort_by mass (map f xs) ≡ map f (sort_by (λ x. mass (f x)) xs)
sort-images mass f [] = refl
sort-images mass f (x ∷ xs) = ap (put_by mass (f x)) (sort-images mass f xs) ∙ put-images mass f x (sort_by (λ z. mass (f z)) xs)

-- Branch order ----------------------------------------------------------------------------------

-- the mass of an offered container
abbrev pub offered_mass : Offered → ℕ
offered_mass e = e.1.mass.0

precedes-by_mass : (m n p q : ℕ) → p < q → (nat_lt n m || ((m == n) && nat_lt p q)) ≡ nat_le n m
precedes-by_mass m n p q before = grind (arith, nat_tests)

put-by_mass : (a : Offered) (es : List Offered) → AllByRecursion (λ (e : Offered). a.0 < e.0) es → put_in a es ≡ put_by offered_mass a es
put-by_mass a [] later = refl
put-by_mass a (b ∷ es) later =
    let first : precedes a b ≡ nat_le (offered_mass b) (offered_mass a) = precedes-by_mass _ _ _ _ later.0 in
    let rest = put-by_mass a es later.1 in
    ⊎_elim
    (λ (lighter : nat_le (offered_mass b) (offered_mass a) ≡ true). rw (first ∙ lighter, lighter) refl)
    (λ (heavier : nat_le (offered_mass b) (offered_mass a) ≡ false). rw (first ∙ heavier, heavier) (ap (λ zs. b ∷ zs) rest))
    (cases_Bool (nat_le (offered_mass b) (offered_mass a)))

arrange-by_mass : (es : List Offered) → Ranked (λ (a b : Offered). a.0 < b.0) es → arrange es ≡ sort_by offered_mass es
arrange-by_mass [] places = refl
arrange-by_mass (a ∷ es) places =
    ap (put_in a) (arrange-by_mass es places.1)
    ∙ put-by_mass a (sort_by offered_mass es) (sort-each (λ (e : Offered). a.0 < e.0) offered_mass es places.0)

offered-from : (n : ℕ) (items : List Item) → AllByRecursion (λ (e : Offered). n ≤ e.0) (enumerate_from n items)
offered-from n [] = tt
offered-from n (item ∷ items) = (omega arith, each-weaker (λ (e : Offered). n + 1 ≤ e.0) (λ (e : Offered). n ≤ e.0) (λ e h. omega arith) _ (offered-from (n + 1) items))

offered-ranked : (n : ℕ) (items : List Item) → Ranked (λ (a b : Offered). a.0 < b.0) (enumerate_from n items)
offered-ranked n [] = tt
offered-ranked n (item ∷ items) = (each-weaker (λ (e : Offered). n + 1 ≤ e.0) (λ (e : Offered). n < e.0) (λ e h. omega arith) _ (offered-from (n + 1) items), offered-ranked (n + 1) items)

-- branch order is a stable sort of the offer by mass
pub branch_order-by_mass : (items : List Item) → branch_order items ≡ sort_by offered_mass (offer_of items)
unfolding branch_order
branch_order-by_mass items = arrange-by_mass (offer_of items) (offered-ranked 0 items)
