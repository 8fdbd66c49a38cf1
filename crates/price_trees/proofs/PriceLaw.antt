-- the law of prices: no sound placement among a choice has a hold index below their value, counted from their end
use Rattle.std.proofs.Common.{◌≡◌, ◌≢◌, ⊎_elim, ℕ, ◌≤◌, ℤ, pos, ◌+ℤ◌, ◌-ℤ◌, ◌*ℤ◌, Bool, true, false, ◌||◌, List, [], ◌∷◌, map, zip, fold, refl, ap, sym, subst, arith, if◌then◌else◌}
use Rattle.std.specs.Prelude.{◌≤ℤ◌, negsuc, unsigned_abs, sum_by, IfSome, Some}
use Rattle.std.specs.Int.{int_min}
use Rattle.std.specs.List.{AllByRecursion, list_any}
use Rattle.std.proofs.lemmas.Bool.{cases_Bool, false≢true}
use Rattle.std.proofs.lemmas.Bool.Decides.{eqb_tells}
use Rattle.std.proofs.lemmas.Int.{ints, clamps}
use Rattle.std.proofs.lemmas.List.Sums.{sum_by-cons}
use Rattle.std.proofs.lemmas.List.Elements.{recursion_from_All, All-contains}
use Rattle.base_words.specs.Lists.{int_sum_by}
use Rattle.base_words.proofs.Arrangements.{Ranked}
use Rattle.base_words.proofs.PairLemmas.{Ranked-from_AllPairs}
use Rattle.hold_parts.specs.declared.parts.Combined.{Combined}
use Rattle.hold_parts.specs.declared.parts.Cumulative.{Cumulative}
use Rattle.hold_parts.specs.declared.parts.Item.{Item}
use Rattle.hold_parts.specs.declared.parts.Lateral.{Lateral}
use Rattle.hold_parts.specs.Limits.{is_listed, is_counted}
use Rattle.hold_limits.specs.Problem.{Problem}
use Rattle.hold_limits.specs.BranchOrder.{ordered}
use Rattle.hold_limits.specs.Placement.{Placed, placed, Exclude, load_of, placed_moment, loose_moment, placed_lateral, lateral_difference, KeepsLateralLimit, IsSound, hold_index}
use Rattle.hold_reach.specs.Reach.{least}
use Rattle.price_trees.specs.Prices.{Choice, Candidate, IsAmong, Resource, UnderCombined, UnderCumulative, RightOverLeft, LeftOverRight, OneOf, taken, lateral_most, meets, stock, IsOf, End, Low, High, counted_from, Priced, Prices, cost, worth, value, AreOf}
use Rattle.price_trees.proofs.SignedSums.{sum-add, sum-exchange, sum-natural, sum-le}

-- The least costs -------------------------------------------------------------------------------

fold-first : (f : ℕ → ℤ) (a : ℤ) (qs : List ℕ) → fold int_min a (map f qs) ≤ℤ a
fold-first f a [] = omega (arith, ints)
fold-first f a (q ∷ qs) = omega (arith, ints, clamps, fold-first f (int_min a (f q)) qs)

fold-listed : (f : ℕ → ℤ) (a : ℤ) (qs : List ℕ) (q : ℕ) → is_listed qs q ≡ true → fold int_min a (map f qs) ≤ℤ f q
fold-listed f a [] q listed = absurd (false≢true listed)
fold-listed f a (p ∷ qs) q listed = ⊎_elim
    (λ same.
    let first = fold-first f (int_min a (f p)) qs in
    let here : f p ≡ f q = ap f same.1 in
    omega (arith, ints, clamps, first, here))
    (λ other. fold-listed f (int_min a (f p)) qs q (rw other.0 at listed))
    (eqb_tells p q)

pub least-le : (f : ℕ → ℤ) (qs : List ℕ) (q : ℕ) → is_listed qs q ≡ true → least (map f qs) ≤ℤ f q
least-le f [] q listed = absurd (false≢true listed)
least-le f (p ∷ qs) q listed = ⊎_elim
    (λ same.
    let first = fold-first f (f p) qs in
    let here : f p ≡ f q = ap f same.1 in
    omega (arith, ints, first, here))
    (λ other. fold-listed f (f p) qs q (rw other.0 at listed))
    (eqb_tells p q)

pub leasts-le : (f : Placed → ℤ) (items : List Item) (path : List ℕ) (choice : Choice) → IsAmong path choice
    → int_sum_by (λ (c : Candidate). least (map (λ q. f (c.0, q)) c.1)) (zip items choice) ≤ℤ int_sum_by f (zip items path)
leasts-le f [] path choice among = omega (arith, ints)
leasts-le f (item ∷ items) [] [] among = omega (arith, ints)
leasts-le f (item ∷ items) [] (set ∷ choice) among = absurd among
leasts-le f (item ∷ items) (q ∷ path) [] among = absurd among
leasts-le f (item ∷ items) (q ∷ path) (set ∷ choice) among = omega (arith, ints, least-le (λ q. f (item, q)) set q among.0, leasts-le f items path choice among.1)

-- What resources give ---------------------------------------------------------------------------

abbrev one_of : List ℕ → ℕ → ℕ
one_of places q = if is_listed places q then 1 else 0

none-taken : (places : List ℕ) (items : List Item) (path : List ℕ) → AllByRecursion (λ b. is_listed places b ≡ false) path
    → sum_by (λ (p : Placed). one_of places p.1) (zip items path) ≡ 0
none-taken places [] path none = refl
none-taken places (item ∷ items) [] none = refl
none-taken places (item ∷ items) (q ∷ path) none =
    let here : one_of places q ≡ 0 = rw none.0 refl in
    omega (arith, here, none-taken places items path none.1, sum_by-cons (λ (p : Placed). one_of places p.1) (item, q) (zip items path))

-- a path takes at most one of positions that exclude each other
at_most_one : (t : Problem) (places : List ℕ) → IsOf t (OneOf places) → (items : List Item) (path : List ℕ) → Ranked (λ a b. a ≢ b) path → Ranked (λ a b. Exclude t.hold a b → ⊥) path
    → sum_by (λ (p : Placed). one_of places p.1) (zip items path) ≤ 1
at_most_one t places clique [] path apart compatible = omega arith
at_most_one t places clique (item ∷ items) [] apart compatible = omega arith
at_most_one t places clique (item ∷ items) (q ∷ path) apart compatible =
    let sum = sum_by-cons (λ (p : Placed). one_of places p.1) (item, q) (zip items path) in
    ⊎_elim
    (λ (listed : is_listed places q ≡ true).
    let here : one_of places q ≡ 1 = rw listed refl in
    omega (arith, here, sum, none-taken places items path (others listed path apart.0 compatible.0)))
    (λ (not_listed : is_listed places q ≡ false).
    let here : one_of places q ≡ 0 = rw not_listed refl in
    omega (arith, here, sum, at_most_one t places clique items path apart.1 compatible.1))
    (cases_Bool (is_listed places q))
  where
    others : is_listed places q ≡ true → (rest : List ℕ) → AllByRecursion (λ b. q ≢ b) rest → AllByRecursion (λ b. Exclude t.hold q b → ⊥) rest → AllByRecursion (λ b. is_listed places b ≡ false) rest
    others listed [] different compatible = tt
    others listed (b ∷ rest) different compatible = (
      ⊎_elim
          (λ (both : is_listed places b ≡ true). absurd (⊎_elim different.0 compatible.0 (clique q b listed both)))
          (λ (not_both : is_listed places b ≡ false). not_both)
          (cases_Bool (is_listed places b)),
      others listed rest different.1 compatible.1,
    )

or-false : (a b : Bool) → (a || b) ≡ false → (a ≡ false) × (b ≡ false)
or-false true b is = absurd (false≢true (sym is))
or-false false b is = (refl, is)

none-listed : (places set : List ℕ) (q : ℕ) → list_any (is_listed places) set ≡ false → is_listed set q ≡ true → is_listed places q ≡ false
none-listed places [] q none listed = absurd (false≢true listed)
none-listed places (p ∷ set) q none listed =
    let both = or-false (is_listed places p) (list_any (is_listed places) set) none in
    ⊎_elim
    (λ same. rw (← same.1) both.0)
    (λ other. none-listed places set q both.1 (rw other.0 at listed))
    (eqb_tells p q)

none-met : (places : List ℕ) (path : List ℕ) (choice : Choice) → IsAmong path choice → meets places choice ≡ false → AllByRecursion (λ b. is_listed places b ≡ false) path
none-met places [] choice among none = tt
none-met places (q ∷ path) [] among none = absurd among
none-met places (q ∷ path) (set ∷ choice) among none =
    let both = or-false (list_any (is_listed places) set) (meets places choice) none in
    (none-listed places set q both.0 among.0, none-met places path choice among.1 both.1)

-- a difference within the limit, either way
within-most : (x : ℤ) (most : ℕ) → unsigned_abs x ≤ most → (x ≤ℤ pos most) × ((pos 0 -ℤ x) ≤ℤ pos most)
within-most (pos n) most within = (omega (arith, ints, within), omega (arith, ints, within))
within-most (negsuc n) most within = (omega (arith, ints, within), omega (arith, ints, within))

kept-within : (t : Problem) (limit : Lateral) (path : List ℕ) → t.hold.lateral ≡ Some limit → KeepsLateralLimit t path
    → (lateral_difference t path ≤ℤ pos (lateral_most t.hold)) × ((pos 0 -ℤ lateral_difference t path) ≤ℤ pos (lateral_most t.hold))
kept-within t limit path is keeps =
    let within : unsigned_abs (lateral_difference t path) ≤ limit.most.0 = subst (λ lateral. IfSome lateral (λ (l : Lateral). unsigned_abs (lateral_difference t path) ≤ l.most.0)) is keeps in
    let most : lateral_most t.hold ≡ limit.most.0 = rw is refl in
    within-most (lateral_difference t path) (lateral_most t.hold) (rw most within)

pub counted-sum : {X : Type 0} (end : End) (f : X → ℤ) (xs : List X) → int_sum_by (λ x. counted_from end (f x)) xs ≡ counted_from end (int_sum_by f xs)
counted-sum Low f xs = refl
counted-sum High f [] = refl
counted-sum High f (x ∷ xs) = omega (arith, ints, counted-sum High f xs)

pub counted-add : (end : End) (a b : ℤ) → counted_from end (a +ℤ b) ≡ counted_from end a +ℤ counted_from end b
counted-add Low a b = refl
counted-add High a b = omega (arith, ints)

-- what a sound placement takes of a resource is at most what there is
pub taken-le-stock : (t : Problem) (choice : Choice) (path : List ℕ) → IsSound t path → KeepsLateralLimit t path → IsAmong path choice → (r : Resource) → IsOf t r
    → int_sum_by (taken t.hold r) (placed t path) ≤ℤ stock t choice r
taken-le-stock t choice path sound keeps among (UnderCombined c) is =
    let met : load_of (is_listed c.places) t path ≤ c.most.0 = All-contains (λ (c : Combined). load_of (is_listed c.places) t path ≤ c.most.0) t.hold.combined c sound.combined is in
    omega (arith, ints, sum-natural (λ (p : Placed). if is_listed c.places p.1 then p.0.mass.0 else 0) (placed t path), met)
taken-le-stock t choice path sound keeps among (UnderCumulative c) is =
    let met : load_of (is_counted c) t path ≤ c.most.0 = All-contains (λ (c : Cumulative). load_of (is_counted c) t path ≤ c.most.0) t.hold.cumulative c sound.cumulative is in
    omega (arith, ints, sum-natural (λ (p : Placed). if is_counted c p.1 then p.0.mass.0 else 0) (placed t path), met)
taken-le-stock t choice path sound keeps among RightOverLeft is =
    let within = kept-within t is.0 path is.1 keeps in
    omega (arith, ints, within.0)
taken-le-stock t choice path sound keeps among LeftOverRight is =
    let within = kept-within t is.0 path is.1 keeps in
    let turned = counted-sum High (placed_lateral t.hold) (placed t path) in
    omega (arith, ints, within.1, turned)
taken-le-stock t choice path sound keeps among (OneOf places) is =
    let sum = sum-natural (λ (p : Placed). one_of places p.1) (placed t path) in
    ⊎_elim
    (λ (met : meets places choice ≡ true).
    let whole : stock t choice (OneOf places) ≡ pos 1 = rw met refl in
    let one = at_most_one t places is (ordered t.items) path (Ranked-from_AllPairs (λ a b. a ≢ b) path sound.apart) (Ranked-from_AllPairs (λ a b. Exclude t.hold a b → ⊥) path sound.compatible) in
    omega (arith, ints, sum, whole, one))
    (λ (not_met : meets places choice ≡ false).
    let none = none-taken places (ordered t.items) path (none-met places path choice among not_met) in
    omega (arith, ints, sum, none))
    (cases_Bool (meets places choice))

-- The law ---------------------------------------------------------------------------------------

each-resource : (t : Problem) (choice : Choice) (path : List ℕ) → IsSound t path → KeepsLateralLimit t path → IsAmong path choice → (priced : List Priced) → AllByRecursion (λ (r : Priced). IsOf t r.resource) priced
    → AllByRecursion (λ (r : Priced). int_sum_by (taken t.hold r.resource) (placed t path) ≤ℤ stock t choice r.resource) priced
each-resource t choice path sound keeps among [] of = tt
each-resource t choice path sound keeps among (r ∷ priced) of = (taken-le-stock t choice path sound keeps among r.resource of.0, each-resource t choice path sound keeps among priced of.1)

-- the costs of a placement's own positions: its moments, and what it takes at its price
costs-are : (t : Problem) (v : Prices) (path : List ℕ)
    → int_sum_by (cost t.hold v) (placed t path)
    ≡ counted_from v.end (int_sum_by (placed_moment t.hold) (placed t path)) +ℤ int_sum_by (λ (r : Priced). pos r.price *ℤ int_sum_by (taken t.hold r.resource) (placed t path)) v.priced
costs-are t v path =
    let prices : Placed → ℤ = λ p. int_sum_by (λ (r : Priced). pos r.price *ℤ taken t.hold r.resource p) v.priced in
    let moments : Placed → ℤ = λ p. counted_from v.end (placed_moment t.hold p) in
    let both = sum-add moments prices (placed t path) in
    let turned = sum-exchange (λ (r : Priced). r.price) (λ (r : Priced) (p : Placed). taken t.hold r.resource p) (placed t path) v.priced in
    let signed = counted-sum v.end (placed_moment t.hold) (placed t path) in
    omega (arith, ints, both, turned, signed)

-- the costs of a placement's own positions, less the worth of all there is, are at most its hold index, counted from that end
pub costs-law : (t : Problem) (choice : Choice) (v : Prices) (path : List ℕ) → AreOf t v → IsSound t path → KeepsLateralLimit t path → IsAmong path choice
    → (counted_from v.end (int_sum_by (loose_moment t.hold) t.loose) +ℤ int_sum_by (cost t.hold v) (placed t path) -ℤ worth t choice v) ≤ℤ counted_from v.end (hold_index t path)
costs-law t choice v path of sound keeps among =
    let costs = costs-are t v path in
    let each = each-resource t choice path sound keeps among v.priced (recursion_from_All (λ (r : Priced). IsOf t r.resource) v.priced of) in
    let paid = sum-le (λ (r : Priced). r.price) (λ (r : Priced). int_sum_by (taken t.hold r.resource) (placed t path)) (λ (r : Priced). stock t choice r.resource) v.priced each in
    let index = counted-add v.end (int_sum_by (placed_moment t.hold) (placed t path)) (int_sum_by (loose_moment t.hold) t.loose) in
    omega (arith, ints, costs, paid, index)

-- the law of prices
pub price-law : (t : Problem) (choice : Choice) (v : Prices) (path : List ℕ) → AreOf t v → IsSound t path → KeepsLateralLimit t path → IsAmong path choice
    → value t choice v ≤ℤ counted_from v.end (hold_index t path)
price-law t choice v path of sound keeps among =
    let leasts = leasts-le (cost t.hold v) (ordered t.items) path choice among in
    omega (arith, ints, leasts, costs-law t choice v path of sound keeps among)
