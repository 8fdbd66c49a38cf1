-- the value of the prices of a list, and what they rule out, by tariffs
use Rattle.std.proofs.Common.{◌≡◌, ◌⊎◌, ⊎_elim, inl, ℕ, ◌<◌, ◌≤◌, ℤ, pos, ◌+ℤ◌, ◌-ℤ◌, ◌*ℤ◌, Bool, true, false, ◌==◌, ◌||◌, List, [], ◌∷◌, ◌++◌, map, zip, length, get_or, Option, Some, None, refl, ap, ap₂, sym, ◌∙◌, subst, arith, unsigned_abs, to_z, of_z}
use Rattle.std.specs.Int.{w128}
use Rattle.std.proofs.lemmas.Bool.{cases_Bool, false≢true}
use Rattle.std.proofs.lemmas.Bool.Decides.{eqb_tells}
use Rattle.std.proofs.lemmas.Int.{ints}
use Rattle.std.proofs.lemmas.List.Elements.{All-from_recursion, recursion_from_All, All-contains_itself, All-weaker}
use Rattle.std.proofs.lemmas.List.FromFn.{get_or-map-range_with_len}
use Rattle.std.proofs.lemmas.Option.{slice_get_cases}
use Rattle.std.specs.Prelude.{All, Contains, int_le, slice_get, if◌then◌else◌}
use Rattle.std.specs.List.{AllByRecursion, filter, list_any, range_with_len}
use Rattle.base_words.specs.Lists.{int_sum_by}
use Rattle.hold_parts.specs.declared.parts.Combined.{Combined}
use Rattle.hold_parts.specs.declared.parts.Cumulative.{Cumulative}
use Rattle.hold_parts.specs.declared.parts.Item.{Item}
use Rattle.hold_parts.specs.declared.parts.Lateral.{Lateral}
use Rattle.hold_limits.specs.BranchOrder.{ordered}
use Rattle.hold_limits.specs.Faults.{IsLawful}
use Rattle.hold_limits.specs.Layout.{Layout}
use Rattle.hold_limits.specs.Problem.{Problem}
use Rattle.hold_limits.proofs.LawfulBounds.{lawful-bounds}
use Rattle.hold_reach.specs.Reach.{least}
use Rattle.position_set.specs.declared.set.PositionSet.{PositionSet}
use Rattle.position_set.specs.Sets.{has, members}
use Rattle.price_trees.specs.Narrowing.{cheap}
use Rattle.price_trees.specs.Prices.{Choice, candidates, Resource, UnderCombined, UnderCumulative, OneOf, IsOf, stock, Priced, Prices, AreOf, cost, least_cost, value}
use Rattle.tree_certificate.specs.declared.parts.Price.{Price}
use Rattle.tree_certificate.specs.Listed.{ListedPrices}
use Rattle.choice_prices.specs.declared.tariff.Tariff.{Tariff}
use Rattle.choice_prices.specs.Listing.{IsClique, lateral_resources, limited_resources, limited_resource, clique_places, position_priced, limit_priced, clique_priced, prices_of, ArePriced, IsPriceAmong}
use Rattle.choice_prices.specs.Ready.{start_at}
use Rattle.choice_prices.specs.Tariffs.{tariff_in, tariff_at, cost_by, least_by, cheap_by}
use Rattle.choice_prices.proofs.MeetLemmas.{members-below, clique-below, union-meets}
use Rattle.choice_prices.proofs.TariffLemmas.{cost-split, sum-listed, limited-at}

-- Costs by tariffs ------------------------------------------------------------------------------

abbrev pub AreTariffs : Layout → Prices → List Tariff → Type 0
AreTariffs hold v tariffs = tariffs ≡ map (tariff_at hold v) (range_with_len 0 64)

tariff-is : (hold : Layout) (v : Prices) (tariffs : List Tariff) → AreTariffs hold v tariffs → (q : ℕ) → q < 64 → tariff_in tariffs q ≡ tariff_at hold v q
tariff-is hold v tariffs are q within = rw are (get_or-map-range_with_len (tariff_at hold v) 0 64 q q _ within (omega arith))

cost-is : (hold : Layout) (v : Prices) (tariffs : List Tariff) → AreTariffs hold v tariffs → (item : Item) (q : ℕ) → q < 64 → cost_by tariffs item.mass.0 q ≡ cost hold v (item, q)
cost-is hold v tariffs are item q within =
    ap (λ (tariff : Tariff). pos item.mass.0 *ℤ tariff.rate +ℤ tariff.fee) (tariff-is hold v tariffs are q within)
    ∙ sym (cost-split hold v (item, q))

map-same : (f g : ℕ → ℤ) (qs : List ℕ) → ((q : ℕ) → q < 64 → f q ≡ g q) → AllByRecursion (λ q. q < 64) qs → map f qs ≡ map g qs
map-same f g [] same within = refl
map-same f g (q ∷ qs) same within = ap₂ (λ x xs. x ∷ xs) (same q within.0) (map-same f g qs same within.1)

filter-same : (f g : ℕ → Bool) (qs : List ℕ) → ((q : ℕ) → q < 64 → f q ≡ g q) → AllByRecursion (λ q. q < 64) qs → filter f qs ≡ filter g qs
filter-same f g [] same within = refl
filter-same f g (q ∷ qs) same within = ⊎_elim
    (λ (one : f q ≡ true). rw (one, sym (same q within.0) ∙ one) (ap (λ xs. q ∷ xs) (filter-same f g qs same within.1)))
    (λ (other : f q ≡ false). rw (other, sym (same q within.0) ∙ other) (filter-same f g qs same within.1))
    (cases_Bool (f q))

least-is : (hold : Layout) (v : Prices) (tariffs : List Tariff) → AreTariffs hold v tariffs → (item : Item) (set : PositionSet) → least_by tariffs (item, members set) ≡ least_cost hold v (item, members set)
least-is hold v tariffs are item set = ap least (map-same (cost_by tariffs item.mass.0) (λ q. cost hold v (item, q)) (members set) (cost-is hold v tariffs are item) (members-below set))

leasts-are : (hold : Layout) (v : Prices) (tariffs : List Tariff) → AreTariffs hold v tariffs → (items : List Item) (sets : List PositionSet)
    → int_sum_by (least_by tariffs) (zip items (map members sets)) ≡ int_sum_by (least_cost hold v) (zip items (map members sets))
leasts-are hold v tariffs are [] sets = refl
leasts-are hold v tariffs are (item ∷ items) [] = refl
leasts-are hold v tariffs are (item ∷ items) (set ∷ sets) = omega (arith, ints, least-is hold v tariffs are item set, leasts-are hold v tariffs are items sets)

cheap-one : (hold : Layout) (v : Prices) (tariffs : List Tariff) → AreTariffs hold v tariffs → (slack : ℤ) (item : Item) (set : PositionSet)
    → cheap_by tariffs slack (item, members set) ≡ filter (λ p. int_le (cost hold v (item, p) -ℤ least_cost hold v (item, members set)) slack) (members set)
cheap-one hold v tariffs are slack item set = filter-same
    (λ p. int_le (cost_by tariffs item.mass.0 p -ℤ least_by tariffs (item, members set)) slack)
    (λ p. int_le (cost hold v (item, p) -ℤ least_cost hold v (item, members set)) slack)
    (members set)
    (λ p within. ap₂ (λ x y. int_le (x -ℤ y) slack) (cost-is hold v tariffs are item p within) (least-is hold v tariffs are item set))
    (members-below set)

pub cheap-are : (hold : Layout) (v : Prices) (tariffs : List Tariff) → AreTariffs hold v tariffs → (slack : ℤ) (items : List Item) (sets : List PositionSet)
    → map (cheap_by tariffs slack) (zip items (map members sets)) ≡ cheap hold v slack (zip items (map members sets))
cheap-are hold v tariffs are slack [] sets = refl
cheap-are hold v tariffs are slack (item ∷ items) [] = refl
cheap-are hold v tariffs are slack (item ∷ items) (set ∷ sets) = ap₂ (λ x xs. x ∷ xs) (cheap-one hold v tariffs are slack item set) (cheap-are hold v tariffs are slack items sets)

-- a position of a hold has a number below 64
pub few-positions : (t : Problem) (cliques : ℕ) (list : ListedPrices) → IsLawful t → ArePriced t.hold cliques list → All (λ (p : Price). p.of < 64) list.positions
few-positions t cliques list lawful priced = All-weaker (IsPriceAmong (length t.hold.positions)) (λ (p : Price). p.of < 64)
    (λ p among. omega (arith, among.exists, (lawful-bounds t lawful).positions)) list.positions priced.positions

-- The value -------------------------------------------------------------------------------------

positions-worth : (t : Problem) (union : PositionSet) (sets : List PositionSet) → ((q : ℕ) → has union q ≡ list_any (λ (set : PositionSet). has set q) sets)
    → (prices : List Price) → AllByRecursion (λ (p : Price). p.of < 64) prices
    → int_sum_by (λ (p : Price). pos p.price *ℤ pos (if list_any (has union) (p.of ∷ []) then 1 else 0)) prices ≡ int_sum_by (λ (p : Price). pos p.price *ℤ stock t (map members sets) (OneOf (p.of ∷ []))) prices
positions-worth t union sets is [] within = refl
positions-worth t union sets is (p ∷ prices) within =
    let met = union-meets union sets is (p.of ∷ []) (within.0, tt) in
    ap₂ (λ b z. pos p.price *ℤ pos (if b then 1 else 0) +ℤ z) met (positions-worth t union sets is prices within.1)

cliques-worth : (t : Problem) (cliques : List PositionSet) (union : PositionSet) (sets : List PositionSet) → ((q : ℕ) → has union q ≡ list_any (λ (set : PositionSet). has set q) sets)
    → (prices : List Price)
    → int_sum_by (λ (p : Price). pos p.price *ℤ pos (if list_any (has union) (clique_places cliques p.of) then 1 else 0)) prices ≡ int_sum_by (λ (p : Price). pos p.price *ℤ stock t (map members sets) (OneOf (clique_places cliques p.of))) prices
cliques-worth t cliques union sets is [] = refl
cliques-worth t cliques union sets is (p ∷ prices) =
    let met = union-meets union sets is (clique_places cliques p.of) (clique-below cliques p.of) in
    ap₂ (λ b z. pos p.price *ℤ pos (if b then 1 else 0) +ℤ z) met (cliques-worth t cliques union sets is prices)

pub value-is : (t : Problem) (cliques : List PositionSet) (list : ListedPrices) (tariffs : List Tariff) (start : ℤ) (union : PositionSet) (sets : List PositionSet)
    → AreTariffs t.hold (prices_of t.hold cliques list) tariffs → ((choice : Choice) → start ≡ start_at t choice list) → All (λ (p : Price). p.of < 64) list.positions
    → ((q : ℕ) → has union q ≡ list_any (λ (set : PositionSet). has set q) sets)
    → value t (map members sets) (prices_of t.hold cliques list)
    ≡ start +ℤ int_sum_by (least_by tariffs) (candidates t (map members sets))
    -ℤ int_sum_by (λ (p : Price). pos p.price *ℤ pos (if list_any (has union) (p.of ∷ []) then 1 else 0)) list.positions
    -ℤ int_sum_by (λ (p : Price). pos p.price *ℤ pos (if list_any (has union) (clique_places cliques p.of) then 1 else 0)) list.cliques
value-is t cliques list tariffs start union sets are starts few is =
    let choice = map members sets in
    let v = prices_of t.hold cliques list in
    let leasts = leasts-are t.hold v tariffs are (ordered t.items) sets in
    let listed = sum-listed (λ (r : Priced). pos r.price *ℤ stock t choice r.resource) t.hold cliques list in
    let positions = positions-worth t union sets is list.positions (recursion_from_All (λ (p : Price). p.of < 64) list.positions few) in
    let met = cliques-worth t cliques union sets is list.cliques in
    let begin = starts choice in
    omega (arith, ints, leasts, listed, positions, met, begin)

-- in 128 bits
pub value-sum : (start least positions cliques : ℤ) → unsigned_abs start ≤ 10000000000000000000000000 → unsigned_abs least ≤ 3000000000000000000000 → unsigned_abs positions ≤ 640000000000000 → unsigned_abs cliques ≤ 2560000000000000
    → to_z w128 (of_z w128 (to_z w128 (of_z w128 (to_z w128 (of_z w128 (to_z w128 (of_z w128 start) +ℤ to_z w128 (of_z w128 least))) -ℤ to_z w128 (of_z w128 positions))) -ℤ to_z w128 (of_z w128 cliques)))
    ≡ start +ℤ least -ℤ positions -ℤ cliques
value-sum start least positions cliques few_a few_b few_c few_d = omega (arith, ints)

pub value-bound : (start least positions cliques : ℤ) → unsigned_abs start ≤ 10000000000000000000000000 → unsigned_abs least ≤ 3000000000000000000000 → unsigned_abs positions ≤ 640000000000000 → unsigned_abs cliques ≤ 2560000000000000
    → unsigned_abs (start +ℤ least -ℤ positions -ℤ cliques) ≤ 20000000000000000000000000
value-bound start least positions cliques few_a few_b few_c few_d = omega (arith, ints)

-- Of the task -----------------------------------------------------------------------------------

one-position : (t : Problem) (q : ℕ) → IsOf t (OneOf (q ∷ []))
one-position t q a b listed_a listed_b = inl (sym (only a listed_a) ∙ only b listed_b)
  where
    only : (a : ℕ) → ((q == a) || false) ≡ true → q ≡ a
    only a listed = ⊎_elim (λ same. same.1) (λ other. absurd (false≢true (rw other.0 at listed))) (eqb_tells q a)

no-position : (t : Problem) → IsOf t (OneOf [])
no-position t a b listed_a listed_b = absurd (false≢true listed_a)

limits-of : (t : Problem) → AllByRecursion (IsOf t) (limited_resources t.hold)
limits-of t = join (map UnderCombined t.hold.combined) _ (combined t.hold.combined (recursion_from_All (Contains t.hold.combined) t.hold.combined (All-contains_itself t.hold.combined)))
    (join (map UnderCumulative t.hold.cumulative) _ (cumulative t.hold.cumulative (recursion_from_All (Contains t.hold.cumulative) t.hold.cumulative (All-contains_itself t.hold.cumulative))) (lateral t.hold.lateral refl))
  where
    combined : (limits : List Combined) → AllByRecursion (Contains t.hold.combined) limits → AllByRecursion (IsOf t) (map UnderCombined limits)
    combined [] of = tt
    combined (limit ∷ limits) of = (of.0, combined limits of.1)

    cumulative : (limits : List Cumulative) → AllByRecursion (Contains t.hold.cumulative) limits → AllByRecursion (IsOf t) (map UnderCumulative limits)
    cumulative [] of = tt
    cumulative (limit ∷ limits) of = (of.0, cumulative limits of.1)

    lateral : (limit : Option Lateral) → t.hold.lateral ≡ limit → AllByRecursion (IsOf t) (lateral_resources limit)
    lateral None is = tt
    lateral (Some limit) is = ((limit, is), ((limit, is), tt))

    join : (xs ys : List Resource) → AllByRecursion (IsOf t) xs → AllByRecursion (IsOf t) ys → AllByRecursion (IsOf t) (xs ++ ys)
    join [] ys left right = right
    join (x ∷ xs) ys left right = (left.0, join xs ys left.1 right)

limit-of : (t : Problem) (n : ℕ) → IsOf t (limited_resource t.hold n)
limit-of t n = limited-at (IsOf t) (no-position t) (limited_resources t.hold) (limits-of t) n

clique-of : (t : Problem) (cliques : List PositionSet) → All (IsClique t) cliques → (n : ℕ) → IsOf t (OneOf (clique_places cliques n))
clique-of t cliques right n =
    let cases : ((set : PositionSet) × (n < length cliques) × (slice_get cliques n ≡ Some set) × (get_or cliques n set ≡ set)) ⊎ ((length cliques ≤ n) × (slice_get cliques n ≡ None)) = (slice_get_cases cliques n).1 in
    ⊎_elim
    (λ inside.
    let set : PositionSet = inside.0 in
    let there : slice_get cliques n ≡ Some set = inside.2 in
    let is : get_or cliques n set ≡ set = inside.3 in
    rw there (subst (IsClique t) is (right n set inside.1)))
    (λ past. rw past.1 (no-position t))
    cases

pub prices-of : (t : Problem) (cliques : List PositionSet) (list : ListedPrices) → All (IsClique t) cliques → AreOf t (prices_of t.hold cliques list)
prices-of t cliques list right = All-from_recursion (λ (r : Priced). IsOf t r.resource) (prices_of t.hold cliques list).priced (joined list.positions)
  where
    over_cliques : (prices : List Price) → AllByRecursion (λ (r : Priced). IsOf t r.resource) (map (clique_priced cliques) prices)
    over_cliques [] = tt
    over_cliques (p ∷ prices) = (clique-of t cliques right p.of, over_cliques prices)

    over_limits : (prices : List Price) → AllByRecursion (λ (r : Priced). IsOf t r.resource) (map (limit_priced t.hold) prices ++ map (clique_priced cliques) list.cliques)
    over_limits [] = over_cliques list.cliques
    over_limits (p ∷ prices) = (limit-of t p.of, over_limits prices)

    joined : (prices : List Price) → AllByRecursion (λ (r : Priced). IsOf t r.resource) (map position_priced prices ++ (map (limit_priced t.hold) list.limits ++ map (clique_priced cliques) list.cliques))
    joined [] = over_limits list.limits
    joined (p ∷ prices) = (one-position t p.of, joined prices)
