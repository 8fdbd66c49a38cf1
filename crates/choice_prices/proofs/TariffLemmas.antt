-- what a container costs is its mass times the rate of its position, and the fee there
use Rattle.std.proofs.Common.{◌≡◌, ℕ, zero, suc, ◌+◌, ◌*◌, ◌≤◌, unsigned_abs, ℤ, pos, ◌+ℤ◌, ◌*ℤ◌, Bool, true, false, List, [], ◌∷◌, ◌++◌, map, Option, Some, None, refl, ap, ap₂, sym, ◌∙◌, arith, zero-add}
use Rattle.std.proofs.Math.Nat.{mul-le-mul}
use Rattle.std.proofs.lemmas.Int.{ints, unsigned_abs-mul}
use Rattle.std.proofs.lemmas.List.{map-append}
use Rattle.std.specs.Prelude.{slice_get, if◌then◌else◌}
use Rattle.std.specs.List.{AllByRecursion, range_with_len}
use Rattle.std.specs.Option.{option_map_or}
use Rattle.base_words.specs.Lists.{int_sum_by}
use Rattle.hold_parts.specs.Limits.{is_listed, is_counted}
use Rattle.hold_parts.specs.declared.parts.Combined.{Combined}
use Rattle.hold_parts.specs.declared.parts.Cumulative.{Cumulative}
use Rattle.hold_parts.specs.declared.parts.Lateral.{Lateral}
use Rattle.hold_limits.specs.Lateral.{side_at}
use Rattle.hold_limits.specs.Layout.{Layout}
use Rattle.hold_limits.specs.Placement.{Placed, influence_at}
use Rattle.position_set.specs.declared.set.PositionSet.{PositionSet}
use Rattle.price_trees.specs.Prices.{Resource, UnderCombined, UnderCumulative, RightOverLeft, LeftOverRight, OneOf, taken, End, Low, High, counted_from, Priced, Prices, cost}
use Rattle.price_trees.proofs.SignedSums.{times-add, times-zero}
use Rattle.tree_certificate.specs.declared.parts.Price.{Price}
use Rattle.tree_certificate.specs.Listed.{ListedPrices}
use Rattle.choice_prices.specs.declared.tariff.Tariff.{Tariff}
use Rattle.choice_prices.specs.Listing.{lateral_resources, limited_resources, limited_resource, clique_places, position_priced, limit_priced, clique_priced, end_of, prices_of}
use Rattle.choice_prices.specs.Tariffs.{taken_by_mass, taken_by_place, rate_at, fee_at, tariff_at}
use Rattle.choice_prices.proofs.SumLemmas.{times-minus, times-swap, sum-append, sum-map, sum-same, sum-nothing}

-- Rates and fees --------------------------------------------------------------------------------

by-mass : (m : ℕ) (is_in : Bool) → pos (if is_in then m else 0) ≡ pos m *ℤ pos (if is_in then 1 else 0) +ℤ pos 0
by-mass m true = omega (arith, ints)
by-mass m false = omega (arith, ints)

taken-split : (hold : Layout) (r : Resource) (p : Placed) → taken hold r p ≡ pos p.0.mass.0 *ℤ taken_by_mass hold r p.1 +ℤ taken_by_place r p.1
taken-split hold (UnderCombined c) p = by-mass p.0.mass.0 (is_listed c.places p.1)
taken-split hold (UnderCumulative c) p = by-mass p.0.mass.0 (is_counted c p.1)
taken-split hold RightOverLeft p = omega (arith, ints)
taken-split hold LeftOverRight p = omega (arith, ints, times-minus p.0.mass.0 (side_at hold p.1))
taken-split hold (OneOf places) p = omega (arith, ints, times-zero p.0.mass.0)

price-split : (hold : Layout) (r : Priced) (p : Placed) → pos r.price *ℤ taken hold r.resource p
    ≡ pos p.0.mass.0 *ℤ (pos r.price *ℤ taken_by_mass hold r.resource p.1) +ℤ pos r.price *ℤ taken_by_place r.resource p.1
price-split hold r p =
    ap (λ z. pos r.price *ℤ z) (taken-split hold r.resource p)
    ∙ times-add r.price (pos p.0.mass.0 *ℤ taken_by_mass hold r.resource p.1) (taken_by_place r.resource p.1)
    ∙ ap (λ z. z +ℤ pos r.price *ℤ taken_by_place r.resource p.1) (times-swap r.price p.0.mass.0 (taken_by_mass hold r.resource p.1))

prices-split : (hold : Layout) (p : Placed) (rs : List Priced) → int_sum_by (λ (r : Priced). pos r.price *ℤ taken hold r.resource p) rs
    ≡ pos p.0.mass.0 *ℤ int_sum_by (λ (r : Priced). pos r.price *ℤ taken_by_mass hold r.resource p.1) rs +ℤ int_sum_by (λ (r : Priced). pos r.price *ℤ taken_by_place r.resource p.1) rs
prices-split hold p [] = omega (arith, ints, times-zero p.0.mass.0)
prices-split hold p (r ∷ rs) = omega (
  arith,
  ints,
  price-split hold r p,
  prices-split hold p rs,
  times-add p.0.mass.0 (pos r.price *ℤ taken_by_mass hold r.resource p.1) (int_sum_by (λ (r : Priced). pos r.price *ℤ taken_by_mass hold r.resource p.1) rs),
)

counted-times : (end : End) (m : ℕ) (z : ℤ) → counted_from end (pos m *ℤ z) ≡ pos m *ℤ counted_from end z
counted-times Low m z = refl
counted-times High m z = sym (times-minus m z)

pub cost-split : (hold : Layout) (v : Prices) (p : Placed) → cost hold v p ≡ pos p.0.mass.0 *ℤ rate_at hold v p.1 +ℤ fee_at v p.1
cost-split hold v p = omega (
  arith,
  ints,
  counted-times v.end p.0.mass.0 (influence_at hold p.1),
  prices-split hold p v.priced,
  times-add p.0.mass.0 (counted_from v.end (influence_at hold p.1)) (int_sum_by (λ (r : Priced). pos r.price *ℤ taken_by_mass hold r.resource p.1) v.priced),
)

-- of at most 20,000 kg
pub rate-bound : (mass : ℕ) (rate : ℤ) → mass ≤ 20000 → unsigned_abs rate ≤ 2000000000000000 → unsigned_abs (pos mass *ℤ rate) ≤ 40000000000000000000
rate-bound mass rate light near =
    let product : mass * unsigned_abs rate ≤ 20000 * 2000000000000000 = mul-le-mul light near in
    omega (arith, unsigned_abs-mul (pos mass) rate, product)

-- Over a list of a certificate ------------------------------------------------------------------

-- a sum over the prices of a list is one over those of positions, of limits and of cliques
pub sum-listed : (f : Priced → ℤ) (hold : Layout) (cliques : List PositionSet) (list : ListedPrices) → int_sum_by f (prices_of hold cliques list).priced
    ≡ int_sum_by (λ p. f (position_priced p)) list.positions +ℤ (int_sum_by (λ p. f (limit_priced hold p)) list.limits +ℤ int_sum_by (λ p. f (clique_priced cliques p)) list.cliques)
sum-listed f hold cliques list = omega (
  arith,
  ints,
  sum-append f (map position_priced list.positions) (map (limit_priced hold) list.limits ++ map (clique_priced cliques) list.cliques),
  sum-append f (map (limit_priced hold) list.limits) (map (clique_priced cliques) list.cliques),
  sum-map f position_priced list.positions,
  sum-map f (limit_priced hold) list.limits,
  sum-map f (clique_priced cliques) list.cliques,
)

-- kilograms take no place under limits
abbrev TakesNoPlace : ℕ → Resource → Type 0
TakesNoPlace q r = taken_by_place r q ≡ pos 0

none-each : (q : ℕ) (hold : Layout) → AllByRecursion (TakesNoPlace q) (limited_resources hold)
none-each q hold = join (map UnderCombined hold.combined) _ (combined hold.combined) (join (map UnderCumulative hold.cumulative) _ (cumulative hold.cumulative) (lateral hold.lateral))
  where
    combined : (limits : List Combined) → AllByRecursion (TakesNoPlace q) (map UnderCombined limits)
    combined [] = tt
    combined (limit ∷ limits) = (refl, combined limits)

    cumulative : (limits : List Cumulative) → AllByRecursion (TakesNoPlace q) (map UnderCumulative limits)
    cumulative [] = tt
    cumulative (limit ∷ limits) = (refl, cumulative limits)

    lateral : (limit : Option Lateral) → AllByRecursion (TakesNoPlace q) (lateral_resources limit)
    lateral None = tt
    lateral (Some limit) = (refl, (refl, tt))

    join : (xs ys : List Resource) → AllByRecursion (TakesNoPlace q) xs → AllByRecursion (TakesNoPlace q) ys → AllByRecursion (TakesNoPlace q) (xs ++ ys)
    join [] ys left right = right
    join (x ∷ xs) ys left right = (left.0, join xs ys left.1 right)

-- what holds of all limits and of no place holds of the limit with a number
pub limited-at : (P : Resource → Type 0) → P (OneOf []) → (resources : List Resource) → AllByRecursion P resources → (n : ℕ) → P (option_map_or (λ resource. resource) (slice_get resources n) (OneOf []))
limited-at P none [] each n = none
limited-at P none (r ∷ resources) each zero = each.0
limited-at P none (r ∷ resources) each (suc n) = limited-at P none resources each.1 n

limited-none : (q : ℕ) (hold : Layout) (n : ℕ) → taken_by_place (limited_resource hold n) q ≡ pos 0
limited-none q hold n = limited-at (TakesNoPlace q) refl (limited_resources hold) (none-each q hold) n

pub rate-listed : (hold : Layout) (cliques : List PositionSet) (list : ListedPrices) (q : ℕ) → rate_at hold (prices_of hold cliques list) q
    ≡ counted_from (end_of list.end) (influence_at hold q) +ℤ int_sum_by (λ (p : Price). pos p.price *ℤ taken_by_mass hold (limited_resource hold p.of) q) list.limits
rate-listed hold cliques list q = omega (
  arith,
  ints,
  sum-listed (λ (r : Priced). pos r.price *ℤ taken_by_mass hold r.resource q) hold cliques list,
  sum-nothing (λ (p : Price). p.price) list.positions,
  sum-nothing (λ (p : Price). p.price) list.cliques,
)

pub fee-listed : (hold : Layout) (cliques : List PositionSet) (list : ListedPrices) (q : ℕ) → fee_at (prices_of hold cliques list) q
    ≡ int_sum_by (λ (p : Price). pos p.price *ℤ pos (if is_listed (p.of ∷ []) q then 1 else 0)) list.positions
    +ℤ int_sum_by (λ (p : Price). pos p.price *ℤ pos (if is_listed (clique_places cliques p.of) q then 1 else 0)) list.cliques
fee-listed hold cliques list q = omega (
  arith,
  ints,
  sum-listed (λ (r : Priced). pos r.price *ℤ taken_by_place r.resource q) hold cliques list,
  sum-same (λ (p : Price). pos p.price *ℤ taken_by_place (limited_resource hold p.of) q) (λ (p : Price). pos p.price *ℤ pos 0) (λ p. ap (λ z. pos p.price *ℤ z) (limited-none q hold p.of)) list.limits,
  sum-nothing (λ (p : Price). p.price) list.limits,
)

-- The tariffs of all positions ------------------------------------------------------------------

range-suc : (a n : ℕ) → range_with_len a (suc n) ≡ range_with_len a n ++ (a + n) ∷ []
range-suc a zero = ap (λ x. x ∷ []) (omega arith)
range-suc a (suc n) =
    let next : (a + 1) + n ≡ a + suc n = omega arith in
    ap (λ xs. a ∷ xs) (range-suc (a + 1) n ∙ ap (λ x. range_with_len (a + 1) n ++ x ∷ []) next)

range-more : (n : ℕ) → range_with_len 0 (n + 1) ≡ range_with_len 0 n ++ n ∷ []
range-more n =
    let next : n + 1 ≡ suc n = omega arith in
    ap (range_with_len 0) next ∙ range-suc 0 n ∙ ap (λ x. range_with_len 0 n ++ x ∷ []) (zero-add n)

pub tariffs-more : (hold : Layout) (v : Prices) (n : ℕ) (tariffs : List Tariff) (tariff : Tariff) → tariffs ≡ map (tariff_at hold v) (range_with_len 0 n) → tariff ≡ tariff_at hold v n
    → tariffs ++ tariff ∷ [] ≡ map (tariff_at hold v) (range_with_len 0 (n + 1))
tariffs-more hold v n tariffs tariff are is =
    ap₂ (λ ts t. ts ++ t ∷ []) are is
    ∙ sym (ap (map (tariff_at hold v)) (range-more n) ∙ map-append (tariff_at hold v) (range_with_len 0 n) (n ∷ []))
