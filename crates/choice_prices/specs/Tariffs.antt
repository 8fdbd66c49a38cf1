-- what a container costs on a position, as so much for each kilogram and a fee
use Rattle.std.specs.Prelude.{ℕ, ◌≤◌, ℤ, pos, ◌+ℤ◌, ◌-ℤ◌, ◌*ℤ◌, int_le, unsigned_abs, if◌then◌else◌, List, map, slice_index_or}
use Rattle.std.specs.List.{filter}
use Rattle.base_words.specs.Lists.{int_sum_by}
use Rattle.hold_parts.specs.Limits.{is_listed, is_counted}
use Rattle.hold_limits.specs.Lateral.{side_at}
use Rattle.hold_limits.specs.Layout.{Layout}
use Rattle.hold_limits.specs.Placement.{influence_at}
use Rattle.hold_reach.specs.Reach.{least}
use Rattle.price_trees.specs.Prices.{Resource, UnderCombined, UnderCumulative, RightOverLeft, LeftOverRight, OneOf, Candidate, counted_from, Priced, Prices}
use Rattle.hold_parts.specs.declared.limit.Limit.TheVariants.{Listed, Counted}
use Rattle.tree_certificate.specs.declared.parts.Price.{Price}
use Rattle.choice_prices.specs.declared.limits.PricedLimit.{PricedLimit}
use Rattle.choice_prices.specs.declared.limits.PricedLimit.TheVariants as priced
use Rattle.choice_prices.specs.declared.tariff.Tariff.{Tariff}

-- the resource that a limit is of
abbrev pub resource_of : PricedLimit → Resource
resource_of (priced.Mass (Listed limit)) = UnderCombined limit.now
resource_of (priced.Mass (Counted limit)) = UnderCumulative limit.now
resource_of priced.RightOverLeft = RightOverLeft
resource_of priced.LeftOverRight = LeftOverRight

-- the price is at most 10,000,000,000,000 ticks
abbrev pub IsBoundedPrice : Price → Type 0
IsBoundedPrice p = p.price ≤ 10000000000000

-- what each kilogram on a position takes of a resource
abbrev pub taken_by_mass : Layout → Resource → ℕ → ℤ
taken_by_mass hold (UnderCombined c) q = pos (if is_listed c.places q then 1 else 0)
taken_by_mass hold (UnderCumulative c) q = pos (if is_counted c q then 1 else 0)
taken_by_mass hold RightOverLeft q = side_at hold q
taken_by_mass hold LeftOverRight q = pos 0 -ℤ side_at hold q
taken_by_mass hold (OneOf places) q = pos 0

-- what a container takes of it there whatever its mass
abbrev pub taken_by_place : Resource → ℕ → ℤ
taken_by_place (UnderCombined c) q = pos 0
taken_by_place (UnderCumulative c) q = pos 0
taken_by_place RightOverLeft q = pos 0
taken_by_place LeftOverRight q = pos 0
taken_by_place (OneOf places) q = pos (if is_listed places q then 1 else 0)

abbrev pub rate_at : Layout → Prices → ℕ → ℤ
rate_at hold v q = counted_from v.end (influence_at hold q) +ℤ int_sum_by (λ (r : Priced). pos r.price *ℤ taken_by_mass hold r.resource q) v.priced

abbrev pub fee_at : Prices → ℕ → ℤ
fee_at v q = int_sum_by (λ (r : Priced). pos r.price *ℤ taken_by_place r.resource q) v.priced

abbrev pub tariff_at : Layout → Prices → ℕ → Tariff
tariff_at hold v q = record { rate = rate_at hold v q; fee = fee_at v q }

-- the tariff of a position
abbrev pub tariff_in : List Tariff → ℕ → Tariff
tariff_in tariffs q = slice_index_or tariffs q record { rate = pos 0; fee = pos 0 }

-- what a mass costs by it
abbrev pub cost_by : List Tariff → ℕ → ℕ → ℤ
cost_by tariffs mass q = pos mass *ℤ (tariff_in tariffs q).rate +ℤ (tariff_in tariffs q).fee

abbrev pub least_by : List Tariff → Candidate → ℤ
least_by tariffs c = least (map (cost_by tariffs c.0.mass.0) c.1)

-- the positions that cost at most so much more than the least
abbrev pub cheap_by : List Tariff → ℤ → Candidate → List ℕ
cheap_by tariffs slack c = filter (λ p. int_le (cost_by tariffs c.0.mass.0 p -ℤ least_by tariffs c) slack) c.1

-- rates of at most 2,000,000,000,000,000 and fees of at most twice as much, either way
pub record IsBoundedTariff (tariff : Tariff) : Type 0 where
  pub rate : unsigned_abs tariff.rate ≤ 2000000000000000
  pub fee : unsigned_abs tariff.fee ≤ 4000000000000000
