-- what the prices of a certificate stand for, which cliques and prices may stand there, and the first that may not
use Rattle.std.specs.Prelude.{ℕ, ◌<◌, ◌≤◌, Bool, not, ◌||◌, ◌==◌, nat_lt, nat_le, List, [], ◌∷◌, ◌++◌, length, map, position, All, Option, Some, None, option_map, slice_get}
use Rattle.std.specs.List.{list_all}
use Rattle.std.specs.Option.{option_or, option_map_or}
use Rattle.hold_parts.specs.declared.parts.Lateral.{Lateral}
use Rattle.hold_limits.specs.Layout.{Layout}
use Rattle.hold_limits.specs.Problem.{Problem}
use Rattle.hold_limits.specs.Enumeration.{exclude}
use Rattle.hold_limits.specs.Faults.{fault_if}
use Rattle.position_set.specs.declared.set.PositionSet.{PositionSet}
use Rattle.position_set.specs.Sets.{members}
use Rattle.price_trees.specs.Prices.{Resource, UnderCombined, UnderCumulative, RightOverLeft, LeftOverRight, OneOf, IsOf, End, Low, High, Priced, Prices}
use Rattle.tree_certificate.specs.declared.parts.End.{End as ListedEnd}
use Rattle.tree_certificate.specs.declared.parts.End.TheVariants as listed
use Rattle.tree_certificate.specs.declared.parts.Price.{Price}
use Rattle.tree_certificate.specs.Listed.{ListedPrices}
use Rattle.choice_prices.specs.declared.fault.PriceFault.{PriceFault}
use Rattle.choice_prices.specs.declared.fault.PriceFault.TheVariants as fault

-- Cliques ---------------------------------------------------------------------------------------

-- any two positions of the set exclude each other
abbrev pub IsClique : Problem → PositionSet → Type 0
IsClique t set = IsOf t (OneOf (members set))

-- the same as a question
abbrev pub is_clique : Layout → List ℕ → Bool
is_clique hold places = list_all (λ a. list_all (λ b. (a == b) || exclude hold a b) places) places

-- the place of the first set that is no clique
abbrev pub wrong_clique : Layout → List PositionSet → Option ℕ
wrong_clique hold sets = position (λ (set : PositionSet). not (is_clique hold (members set))) sets

-- What prices are of ----------------------------------------------------------------------------

-- of what a lateral limit leaves little: more mass on the right than on the left, and the reverse
abbrev pub lateral_resources : Option Lateral → List Resource
lateral_resources None = []
lateral_resources (Some limit) = RightOverLeft ∷ LeftOverRight ∷ []

-- the limits of a hold in the order of their numbers: the combined ones, the cumulative ones, and the two of a lateral limit
abbrev pub limited_resources : Layout → List Resource
limited_resources hold = map UnderCombined hold.combined ++ (map UnderCumulative hold.cumulative ++ lateral_resources hold.lateral)

-- the one with this number; where there is none, a place among no positions, which nobody takes
abbrev pub limited_resource : Layout → ℕ → Resource
limited_resource hold n = option_map_or (λ resource. resource) (slice_get (limited_resources hold) n) (OneOf [])

-- the positions of the clique with this number, and no position where there is none
abbrev pub clique_places : List PositionSet → ℕ → List ℕ
clique_places cliques n = option_map_or members (slice_get cliques n) []

abbrev pub position_priced : Price → Priced
position_priced p = record { resource = OneOf (p.of ∷ []); price = p.price }

abbrev pub limit_priced : Layout → Price → Priced
limit_priced hold p = record { resource = limited_resource hold p.of; price = p.price }

abbrev pub clique_priced : List PositionSet → Price → Priced
clique_priced cliques p = record { resource = OneOf (clique_places cliques p.of); price = p.price }

abbrev pub end_of : ListedEnd → End
end_of listed.Low = Low
end_of listed.High = High

-- the prices that a list of a certificate with these cliques stands for
abbrev pub prices_of : Layout → List PositionSet → ListedPrices → Prices
prices_of hold cliques list = record {
  end = end_of list.end;
  priced = map position_priced list.positions ++ (map (limit_priced hold) list.limits ++ map (clique_priced cliques) list.cliques);
}

-- Which prices a list may have ------------------------------------------------------------------

-- the price is of one of so many, and is at most 10,000,000,000,000 ticks
pub record IsPriceAmong (count : ℕ) (p : Price) : Type 0 where
  pub exists : p.of < count
  pub price : p.price ≤ 10000000000000

-- each price is of a position or a limit of the hold, or of one of so many cliques, and there are not too many
pub record ArePriced (hold : Layout) (clique_count : ℕ) (list : ListedPrices) : Type 0 where
  pub few_positions : length list.positions ≤ 64
  pub few_limits : length list.limits ≤ 194
  pub few_cliques : length list.cliques ≤ 256
  pub positions : All (IsPriceAmong (length hold.positions)) list.positions
  pub limits : All (IsPriceAmong (length (limited_resources hold))) list.limits
  pub cliques : All (IsPriceAmong clique_count) list.cliques

-- The first that may not stand there ------------------------------------------------------------

abbrev pub is_price_wrong : ℕ → Price → Bool
is_price_wrong count p = nat_le count p.of || nat_lt 10000000000000 p.price

abbrev pub has_too_many : ListedPrices → Bool
has_too_many list = nat_lt 64 (length list.positions) || (nat_lt 194 (length list.limits) || nat_lt 256 (length list.cliques))

-- what is wrong with a list: the first kind of fault that there is, at its first place
abbrev pub price_fault : Layout → ℕ → ListedPrices → Option PriceFault
price_fault hold cliques list =
    option_or (fault_if (has_too_many list) fault.TooMany)
    (option_or (option_map fault.Position (position (is_price_wrong (length hold.positions)) list.positions))
    (option_or (option_map fault.Limit (position (is_price_wrong (length (limited_resources hold))) list.limits))
    (option_map fault.Clique (position (is_price_wrong cliques) list.cliques))))
