-- the limits of a hold by their numbers, and what the loose loads leave under them
use Rattle.std.proofs.Common.{◌≡◌, ℕ, pos, ◌-ℤ◌, false, List, [], ◌∷◌, None, refl, arith}
use Rattle.std.proofs.lemmas.Int.{ints}
use Rattle.std.specs.Prelude.{slice_get}
use Rattle.std.specs.List.{list_any}
use Rattle.base_words.specs.Lists.{int_sum_by}
use Rattle.hold_parts.specs.Limits.{is_listed, is_limited, most_of}
use Rattle.hold_parts.specs.declared.limit.Limit.{Limit}
use Rattle.hold_parts.specs.declared.limit.Limit.TheVariants.{Listed, Counted}
use Rattle.hold_limits.specs.BranchOrder.{ordered}
use Rattle.hold_limits.specs.Placement.{loose_load, loose_lateral, loose_moment, lateral_difference, hold_index}
use Rattle.hold_limits.specs.Problem.{Problem}
use Rattle.hold_reach.proofs.RuleLemmas.{zip-nil}
use Rattle.price_trees.specs.Prices.{Choice, meets, stock}
use Rattle.choice_prices.specs.declared.limits.PricedLimit.{PricedLimit}
use Rattle.choice_prices.specs.declared.limits.PricedLimit.TheVariants as priced
use Rattle.choice_prices.specs.Listing.{limited_resources, limited_resource}
use Rattle.choice_prices.specs.Tariffs.{resource_of}

-- The loose loads alone -------------------------------------------------------------------------

pub lateral-alone : (t : Problem) → lateral_difference t [] ≡ int_sum_by (loose_lateral t.hold) t.loose
lateral-alone t = rw (zip-nil (ordered t.items)) (omega (arith, ints))

pub index-alone : (t : Problem) → hold_index t [] ≡ int_sum_by (loose_moment t.hold) t.loose
index-alone t = rw (zip-nil (ordered t.items)) (omega (arith, ints))

-- Room ------------------------------------------------------------------------------------------

pub room-mass : (t : Problem) (choice : Choice) (limit : Limit) → stock t choice (resource_of (priced.Mass limit)) ≡ pos (most_of limit) -ℤ pos (loose_load (is_limited limit) t.loose)
room-mass t choice (Listed limit) = refl
room-mass t choice (Counted limit) = refl

pub none-met : (choice : Choice) → meets [] choice ≡ false
none-met [] = refl
none-met (set ∷ choice) = rw (none-in set) (none-met choice)
  where
    none-in : (set : List ℕ) → list_any (is_listed []) set ≡ false
    none-in [] = refl
    none-in (q ∷ set) = none-in set

-- there is nothing of what no limit is of
pub room-none : (t : Problem) (choice : Choice) (n : ℕ) → slice_get (limited_resources t.hold) n ≡ None → pos 0 ≡ stock t choice (limited_resource t.hold n)
room-none t choice n none = rw (none, none-met choice) refl
