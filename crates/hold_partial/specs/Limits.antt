-- a limit of a hold, combined or cumulative: the positions that it speaks of, and the mass that it allows on them
use Rattle.std.specs.Prelude.{◌≡◌, ℕ, ◌-◌, ◌<◌, Bool, false, ◌==◌, nat_lt, if◌then◌else◌, List, ◌++◌, length, map, sum_by, slice_get, slice_index}
use Rattle.std.specs.List.{filter, range_with_len}
use Rattle.std.specs.Option.{option_map_or}
use Rattle.hold_parts.specs.declared.parts.Combined.{Combined}
use Rattle.hold_parts.specs.declared.parts.Cumulative.{Cumulative}
use Rattle.hold_limits.specs.Layout.{Layout}
use Rattle.hold_limits.specs.Problem.{Problem}
use Rattle.hold_limits.specs.Placement.{load_of}
use Rattle.hold_parts.specs.Limits.{is_listed, is_counted}
use Rattle.hold_reach.specs.declared.rule.RuleBroken.{RuleBroken}
use Rattle.hold_reach.specs.declared.rule.RuleBroken.TheVariants as rule

-- the limits of a hold in one list, the combined ones first: each as its positions and the mass that it allows
abbrev pub Allowance : Type 0
Allowance = (ℕ → Bool) × ℕ

abbrev pub limits_of : Layout → List Allowance
limits_of hold =
    map (λ (c : Combined). (is_listed c.places, c.most.0)) hold.combined
    ++ map (λ (c : Cumulative). (is_counted c, c.most.0)) hold.cumulative

-- whether the limit at a place of that list speaks of a position, the mass that it allows, and its load
abbrev pub limit_covers : Layout → ℕ → ℕ → Bool
limit_covers hold j q = option_map_or (λ (l : Allowance). l.0 q) (slice_get (limits_of hold) j) false

abbrev pub limit_most : Layout → ℕ → ℕ
limit_most hold j = option_map_or (λ (l : Allowance). l.1) (slice_get (limits_of hold) j) 0

abbrev pub limit_load : Problem → List ℕ → ℕ → ℕ
limit_load t prefix j = option_map_or (λ (l : Allowance). load_of l.0 t prefix) (slice_get (limits_of t.hold) j) 0

-- the limits that speak of a position, in the order of that list
abbrev pub limits_on : Layout → ℕ → List ℕ
limits_on hold q = filter (λ j. limit_covers hold j q) (range_with_len 0 (length (limits_of hold)))

-- the rule that breaks where the limit at a place of that list does
abbrev pub rule_at : Layout → ℕ → RuleBroken
rule_at hold j = if nat_lt j (length hold.combined) then rule.Combined j else rule.Cumulative (j - length hold.combined)

-- how much a mass adds to the load at a place, where it counts in the limits of a list
abbrev pub added_at : ℕ → List ℕ → ℕ → ℕ
added_at mass limits k = sum_by (λ j. if j == k then mass else 0) limits

-- the loads of all limits, and the masses that they allow
abbrev pub AreLoads : Problem → List ℕ → List ℕ → Type 0
AreLoads t prefix loads = (j : ℕ) → j < length (limits_of t.hold) → slice_index loads j ≡ limit_load t prefix j

abbrev pub AreAllowed : Layout → List ℕ → Type 0
AreAllowed hold most = (j : ℕ) → j < length (limits_of hold) → slice_index most j ≡ limit_most hold j
