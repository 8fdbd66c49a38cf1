-- the first rule of a hold that a prefix breaks, or that it would break with one position more
use Rattle.std.specs.Prelude.{ℕ, Bool, false, not, ◌&&◌, ◌==◌, nat_lt, nat_le, List, [], ◌∷◌, ◌++◌, length, Option, option_map, position, slice_get}
use Rattle.std.specs.List.{list_any}
use Rattle.std.specs.Option.{option_or, option_map_or}
use Rattle.base_words.specs.Lists.{first_below}
use Rattle.hold_parts.specs.declared.parts.Combined.{Combined}
use Rattle.hold_parts.specs.declared.parts.Cumulative.{Cumulative}
use Rattle.hold_parts.specs.declared.parts.Item.{Item}
use Rattle.hold_limits.specs.Layout.{Layout}
use Rattle.hold_limits.specs.Problem.{Problem}
use Rattle.hold_limits.specs.Placement.{load_of}
use Rattle.hold_parts.specs.Limits.{is_listed, is_counted}
use Rattle.hold_parts.specs.Accepting.{has_kind}
use Rattle.hold_limits.specs.Enumeration.{is_accepted, exclude}
use Rattle.hold_limits.specs.Faults.{fault_if}
use Rattle.hold_reach.specs.declared.rule.RuleBroken.{RuleBroken}
use Rattle.hold_reach.specs.declared.rule.RuleBroken.TheVariants as rule

-- a container of the prefix stands on the position
abbrev pub is_used : List ℕ → ℕ → Bool
is_used prefix q = list_any (λ used. used == q) prefix

abbrev pub has_kind_at : Layout → Item → ℕ → Bool
has_kind_at hold item q = option_map_or (has_kind item) (slice_get hold.positions q) false

-- the least used position that excludes this one
abbrev pub excluding : Layout → List ℕ → ℕ → Option ℕ
excluding hold prefix q = first_below (λ other. is_used prefix other && exclude hold other q) (length hold.positions)

-- the load of the limit's positions is more than it allows
abbrev pub breaks_combined : Problem → List ℕ → Combined → Bool
breaks_combined t prefix limit = nat_lt limit.most.0 (load_of (is_listed limit.places) t prefix)

abbrev pub breaks_cumulative : Problem → List ℕ → Cumulative → Bool
breaks_cumulative t prefix limit = nat_lt limit.most.0 (load_of (is_counted limit) t prefix)

-- the first limit that breaks, the combined ones first
abbrev pub limit_broken : Problem → List ℕ → Option RuleBroken
limit_broken t prefix =
    option_or (option_map rule.Combined (position (breaks_combined t prefix) t.hold.combined))
    (option_map rule.Cumulative (position (breaks_cumulative t prefix) t.hold.cumulative))

-- the first rule that breaks where this container follows the prefix on this position
abbrev pub rule_broken : Problem → List ℕ → Item → ℕ → Option RuleBroken
rule_broken t prefix item q =
    option_or (fault_if (nat_le (length t.hold.positions) q) rule.Unknown)
    (option_or (fault_if (is_used prefix q) rule.Taken)
    (option_or (fault_if (not (has_kind_at t.hold item q)) rule.NoFit)
    (option_or (fault_if (not (is_accepted t.hold (item, q))) rule.TooHeavy)
    (option_or (option_map rule.Excluded (excluding t.hold prefix q))
    (limit_broken t (prefix ++ q ∷ []))))))
