-- the positions of a limit, and the greatest mass on them
use Rattle.std.specs.Prelude.{ℕ, Bool, ◌==◌, nat_le, if◌then◌else◌, List}
use Rattle.std.specs.List.{list_any}
use Rattle.hold_parts.specs.declared.parts.Cumulative.{Cumulative}
use Rattle.hold_parts.specs.declared.limit.Limit.{Limit}
use Rattle.hold_parts.specs.declared.limit.Limit.TheVariants.{Listed, Counted}

-- the set of a combined limit: the positions that it lists
abbrev pub is_listed : List ℕ → ℕ → Bool
is_listed numbers q = list_any (λ number. number == q) numbers

-- the set of a cumulative limit: all positions up to and with its own, or all from its own on
abbrev pub is_counted : Cumulative → ℕ → Bool
is_counted limit q = if limit.forward then nat_le q limit.place else nat_le limit.place q

-- the position is one of the limit's
abbrev pub is_limited : Limit → ℕ → Bool
is_limited (Listed limit) q = is_listed limit.now.places q
is_limited (Counted limit) q = is_counted limit.now q

-- the greatest mass that the limit allows, in kilograms
abbrev pub most_of : Limit → ℕ
most_of (Listed limit) = limit.now.most.0
most_of (Counted limit) = limit.now.most.0
