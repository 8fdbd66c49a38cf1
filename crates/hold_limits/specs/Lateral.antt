-- the sides of a hold, and its limit on the difference of the masses right and left
use Rattle.std.specs.Prelude.{ℕ, ◌≤◌, ℤ, pos, negsuc, unsigned_abs, Bool, false, not, ◌==◌, if◌then◌else◌, List, [], Option, find, IfSome}
use Rattle.std.specs.Option.{option_map_or}
use Rattle.hold_parts.specs.declared.parts.Lateral.{Lateral}
use Rattle.hold_limits.specs.Layout.{Layout}

-- the positions with their sides; a hold without a lateral limit has none
abbrev pub sides_of : Layout → List (ℕ × Bool)
sides_of hold = option_map_or (λ (l : Lateral). l.sides) hold.lateral []

-- the position with its side, where it has one
abbrev pub listed_side : Layout → ℕ → Option (ℕ × Bool)
listed_side hold q = find (λ (side : ℕ × Bool). side.0 == q) (sides_of hold)

-- whether the position is on the right, and whether it is on the left
abbrev pub is_right : Layout → ℕ → Bool
is_right hold q = option_map_or (λ (side : ℕ × Bool). side.1) (listed_side hold q) false

abbrev pub is_left : Layout → ℕ → Bool
is_left hold q = option_map_or (λ (side : ℕ × Bool). not side.1) (listed_side hold q) false

-- the side of a position: 1 on the right, -1 on the left, 0 on neither
abbrev pub side_at : Layout → ℕ → ℤ
side_at hold q = if is_right hold q then pos 1 else if is_left hold q then negsuc 0 else pos 0

-- a difference is, to either side, at most the lateral limit; where the hold has none there is nothing to keep
abbrev pub IsWithinLateral : Layout → ℤ → Type 0
IsWithinLateral hold difference = IfSome hold.lateral (λ (l : Lateral). unsigned_abs difference ≤ l.most.0)
