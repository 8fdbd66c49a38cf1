-- the lateral difference is the load of the right positions less that of the left ones
use Rattle.std.proofs.Common.{◌≡◌, ℕ, pos, negsuc, ◌-ℤ◌, ◌*ℤ◌, Bool, true, false, not, if◌then◌else◌, List, [], ◌∷◌, Option, Some, None, refl, arith}
use Rattle.std.proofs.lemmas.Int.{ints}
use Rattle.std.proofs.lemmas.List.Sums.{sum_by-cons}
use Rattle.std.specs.Option.{option_map_or}
use Rattle.base_words.specs.Lists.{int_sum_by}
use Rattle.hold_parts.specs.declared.parts.Loose.{Loose}
use Rattle.hold_limits.specs.Layout.{Layout}
use Rattle.hold_limits.specs.Lateral.{listed_side, is_right, is_left}
use Rattle.hold_limits.specs.Problem.{Problem}
use Rattle.hold_limits.specs.Placement.{Placed, placed, placed_load, loose_load, load_of, placed_lateral, loose_lateral, lateral_difference}

-- a mass on a position with this side, or with none
side-mass : (m : ℕ) (side : Option (ℕ × Bool))
    → pos m *ℤ (if option_map_or (λ (s : ℕ × Bool). s.1) side false then pos 1 else if option_map_or (λ (s : ℕ × Bool). not s.1) side false then negsuc 0 else pos 0)
    ≡ pos (if option_map_or (λ (s : ℕ × Bool). s.1) side false then m else 0) -ℤ pos (if option_map_or (λ (s : ℕ × Bool). not s.1) side false then m else 0)
side-mass m None = omega (arith, ints)
side-mass m (Some s) = by_side s.1
  where
    by_side : (right : Bool)
        → pos m *ℤ (if right then pos 1 else if not right then negsuc 0 else pos 0)
        ≡ pos (if right then m else 0) -ℤ pos (if not right then m else 0)
    by_side true = omega (arith, ints)
    by_side false = omega (arith, ints)

placed-sides : (hold : Layout) (containers : List Placed) → int_sum_by (placed_lateral hold) containers ≡ pos (placed_load (is_right hold) containers) -ℤ pos (placed_load (is_left hold) containers)
placed-sides hold [] = refl
placed-sides hold (p ∷ containers) =
    let right = sum_by-cons (λ (p : Placed). if is_right hold p.1 then p.0.mass.0 else 0) p containers in
    let left = sum_by-cons (λ (p : Placed). if is_left hold p.1 then p.0.mass.0 else 0) p containers in
    omega (arith, ints, side-mass p.0.mass.0 (listed_side hold p.1), placed-sides hold containers, right, left)

loose-sides : (hold : Layout) (loose : List Loose) → int_sum_by (loose_lateral hold) loose ≡ pos (loose_load (is_right hold) loose) -ℤ pos (loose_load (is_left hold) loose)
loose-sides hold [] = refl
loose-sides hold (l ∷ loose) =
    let right = sum_by-cons (λ (l : Loose). if is_right hold l.position then l.mass.0 else 0) l loose in
    let left = sum_by-cons (λ (l : Loose). if is_left hold l.position then l.mass.0 else 0) l loose in
    omega (arith, ints, side-mass l.mass.0 (listed_side hold l.position), loose-sides hold loose, right, left)

pub lateral_difference-sides : (t : Problem) (prefix : List ℕ) → lateral_difference t prefix ≡ pos (load_of (is_right t.hold) t prefix) -ℤ pos (load_of (is_left t.hold) t prefix)
lateral_difference-sides t prefix = omega (arith, ints, placed-sides t.hold (placed t prefix), loose-sides t.hold t.loose)
