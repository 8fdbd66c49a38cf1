-- the sides of one position more
use Rattle.std.proofs.Common.{◌≡◌, ℕ, ◌+◌, ◌==◌, suc, find, List, ◌∷◌, [], ◌++◌, min, Some, None, refl, arith}
use Rattle.aircraft_file.specs.declared.side_keys.NamedSide.{NamedSide}
use Rattle.aircraft_file.specs.Loading.{and_side, in_order}

in_order-more : (sides : List NamedSide) (n : ℕ) → in_order sides (n + 1) ≡ and_side (in_order sides n) (find (λ (side : NamedSide). side.number == n) sides)
in_order-more sides n = let next : n + 1 ≡ suc n = omega arith in rw next refl

pub in_order-none : (sides : List NamedSide) (n : ℕ) → find (λ (side : NamedSide). side.number == n) sides ≡ None → in_order sides (n + 1) ≡ in_order sides n
in_order-none sides n none = rw (in_order-more sides n, none) refl

pub in_order-some : (sides : List NamedSide) (n : ℕ) (side : NamedSide) → find (λ (side : NamedSide). side.number == n) sides ≡ Some side → in_order sides (n + 1) ≡ in_order sides n ++ (min side.number 255, side.right) ∷ []
in_order-some sides n side some = rw (in_order-more sides n, some) refl

pub ruleset side_steps = (in_order-none, in_order-some)
