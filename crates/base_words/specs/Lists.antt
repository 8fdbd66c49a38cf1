-- words on lists that std does not have
use Rattle.std.specs.Prelude.{◌≡◌, ℕ, zero, suc, ℤ, pos, ◌+ℤ◌, Bool, false, if◌then◌else◌, List, [], ◌∷◌, ◌++◌, length, take, slice_get, Option, Some, None}
use Rattle.std.specs.List.{list_any}
use Rattle.std.specs.Option.{option_or, option_map_or}

-- the sum of f over the list, in whole numbers
abbrev pub int_sum_by : {X : Type 0} → (X → ℤ) → List X → ℤ
int_sum_by f [] = pos 0
int_sum_by f (x ∷ xs) = f x +ℤ int_sum_by f xs

-- the list begins with the other
abbrev pub Extends : {X : Type 0} → List X → List X → Type 0
Extends {X} front whole = (rest : List X) × (whole ≡ front ++ rest)

-- the least number below n that passes the test
abbrev pub first_below : (ℕ → Bool) → ℕ → Option ℕ
first_below test zero = None
first_below test (suc n) = option_or (first_below test n) (if test n then Some n else None)

-- whether the element at the place is the same as an earlier one
abbrev pub repeats_at : {X : Type 0} → (X → X → Bool) → List X → ℕ → Bool
repeats_at same xs at = option_map_or (λ x. list_any (same x) (take at xs)) (slice_get xs at) false

-- the place of the first element that is the same as an earlier one
abbrev pub first_repeat : {X : Type 0} → (X → X → Bool) → List X → Option ℕ
first_repeat same xs = first_below (repeats_at same xs) (length xs)
