-- the items of arrays, as their readers meet them
use Rattle.std.proofs.Common.{◌≡◌, ◌<◌, ◌≤◌, List, [], ◌∷◌, length, None, refl, arith}
use Rattle.toml.specs.View.{items_view}
use Rattle.toml.specs.declared.value.Value.{Value}
use Rattle.aircraft_file.specs.Forms.{two, more_than_one}

-- fewer or more than two values are no pair
pub two_few : (vs : List Value) → length vs < 2 → two (items_view vs) ≡ None
two_few [] few = refl
two_few (v ∷ []) few = refl
two_few (v ∷ w ∷ vs) few = absurd (omega arith)

pub two_many : (vs : List Value) → 3 ≤ length vs → two (items_view vs) ≡ None
two_many [] many = absurd (omega arith)
two_many (v ∷ []) many = absurd (omega arith)
two_many (v ∷ w ∷ []) many = absurd (omega arith)
two_many (v ∷ w ∷ x ∷ vs) many = refl

-- one value has none after it
pub more_than_one-few : (vs : List Value) → length vs < 2 → more_than_one (items_view vs) ≡ None
more_than_one-few [] few = refl
more_than_one-few (v ∷ []) few = refl
more_than_one-few (v ∷ w ∷ vs) few = absurd (omega arith)

pub ruleset counts = (two_few, two_many, more_than_one-few)
