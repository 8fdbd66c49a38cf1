-- arrays of three values
use Rattle.std.proofs.Common.{◌≡◌, ◌<◌, ◌≤◌, List, [], ◌∷◌, length, None, refl, arith}
use Rattle.serde_json.specs.View.{items_view}
use Rattle.serde_json.specs.declared.value.Value.{Value}
use Rattle.desk_bodies.specs.Values.{three}

-- fewer or more than three values are no triple
pub three_few : (vs : List Value) → length vs < 3 → three (items_view vs) ≡ None
three_few [] few = refl
three_few (v ∷ []) few = refl
three_few (v ∷ w ∷ []) few = refl
three_few (v ∷ w ∷ x ∷ vs) few = absurd (omega arith)

pub three_many : (vs : List Value) → 4 ≤ length vs → three (items_view vs) ≡ None
three_many [] many = absurd (omega arith)
three_many (v ∷ []) many = absurd (omega arith)
three_many (v ∷ w ∷ []) many = absurd (omega arith)
three_many (v ∷ w ∷ x ∷ []) many = absurd (omega arith)
three_many (v ∷ w ∷ x ∷ y ∷ vs) many = refl

pub ruleset counts = (three_few, three_many)
