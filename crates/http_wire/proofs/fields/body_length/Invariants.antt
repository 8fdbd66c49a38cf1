-- What was found so far and the headers still to come give the values of all headers.
use Rattle.std.proofs.Common.{◌≡◌, ℕ, List, [], ◌∷◌, drop, codes, Option, Some, None}
use Rattle.http_wire.specs.Fields.{values_of, stated_by}
use Rattle.http_wire.specs.Places.{fields_at}
use Rattle.http_wire.proofs.fields.body_length.Given as goal

abbrev pub Found : Option ℕ → List (List ℕ) → List (List ℕ) → Type 0
Found None all rest = all ≡ rest
Found (Some n) all rest = (text : List ℕ) × (all ≡ text ∷ rest) × (stated_by (text ∷ []) ≡ Some n)

abbrev pub invariant-loop-header : goal.invariant-loop-header
invariant-loop-header l = Found l.stated (values_of (codes "content-length") (fields_at l.heard l.headers)) (values_of (codes "content-length") (fields_at l.heard (drop l.header-index l.headers)))
