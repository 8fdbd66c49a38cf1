-- which containers a position accepts
use Rattle.std.specs.Prelude.{◌≡◌, ℕ, ◌≤◌, Bool, ◌&&◌, nat_le, List, take, Any, bytes_eq}
use Rattle.std.specs.List.{list_any}
use Rattle.hold_parts.specs.declared.lists.Fit.{Fit}
use Rattle.hold_parts.specs.declared.parts.Position.{Position}
use Rattle.hold_parts.specs.declared.parts.Item.{Item}

-- the kind of a container: the first three letters of its identity
abbrev pub kind_of : Item → List ℕ
kind_of item = take 3 item.id

-- the position accepts the container's kind, with a greatest mass of at least the container's
abbrev pub Accepts : Item → Position → Type 0
Accepts item position = Any (λ (fit : Fit). (fit.kind ≡ kind_of item) × (item.mass.0 ≤ fit.most.0)) position.fits

-- the same, as a test
abbrev pub accepts : Item → Position → Bool
accepts item position = list_any (λ (fit : Fit). bytes_eq fit.kind (kind_of item) && nat_le item.mass.0 fit.most.0) position.fits

-- among the kinds that the position accepts is the container's, whatever its mass
abbrev pub has_kind : Item → Position → Bool
has_kind item position = list_any (λ (fit : Fit). bytes_eq fit.kind (kind_of item)) position.fits
