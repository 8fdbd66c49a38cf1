-- interchangeable containers
use Rattle.std.specs.Prelude.{◌≡◌, Bool, ◌&&◌, ◌==◌, bytes_eq}
use Rattle.hold_parts.specs.declared.parts.Item.{Item}
use Rattle.hold_parts.specs.Accepting.{kind_of}

-- two containers of one kind and of one mass
abbrev pub AreTwins : Item → Item → Type 0
AreTwins a b = (kind_of a ≡ kind_of b) × (a.mass.0 ≡ b.mass.0)

-- the same, as a test
abbrev pub are_twins : Item → Item → Bool
are_twins a b = bytes_eq (kind_of a) (kind_of b) && (a.mass.0 == b.mass.0)
