-- parts that a list may hold only once: positions of one name, and the like
use Rattle.std.specs.Prelude.{Bool, ◌==◌, bytes_eq}
use Rattle.hold_parts.specs.declared.lists.Fit.{Fit}
use Rattle.hold_parts.specs.declared.parts.Position.{Position}
use Rattle.hold_parts.specs.declared.parts.Item.{Item}
use Rattle.hold_parts.specs.declared.parts.Loose.{Loose}

-- positions of one name
abbrev pub same_name : Position → Position → Bool
same_name a b = bytes_eq a.name b.name

-- greatest masses for one kind of container
abbrev pub same_kind : Fit → Fit → Bool
same_kind a b = bytes_eq a.kind b.kind

-- containers of one identity
abbrev pub same_id : Item → Item → Bool
same_id a b = bytes_eq a.id b.id

-- loose loads on one position
abbrev pub same_position : Loose → Loose → Bool
same_position a b = a.position == b.position
