-- containers that no position takes, and kinds with too few positions
use Rattle.std.specs.Prelude.{ℕ, nat_lt, Bool, ◌&&◌, false, not, count_by, bytes_eq, find}
use Rattle.std.specs.List.{list_any}
use Rattle.std.specs.Option.{option_map_or}
use Rattle.hold_parts.specs.Accepting.{accepts, kind_of}
use Rattle.hold_parts.specs.declared.parts.Item.{Item}
use Rattle.hold_parts.specs.declared.parts.Position.{Position}
use Rattle.hold_limits.specs.Problem.{Problem}

-- no position accepts the container with its mass
abbrev pub is_unfit : Problem → Item → Bool
is_unfit t item = not (list_any (accepts item) t.hold.positions)

-- the two containers are of one kind
abbrev pub are_of_one_kind : Item → Item → Bool
are_of_one_kind one other = bytes_eq (kind_of one) (kind_of other)

-- the container is the first of its kind in the offer
abbrev pub is_first_of_kind : Problem → Item → Bool
is_first_of_kind t item =
    option_map_or (λ (first : Item). bytes_eq first.id item.id) (find (are_of_one_kind item) t.items) false

-- how many containers of this one's kind are offered
abbrev pub offered_of_kind : Problem → Item → ℕ
offered_of_kind t item = count_by (are_of_one_kind item) t.items

-- the position accepts an offered container of this one's kind
abbrev pub accepts_of_kind : Problem → Item → Position → Bool
accepts_of_kind t item position = list_any (λ (other : Item). are_of_one_kind item other && accepts other position) t.items

-- how many positions do
abbrev pub positions_for_kind : Problem → Item → ℕ
positions_for_kind t item = count_by (accepts_of_kind t item) t.hold.positions

-- there are fewer positions for the kind than containers of it, and the container is the first of them
abbrev pub begins_short_kind : Problem → Item → Bool
begins_short_kind t item = is_first_of_kind t item && nat_lt (positions_for_kind t item) (offered_of_kind t item)
