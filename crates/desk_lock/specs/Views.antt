-- What a seat knows, read from its view, and how its view changes.
use Rattle.std.specs.Prelude.{◌+◌, ℕ, List, [], ◌∷◌, Option, Some, None, Bool, true, false, nat_le}
use Rattle.desk_lock.specs.declared.views.Card.{Card}
use Rattle.desk_lock.specs.declared.views.Stage.{Stage}
use Rattle.desk_lock.specs.declared.views.View.{View}
use Rattle.desk_lock.specs.declared.views.View.TheVariants.{Spent, AtDesk, InRoom}

-- of the ticket that a desk drew last, what it still has in hand when no call runs: one that is not below the capacity
abbrev pub keep_if : Bool → ℕ → Option ℕ
keep_if true t = Some t
keep_if false t = None

abbrev pub lasting_ticket : ℕ → Option ℕ → Option ℕ
lasting_ticket capacity None = None
lasting_ticket capacity (Some t) = keep_if (nat_le capacity t) t

module _ {E : Type 0} where
  abbrev pub card : Option ℕ → Option ℕ → Bool → List E → Card E
  card ticket last has_turn seen = record { ticket = ticket; last = last; has_turn = has_turn; seen = seen }

  module _ {P : Type 0} where
    -- the card that a desk's seat carries
    abbrev pub card_of : View E P → Card E
    card_of Spent = card None None false []
    card_of (AtDesk p k c) = c
    card_of (InRoom p n s collected) = card None None false []

    -- the ticket that a desk's seat drew last
    abbrev pub last_of : View E P → Option ℕ
    last_of v = (card_of v).last

    -- the entries that a desk's seat has seen
    abbrev pub seen_of : View E P → List E
    seen_of v = (card_of v).seen

    -- the cards that the room's seat has collected, each with the place of its desk
    abbrev pub collected_in : View E P → List (ℕ × Card E)
    collected_in Spent = []
    collected_in (AtDesk p k c) = []
    collected_in (InRoom p n s collected) = collected

    -- a desk's seat with another card
    abbrev pub with_card : Card E → View E P → View E P
    with_card d Spent = Spent
    with_card d (AtDesk p k c) = AtDesk p k d
    with_card d (InRoom p n s collected) = InRoom p n s collected

    -- the room's seat at another stage
    abbrev pub with_stage : Stage → View E P → View E P
    with_stage z Spent = Spent
    with_stage z (AtDesk p k c) = AtDesk p k c
    with_stage z (InRoom p n s collected) = InRoom p n z collected

    -- the room's seat when it has made one more desk
    abbrev pub with_one_more : View E P → View E P
    with_one_more Spent = Spent
    with_one_more (AtDesk p k c) = AtDesk p k c
    with_one_more (InRoom p n s collected) = InRoom p (n + 1) s collected

    -- the seat of the desk that the room makes next, which has seen the opening
    abbrev pub next_desk : (P → List E) → View E P → View E P
    next_desk opening Spent = Spent
    next_desk opening (AtDesk p k c) = Spent
    next_desk opening (InRoom p n s collected) = AtDesk p n (card None None false (opening p))

    -- the room's seat when it has collected a desk's card
    abbrev pub with_card_of : View E P → View E P → View E P
    with_card_of (InRoom p n s collected) (AtDesk q k c) = InRoom p n s ((k, c) ∷ collected)
    with_card_of v w = v
