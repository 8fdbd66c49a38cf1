-- What a desk is to its callers.
use Rattle.std.specs.Prelude.{◌≡◌, ◌≢◌, ◌+◌, ◌<◌, ◌≤◌, ℕ, List, [], ◌∷◌, ◌++◌, Option, Some, length, All}
use Rattle.std.specs.Arc.{arc_value}
use Rattle.atomic_table.specs.Seated.{TableId}
use Rattle.desk_lock.specs.declared.desk.Desk.{Desk}
use Rattle.desk_lock.specs.declared.views.Origin.{Origin}
use Rattle.desk_lock.specs.Histories.{own, IsTurn}
use Rattle.desk_lock.specs.Views.{seen_of}

module _ {M Q R E G : Type 0} where
  abbrev pub number : Desk M Q R E G → ℕ
  number d = d.place + 1

  -- the entries that it has seen, up to its own last one
  abbrev pub seen : Desk M Q R E G → List E
  seen d = seen_of d.seat.me.0

  -- the ticket that it drew last
  abbrev pub ticket : Desk M Q R E G → Option ℕ
  ticket d = d.ticket

  -- what its room was started with
  abbrev pub origin : Desk M Q R E G → Origin M
  origin d = (arc_value d.board).shared.key

  -- which room it belongs to
  abbrev pub room_of : Desk M Q R E G → TableId
  room_of d = d.seat.table_id

  -- its last ticket is not below the capacity
  abbrev pub IsFull : Desk M Q R E G → Type 0
  IsFull d = (t : ℕ) × (ticket d ≡ Some t) × ((origin d).capacity ≤ t)

  -- the last entry that it has seen stands where its last ticket says, counted from the room's start
  abbrev pub IsAtItsPlace : (M → List E) → Desk M Q R E G → Type 0
  IsAtItsPlace history_of d =
      (t : ℕ) × (ticket d ≡ Some t) × (t < (origin d).capacity)
      × (length (seen d) ≡ length (history_of (origin d).machine) + t + 1)

  -- the same desk of the same room, whatever it has seen since
  abbrev pub IsSameDesk : Desk M Q R E G → Desk M Q R E G → Type 0
  IsSameDesk d e = (e.place ≡ d.place) × (origin e ≡ origin d) × (room_of e ≡ room_of d) × (e.desks ≡ d.desks)

module _ {E G Q R : Type 0} (desk_of : E → ℕ) (fits : G → List E → ℕ → Q → E → R → Type 0) where
  -- a call of the desk n that was answered: after what the desk had seen come entries of other desks alone, and
  -- then the call's turn; so the desk's own entries have grown by the one of that turn
  pub record IsAnswered (setting : G) (n : ℕ) (request : Q) (reply : R) (seen seen' : List E) : Type 0 where
    pub between : List E
    pub others : All (λ e. desk_of e ≢ n) between
    pub turn : IsTurn desk_of fits setting (seen ++ between) seen' n request reply
    pub grown : own desk_of n seen' ≡ own desk_of n seen ++ turn.entry ∷ []
