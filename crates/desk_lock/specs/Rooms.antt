-- What a room is to its callers.
use Rattle.std.specs.Prelude.{◌≡◌, ◌+◌, ◌<◌, ◌≤◌, ℕ, List, [], ◌∷◌, ◌++◌, Option, Some, None, length, min, max, slice_get, slice_index_or}
use Rattle.std.specs.Arc.{arc_value}
use Rattle.atomic_table.specs.Seated.{TableId}
use Rattle.desk_lock.specs.declared.desk.Desk.{Desk}
use Rattle.desk_lock.specs.declared.room.Room.{Room}
use Rattle.desk_lock.specs.declared.views.Origin.{Origin}
use Rattle.desk_lock.specs.Histories.{own, Continues, AreOfDesks}
use Rattle.desk_lock.specs.Desks.{number, seen, ticket, origin, room_of, IsFull, IsSameDesk}

-- the greatest of the numbers that belong to the elements
abbrev pub greatest : {A : Type 0} → (A → ℕ) → List A → ℕ
greatest of [] = 0
greatest of (x ∷ xs) = max (of x) (greatest of xs)

-- how many tickets were drawn up to this one, with it. They are drawn in order, from 0
abbrev pub drawn_up_to : Option ℕ → ℕ
drawn_up_to None = 0
drawn_up_to (Some t) = t + 1

module _ {M Q R E G : Type 0} where
  -- what the room was started with
  abbrev pub room_origin : Room M Q R E G → Origin M
  room_origin r = (arc_value r.board).shared.key

  -- which room it is
  abbrev pub room_id : Room M Q R E G → TableId
  room_id r = r.seat.table_id

  -- how many desks it has
  abbrev pub desk_count : Room M Q R E G → ℕ
  desk_count r = r.desks

  -- the desk at the place k as a room makes it
  pub record IsNew (history_of : M → List E) (p : Origin M) (room : TableId) (k : ℕ) (d : Desk M Q R E G) : Type 0 where
    pub place : number d ≡ k + 1
    pub opening : seen d ≡ history_of p.machine
    pub of : origin d ≡ p
    pub at : room_of d ≡ room
    pub free : ticket d ≡ None

  abbrev pub AreNew : (M → List E) → Origin M → TableId → List (Desk M Q R E G) → Type 0
  AreNew history_of p room desks =
      (i : ℕ) (d : Desk M Q R E G) → slice_get desks i ≡ Some d → IsNew history_of p room i d

  -- these are desks of one room, and each of the desks that it made is among them, in any order
  pub record AreAllDesks (p : Origin M) (room : TableId) (count : ℕ) (desks : List (Desk M Q R E G)) : Type 0 where
    pub mine : (i : ℕ) (d : Desk M Q R E G) → slice_get desks i ≡ Some d → (origin d ≡ p) × (room_of d ≡ room)
    pub all : (k : ℕ) → k < count
        → (i : ℕ) × (d : Desk M Q R E G) × (slice_get desks i ≡ Some d) × (number d ≡ k + 1)

  abbrev pub AreAllDesksOf : Room M Q R E G → List (Desk M Q R E G) → Type 0
  AreAllDesksOf r desks = AreAllDesks (room_origin r) (room_id r) (desk_count r) desks

  -- the same desks at the same places, whatever they have seen since
  abbrev pub AreSameDesks : List (Desk M Q R E G) → List (Desk M Q R E G) → Type 0
  AreSameDesks before after =
      (length after ≡ length before)
      × ((i : ℕ) (d : Desk M Q R E G) → i < length before
      → IsSameDesk (slice_index_or before i d) (slice_index_or after i d))

  -- whatever calls they make, they are all desks of the room
  abbrev pub StayAllDesks : Origin M → TableId → ℕ → List (Desk M Q R E G) → Type 0
  StayAllDesks p room count desks =
      (after : List (Desk M Q R E G)) → AreSameDesks desks after → AreAllDesks p room count after

  abbrev pub StayAllDesksOf : Room M Q R E G → List (Desk M Q R E G) → Type 0
  StayAllDesksOf r desks = StayAllDesks (room_origin r) (room_id r) (desk_count r) desks

  -- how many tickets the desks drew together: up to the greatest of those that they drew last
  abbrev pub tickets_drawn : List (Desk M Q R E G) → ℕ
  tickets_drawn desks = greatest (λ d. drawn_up_to (ticket d)) desks

  -- the history of a closed room: beyond the opening one entry for each ticket that its desks drew below the capacity,
  -- each of one of the room's desks; it continues what each desk has seen, with no further entry of that desk; and
  -- it is full where a desk is. No two desks drew one ticket, and each that was drawn and is not below the capacity is
  -- the last one of a desk, which was answered `Full` for it
  pub record Closes (history_of : M → List E) (desk_of : E → ℕ) (p : Origin M) (count : ℕ)
      (desks : List (Desk M Q R E G)) (history : List E) : Type 0 where
    pub rest : List E
    pub beyond : history ≡ history_of p.machine ++ rest
    pub made : AreOfDesks desk_of count rest
    pub long : length rest ≡ min (tickets_drawn desks) p.capacity
    pub seen_by : (i : ℕ) (d : Desk M Q R E G) → slice_get desks i ≡ Some d
        → Continues desk_of (number d) (seen d) history
    pub own_of : (i : ℕ) (d : Desk M Q R E G) → slice_get desks i ≡ Some d
        → own desk_of (number d) history ≡ own desk_of (number d) (seen d)
    pub full : (i : ℕ) (d : Desk M Q R E G) → slice_get desks i ≡ Some d → IsFull d → length rest ≡ p.capacity
    pub alone : (i j : ℕ) (d e : Desk M Q R E G) (t : ℕ) → slice_get desks i ≡ Some d → slice_get desks j ≡ Some e
        → ticket d ≡ Some t → ticket e ≡ Some t → number d ≡ number e
    pub refused : (t : ℕ) → p.capacity ≤ t → t < tickets_drawn desks
        → (i : ℕ) × (d : Desk M Q R E G) × (slice_get desks i ≡ Some d) × (ticket d ≡ Some t)
