-- The rule of a room's board, which holds between any two steps. Its witness is a directory: the card of each desk
-- that was made, by the desk's place, which is its number less one. A seat's view only repeats the card that the seat
-- carries.
use Rattle.std.specs.Prelude.{◌≡◌, ◌⊎◌, ◌+◌, ◌<◌, ◌≤◌, ◌^◌, ℕ, List, [], ◌∷◌, ◌++◌, Option, Some, None, Bool, true, false, length, nat_le}
use Rattle.std.specs.List.{count_by}
use mathlib.Core.Option as math
use mathlib.Core.Option.{some, none}
use lib.ListN.{get_elem?}
use Rattle.atomic_table.specs.Table.{State}
use Rattle.desk_lock.specs.declared.views.Card.{Card}
use Rattle.desk_lock.specs.declared.views.Stage.{Stage}
use Rattle.desk_lock.specs.declared.views.Stage.TheVariants.{Vacant, Out, Working}
use Rattle.desk_lock.specs.declared.views.View.{View}
use Rattle.desk_lock.specs.declared.views.View.TheVariants.{Spent, AtDesk, InRoom}
use Rattle.desk_lock.specs.declared.views.Origin.{Origin}
use Rattle.desk_lock.specs.Histories.{Continues, AreOfDesks}

-- the list has x at the place k
abbrev pub At : {A : Type 0} → List A → ℕ → A → Type 0
At xs k x = get_elem? xs k ≡ some x

-- whether the card has a ticket that is not below the capacity
abbrev pub is_beyond_ticket : ℕ → Option ℕ → Bool
is_beyond_ticket capacity None = false
is_beyond_ticket capacity (Some t) = nat_le capacity t

abbrev pub is_beyond : {E : Type 0} → ℕ → Card E → Bool
is_beyond capacity c = is_beyond_ticket capacity c.ticket

-- the card of the desk at the place k: what the desk has seen is a front of the log, and the rest is other desks'; its
-- ticket in hand is the one that it drew last, and where it is below the capacity it is yet to be served; and a desk
-- that has its turn has the ticket that is served, and has seen the whole log
pub record IsValidCard {E : Type 0} (desk_of : E → ℕ) (capacity tickets serving : ℕ) (log : List E)
    (k : ℕ) (c : Card E) : Type 0 where
  pub seen : Continues desk_of (k + 1) c.seen log
  pub drawn : (t : ℕ) → c.last ≡ Some t → t < tickets
  pub ticket : (t : ℕ) → c.ticket ≡ Some t → (c.last ≡ Some t) × (t < capacity → serving ≤ t)
  pub turn : c.has_turn ≡ true → (c.ticket ≡ Some serving) × (serving < capacity) × (c.seen ≡ log)

-- the order of turns, said of plain lists and numbers alone. So many tickets were drawn; `serving` is the ticket whose
-- turn it is; and the log is the history so far, which is the opening and then one entry for each ticket served
pub record IsOrderly {E : Type 0} (desk_of : E → ℕ) (capacity : ℕ) (opening : List E) (cards : List (Card E))
    (tickets serving : ℕ) (log : List E) : Type 0 where
  pub small : capacity < 2 ^ 63
  pub desks : length cards ≤ 8
  pub below : serving ≤ capacity
  pub drawn : serving ≤ tickets
  -- beyond the capacity no desk draws twice, so neither word wraps
  pub few : tickets ≤ capacity + count_by (is_beyond capacity) cards
  pub valid : (k : ℕ) (c : Card E) → At cards k c → IsValidCard desk_of capacity tickets serving log k c
  -- no two desks drew one ticket
  pub alone : (i j : ℕ) (a b : Card E) (t : ℕ) → At cards i a → At cards j b
      → a.last ≡ Some t → b.last ≡ Some t → i ≡ j
  -- the newest ticket is the last one of some desk
  pub newest : (t : ℕ) → t + 1 ≡ tickets → (k : ℕ) × (c : Card E) × At cards k c × (c.last ≡ Some t)
  -- each ticket that was drawn and not yet served is in some desk's hand
  pub pending : (t : ℕ) → serving ≤ t → t < tickets → (k : ℕ) × (c : Card E) × At cards k c × (c.ticket ≡ Some t)
  pub rest : List E
  pub beyond : log ≡ opening ++ rest
  pub long : length rest ≡ serving
  pub made : AreOfDesks desk_of (length cards) rest

module _ {M E : Type 0} where
  -- the view of the seat `by` agrees with the directory. A desk's view repeats its card; the room's is that of the
  -- seat 0, and has collected cards as they stand. `seat_of` tells which seat carries a place, so only one does
  abbrev pub Agrees : Origin M → List (Card E) → (ℕ → ℕ) → Stage → ℕ → View E (Origin M) → Type 0
  Agrees origin cards seat_of stage by Spent = Unit {0}
  Agrees origin cards seat_of stage by (AtDesk p k c) = (p ≡ origin) × (seat_of k ≡ by) × (0 < by) × At cards k c
  Agrees origin cards seat_of stage by (InRoom p n s collected) =
      (p ≡ origin) × (by ≡ 0) × (n ≡ length cards) × (s ≡ stage)
      × ((i : ℕ) (x : ℕ × Card E) → At collected i x → (seat_of x.0 ≡ 0) × At cards x.0 x.1)

-- the slot, where it is at home
abbrev pub Slot : Type 0 → Type 0
Slot M = List (math.Option (Option M))

module _ {M E G : Type 0} (setting_of : M → G) (follows : M → M → Type 0) (history_of : M → List E)
    (spare_of : M → ℕ) (desk_of : E → ℕ) where
  -- a machine that may stand in the slot when `serving` turns were taken
  pub record IsHeld (origin : Origin M) (serving : ℕ) (log : List E) (m : M) : Type 0 where
    pub same : setting_of m ≡ setting_of origin.machine
    pub later : follows origin.machine m
    pub history : history_of m ≡ log
    pub spare : origin.capacity ≤ serving + spare_of m

  -- where the machine is: nowhere yet, with the room, with the desk that has its turn, or else at home in the slot
  abbrev pub IsHoused : Origin M → List (Card E) → ℕ → List E → Slot M → Stage → Type 0
  IsHoused origin cards serving log homes Vacant = (length cards ≡ 0) × ((x : Option M) × (homes ≡ some x ∷ []))
  IsHoused origin cards serving log homes Out = homes ≡ none ∷ []
  IsHoused origin cards serving log homes Working =
      ((k : ℕ) (c : Card E) → At cards k c → c.has_turn ≡ true → homes ≡ none ∷ [])
      × (((k : ℕ) (c : Card E) → At cards k c → c.has_turn ≡ false)
      → (m : M) × (homes ≡ some (Some m) ∷ []) × IsHeld origin serving log m)

  -- the rule
  pub record IsKept (origin : Origin M) (s : State (Option M) (View E (Origin M))) : Type 0 where
    pub cards : List (Card E)
    pub seat_of : ℕ → ℕ
    pub stage : Stage
    pub tickets : ℕ
    pub serving : ℕ
    pub log : List E
    pub words : s.words ≡ tickets ∷ serving ∷ []
    pub seats : (by : ℕ) (v : View E (Origin M)) → At s.views by v → Agrees origin cards seat_of stage by v
    -- while the room has the slot no desk is seated, so no desk steps
    pub shut : (stage ≡ Working) ⊎ ((k : ℕ) → k < length cards → seat_of k ≡ 0)
    pub runs : IsOrderly desk_of origin.capacity (history_of origin.machine) cards tickets serving log
    pub housed : IsHoused origin cards serving log s.homes stage

-- the view of the first seat, the room's
abbrev pub first_view : {M E : Type 0} → Origin M → View E (Origin M)
first_view origin = InRoom origin 0 Vacant []
