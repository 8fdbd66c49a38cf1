-- What each step tells the seat that takes it, and what a seat knows between its steps.
use Rattle.std.specs.Prelude.{◌≡◌, ◌+◌, ◌<◌, ◌≤◌, ◌==◌, ℕ, List, [], ◌∷◌, ◌++◌, Option, Some, None, true, false, length, min}
use Rattle.std.specs.Option.{unwrap_or}
use Rattle.std.specs.Bool.{MatchBool}
use Rattle.atomic_table.specs.Table.{Step, Me, rest}
use Rattle.atomic_table.specs.Seated.{TableId}
use Rattle.desk_lock.specs.declared.views.Card.{Card}
use Rattle.desk_lock.specs.declared.views.Stage.{Stage}
use Rattle.desk_lock.specs.declared.views.Stage.TheVariants.{Out, Working}
use Rattle.desk_lock.specs.declared.views.View.{View}
use Rattle.desk_lock.specs.declared.views.View.TheVariants.{Spent, AtDesk, InRoom}
use Rattle.desk_lock.specs.declared.views.Origin.{Origin}
use Rattle.desk_lock.specs.Histories.{Continues, AreOfDesks, IsTurn}
use Rattle.desk_lock.specs.Views.{card, card_of, last_of, seen_of, with_card, with_stage}
use Rattle.desk_lock.specs.Rule.{At, IsHeld}

-- a seat's view, and the slots that it has taken
abbrev pub Seated : Type 0 → Type 0 → Type 0
Seated M E = Me (Option M) (View E (Origin M))

-- the seat is one of the board, which has two words and one slot
abbrev pub IsSeatOf : TableId → TableId → Type 0
IsSeatOf board seat = (seat ≡ board) × (board.words ≡ 2) × (board.slots ≡ 1)

-- a desk's seat, and the room's
abbrev pub desk_seat : {M E : Type 0} → Origin M → ℕ → Card E → List (ℕ × Option M) → Seated M E
desk_seat p k c carried = (AtDesk p k c, carried)

abbrev pub room_seat : {M E : Type 0} → Origin M → ℕ → Stage → List (ℕ × Card E) → List (ℕ × Option M) → Seated M E
room_seat p n s collected carried = (InRoom p n s collected, carried)

module _ {M E : Type 0} where
  -- a desk draws: the number that was found is its ticket
  abbrev pub Draws : Step (Option M) → Seated M E → ℕ → Seated M E → Type 0
  Draws st me found w = let c = card_of me.0 in w ≡ (with_card (card (Some found) (Some found) c.has_turn c.seen) me.0, me.1)

module _ {M E G : Type 0} (setting_of : M → G) (follows : M → M → Type 0) (history_of : M → List E)
    (spare_of : M → ℕ) (desk_of : E → ℕ) where
  -- the desk at the place k has its turn, by the ticket t: it has seen all entries so far, and has the slot with the
  -- machine in it
  pub record HasTurn (p : Origin M) (k t : ℕ) (carried : List (ℕ × Option M)) (w : Seated M E) : Type 0 where
    pub log : List E
    pub machine : M
    pub place : length log ≡ length (history_of p.machine) + t
    pub held : IsHeld setting_of follows history_of spare_of desk_of p t log machine
    pub after : w ≡ (AtDesk p k (card (Some t) (Some t) true log), (0, Some machine) ∷ carried)

  -- it has its turn, and what it had not seen yet is other desks'
  abbrev pub GetsTurn : Origin M → ℕ → ℕ → Card E → List (ℕ × Option M) → Seated M E → Type 0
  GetsTurn p k t c carried w = HasTurn p k t carried w × Continues desk_of (k + 1) c.seen (seen_of w.0)

  -- a desk looks: where the number that was found is its ticket, it gets its turn, and else nothing changes
  abbrev pub LooksAt : View E (Origin M) → List (ℕ × Option M) → ℕ → Seated M E → Type 0
  LooksAt Spent carried found w = Unit {0}
  LooksAt (AtDesk p k c) carried found w =
      MatchBool (found == unwrap_or c.ticket 0) (GetsTurn p k found c carried w) (w ≡ (AtDesk p k c, carried))
  LooksAt (InRoom p n s collected) carried found w = Unit {0}

  abbrev pub Looks : Step (Option M) → Seated M E → ℕ → Seated M E → Type 0
  Looks st me found w = LooksAt me.0 me.1 found w

  -- the turn of the desk at the place k is done: the machine stands in its slot again, with one more entry, which is
  -- the desk's
  pub record IsTurnDone (p : Origin M) (k t : ℕ) (me : Seated M E) : Type 0 where
    pub machine : M
    pub entry : E
    pub log : List E
    pub at : me ≡ desk_seat p k (card (Some t) (Some t) true log) ((0, Some machine) ∷ [])
    pub grown : history_of machine ≡ log ++ entry ∷ []
    pub by : desk_of entry ≡ k + 1
    pub same : setting_of machine ≡ setting_of p.machine
    pub later : follows p.machine machine
    pub spare : p.capacity ≤ (t + 1) + spare_of machine

module _ {M E : Type 0} (history_of : M → List E) where
  -- a desk advances: it lays its ticket and its turn down, has seen the machine's history, and the slot is at home
  -- again
  abbrev pub AdvancesAt : View E (Origin M) → List (ℕ × Option M) → Seated M E → Type 0
  AdvancesAt v [] w = Unit {0}
  AdvancesAt v (x ∷ xs) w = (m : M) → x.1 ≡ Some m → w ≡ (with_card (card None (last_of v) false (history_of m)) v, xs)

  abbrev pub Advances : Step (Option M) → Seated M E → ℕ → Seated M E → Type 0
  Advances st me found w = AdvancesAt me.0 me.1 w

module _ {M E : Type 0} where
  -- a desk counts the tickets drawn, and nothing changes
  abbrev pub Counts : Step (Option M) → Seated M E → ℕ → Seated M E → Type 0
  Counts st me found w = w ≡ me

module _ {M E G Q R : Type 0} (setting_of : M → G) (history_of : M → List E) (desk_of : E → ℕ)
    (fits : G → List E → ℕ → Q → E → R → Type 0) where
  -- the desk at the place k took its turn by the ticket t, after the entries that its view v had seen
  pub record HasServed (p : Origin M) (k t : ℕ) (request : Q) (reply : R)
      (v : View E (Origin M)) (w : Seated M E) : Type 0 where
    pub after : List E
    pub at : w ≡ desk_seat p k (card None (Some t) false after) []
    pub turn : IsTurn desk_of fits (setting_of p.machine) (seen_of v) after (k + 1) request reply
    pub place : length (seen_of v) ≡ length (history_of p.machine) + t

module _ {M E : Type 0} where
  -- the room takes the empty slot
  abbrev pub Clears : Step (Option M) → Seated M E → ℕ → Seated M E → Type 0
  Clears st me found w = (x : Option M) × (w ≡ (with_stage Out me.0, (0, x) ∷ me.1))

  -- the room gives the slot to its desks
  abbrev pub Opens : Step (Option M) → Seated M E → ℕ → Seated M E → Type 0
  Opens st me found w = w ≡ (with_stage Working me.0, rest me.1)

-- a card with no ticket that is still to be served
abbrev pub IsIdle : {E : Type 0} → ℕ → Card E → Type 0
IsIdle capacity c = (t : ℕ) → c.ticket ≡ Some t → capacity ≤ t

abbrev pub AreIdle : {E : Type 0} → ℕ → List (ℕ × Card E) → Type 0
AreIdle {E} capacity collected = (i : ℕ) (x : ℕ × Card E) → At collected i x → IsIdle capacity x.1

-- the cards of all n desks are collected
abbrev pub Covers : {E : Type 0} → ℕ → List (ℕ × Card E) → Type 0
Covers {E} n collected = (k : ℕ) → k < n → (i : ℕ) × (c : Card E) × At collected i (k, c)

module _ {M E G : Type 0} (setting_of : M → G) (follows : M → M → Type 0) (history_of : M → List E)
    (desk_of : E → ℕ) where
  -- what the room has of the machine and of its n desks when it is closed, with `found` tickets drawn
  pub record Ends (p : Origin M) (n found : ℕ) (collected : List (ℕ × Card E)) (machine : M) : Type 0 where
    pub same : setting_of machine ≡ setting_of p.machine
    pub later : follows p.machine machine
    pub rest : List E
    pub history : history_of machine ≡ history_of p.machine ++ rest
    pub long : length rest ≡ min found p.capacity
    pub made : AreOfDesks desk_of n rest
    pub seen : (i : ℕ) (x : ℕ × Card E) → At collected i x → Continues desk_of (x.0 + 1) x.1.seen (history_of machine)
    pub drawn : (i : ℕ) (x : ℕ × Card E) → At collected i x → (t : ℕ) → x.1.last ≡ Some t → t < found
    pub newest : (t : ℕ) → t + 1 ≡ found → (i : ℕ) × (x : ℕ × Card E) × At collected i x × (x.1.last ≡ Some t)
    pub kept : (t : ℕ) → p.capacity ≤ t → t < found → (i : ℕ) × (x : ℕ × Card E) × At collected i x × (x.1.last ≡ Some t)
    pub alone : (i j : ℕ) (x y : ℕ × Card E) (t : ℕ) → At collected i x → At collected j y
        → x.1.last ≡ Some t → y.1.last ≡ Some t → x.0 ≡ y.0

  -- the room takes the slot with the machine, for the last time
  abbrev pub ShutsAt : View E (Origin M) → List (ℕ × Option M) → ℕ → Seated M E → Type 0
  ShutsAt Spent carried found w = Unit {0}
  ShutsAt (AtDesk p k c) carried found w = Unit {0}
  ShutsAt (InRoom p n s collected) carried found w =
      (m : M) × (w ≡ (InRoom p n Out collected, (0, Some m) ∷ carried)) × Ends p n found collected m

  abbrev pub Shuts : Step (Option M) → Seated M E → ℕ → Seated M E → Type 0
  Shuts st me found w = ShutsAt me.0 me.1 found w
