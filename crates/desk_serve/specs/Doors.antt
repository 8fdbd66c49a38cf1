-- what it is that a door is served, and that all doors are
use Rattle.std.specs.Prelude.{◌≡◌, ◌+◌, ◌<◌, ◌≤◌, ℕ, Bool, true, false, List, ◌++◌, Option, Some, length, map, flat_map, sum_by, count_by, All, slice_get}
use Rattle.base_words.specs.Faults.{Rose}
use Rattle.load_io.specs.Door.{NoneComes}
use Rattle.flight_history.specs.declared.entry.Entry.{Entry}
use Rattle.desk_service.specs.Places.{GoesOn}
use Rattle.desk_service.specs.Exchanges.{Exchange}
use Rattle.desk_service.specs.Laws.{has_status}
use Rattle.desk_service.specs.Service.{Service}
use Rattle.desk_service.specs.Turns.{Setting, Placed, placed}
use Rattle.desk_http.specs.Served.{Served}
use Rattle.desk_http.specs.declared.ending.ConnEnd.{ConnEnd}
use Rattle.desk_serve.specs.Links.{BringsAll, HandsAllBack}
use Rattle.desk_serve.specs.declared.ending.DoorsEnd.{DoorsEnd}
use Rattle.desk_serve.specs.declared.ending.DoorsEnd.TheVariants.{Closed, Failed}

-- a connection: its link as it was at the beginning and as it was handed back, its exchanges, their entries with their places, and how
-- it ended
pub record Connection (L : Type 0) : Type 0 where
  pub first : L
  pub last : L
  pub exchanges : List Exchange
  pub entries : List Placed
  pub ending : ConnEnd

-- the exchanges of connections one after another
abbrev pub all_exchanges : {L : Type 0} → List (Connection L) → List Exchange
all_exchanges connections = flat_map (λ c. c.exchanges) connections

-- the entries of connections one after another
abbrev pub all_entries : {L : Type 0} → List (Connection L) → List Placed
all_entries connections = flat_map (λ c. c.entries) connections

-- how many answers at all doors are 503, by the connections at each door
abbrev pub keeper_failures : {L : Type 0} → List (List (Connection L)) → ℕ
keeper_failures doors = sum_by (λ connections. count_by (has_status 503) (all_exchanges connections)) doors

module _ {D L : Type 0} (coming_of handed_of : D → Option (List L)) (faults_of : D → ℕ) where
  -- the links of these connections came in at the door, in this order, and were handed back in it. A door that is closed has no link to
  -- come; one that is not has failed
  pub record Handles (connections : List (Connection L)) (d d' : D) (closed : Bool) : Type 0 where
    pub brought : BringsAll (coming_of d) (coming_of d') (map (λ c. c.first) connections)
    pub handed : HandsAllBack (handed_of d) (handed_of d') (map (λ c. c.last) connections)
    pub ended : closed ≡ true → NoneComes (coming_of d')
    pub failed : closed ≡ false → Rose (faults_of d) (faults_of d')

  -- how the work at the doors ended: each is closed, or some one failed
  abbrev pub EndAs : DoorsEnd → List D → List D → Type 0
  EndAs Closed ds ds' = (i : ℕ) (d' : D) → slice_get ds' i ≡ Some d' → NoneComes (coming_of d')
  EndAs Failed ds ds' =
      (i : ℕ) × (d : D) × (d' : D) × (slice_get ds i ≡ Some d) × (slice_get ds' i ≡ Some d') × Rose (faults_of d) (faults_of d')

  module _ (input_of output_of : L → Option (List ℕ)) (reads_of writes_of : L → ℕ) (s : Setting) (full : Type 0) where
    -- the link was served in this history, by these exchanges, from its beginning until it was handed back
    pub record IsServedLink (desk : ℕ) (history : List Entry) (c : Connection L) : Type 0 where
      pub served : Served input_of output_of reads_of writes_of s full desk history c.first c.last c.entries c.ending
      pub by : served.exchanges ≡ c.exchanges

    -- each link was
    abbrev pub AreServed : ℕ → List Entry → List (Connection L) → Type 0
    AreServed desk history connections = All (IsServedLink desk history) connections

    -- what the work at a door does to the history that its desk has seen
    pub record Attended (desk : ℕ) (seen seen' : List Entry) (d d' : D) (closed : Bool) : Type 0 where
      pub connections : List (Connection L)
      pub on : GoesOn seen seen'
      pub own : placed desk seen' ≡ placed desk seen ++ all_entries connections
      pub served : AreServed desk seen' connections
      -- all exchanges at the door are one service: from the first that lacked an entry on, each that needs one lacks it, on whichever link
      pub whole : Service s desk seen' (all_exchanges connections)
      pub handles : Handles connections d d' closed

    -- each link of the door was served in the history, and their entries are all those of the desk
    pub record IsServedDoor (desk : ℕ) (history : List Entry) (connections : List (Connection L)) (d d' : D) : Type 0 where
      pub own : placed desk history ≡ all_entries connections
      pub served : AreServed desk history connections
      -- all exchanges at the door are one service: from the first that lacked an entry on, each that needs one lacks it, on whichever link
      pub whole : Service s desk history (all_exchanges connections)
      pub closed : Bool
      pub handles : Handles connections d d' closed

    -- each door was served by the desk of its place, counted from 1, and all entries are those of these desks
    pub record AreServedDoors (history : List Entry) (ds ds' : List D) : Type 0 where
      -- the connections at each door
      pub connections : List (List (Connection L))
      pub all : length connections ≡ length ds
      pub many : length ds' ≡ length ds
      pub desks : All (λ (entry : Entry). (0 < entry.desk) × (entry.desk ≤ length ds)) history
      pub each : (i : ℕ) (door : List (Connection L)) (d d' : D) → slice_get connections i ≡ Some door → slice_get ds i ≡ Some d → slice_get ds' i ≡ Some d'
          → IsServedDoor (i + 1) history door d d'
