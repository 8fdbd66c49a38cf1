-- the whole program: what is made for its arguments, and what its run comes to
use Rattle.std.specs.Prelude.{◌≡◌, ℕ, ◌+◌, List, [], length, Option, None, Some}
use Rattle.std.specs.List.{slice_get}
use Rattle.flight_state.specs.declared.state.FlightState.{FlightState}
use Rattle.flight_history.specs.declared.entry.Entry.{Entry}
use Rattle.loadctl.specs.Desk.{Surroundings}
use Rattle.loadctl.specs.Serve.{AskForServe, AskForNoServe, KeepIn, RunsAtDoors}

-- a keeper keeps its rows in the file of a name, or in memory
module _ {K : Type 0} (keeps : K → Option (List ℕ) → Type 0) where
  -- the keeper keeps the rows where the arguments want them to be kept
  pub data IsKeeperFor (arguments : List (List ℕ)) (keeper : K) : Type 0 where
    in_file : (file : List ℕ) → KeepIn arguments file → keeps keeper (Some file) → IsKeeperFor arguments keeper
    in_memory : ((file : List ℕ) → KeepIn arguments file → ⊥) → keeps keeper None → IsKeeperFor arguments keeper

-- a door stands at a port
module _ {D : Type 0} (stands_at : D → ℕ → Type 0) where
  -- the doors stand at one port after another, from this one on
  abbrev pub StandFrom : ℕ → List D → Type 0
  StandFrom port doors = (place : ℕ) (door : D) → slice_get doors place ≡ Some door → stands_at door (port + place)

  -- the doors are those of the desks that the arguments ask for
  pub record AreDoorsOf (arguments : List (List ℕ)) (doors : List D) : Type 0 where
    pub desks : (n p : ℕ) (names : List (List ℕ)) → AskForServe arguments n p names → (length doors ≡ n) × StandFrom p doors
    pub no_desks : AskForNoServe arguments → doors ≡ []

module _ {K D L : Type 0} (keeps : K → Option (List ℕ) → Type 0) (stands_at : D → ℕ → Type 0) (coming_of handed_of : D → Option (List L))
    (faults_of : D → ℕ) (input_of output_of : L → Option (List ℕ)) (reads_of writes_of : L → ℕ) where
  -- how the program ends with these arguments; what is outside of it is as before with the keeper that was made for it, and as after with
  -- the one that it left
  pub data Executes (arguments : List (List ℕ)) (before after : K → Surroundings) : ℕ → Type 0 where
    -- a run over what was made for the arguments
    ran : {status : ℕ} (keeper keeper' : K) (doors doors' : List D) (opening : List FlightState) (history : List Entry)
        → IsKeeperFor keeps arguments keeper → AreDoorsOf stands_at arguments doors
        → RunsAtDoors coming_of handed_of faults_of input_of output_of reads_of writes_of arguments (before keeper) (after keeper')
        doors doors' status opening history
        → Executes arguments before after status
    -- memory ran out before, and nothing has changed
    no_memory : ((keeper : K) → after keeper ≡ before keeper) → Executes arguments before after 9
