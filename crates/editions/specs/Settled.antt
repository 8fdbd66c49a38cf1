-- what an answer does to the flights and to the kept rows
use Rattle.std.specs.Prelude.{◌≡◌, ℕ, List, Option, Some, Result, Ok, Err, All}
use Rattle.base_words.specs.declared.NoMemory.{NoMemory}
use Rattle.aircraft_file.specs.Craft.{Craft}
use Rattle.flight_state.specs.declared.state.FlightState.{FlightState}
use Rattle.flight_state.specs.Legs.{key_of}
use Rattle.flight_row.specs.Loading.{Reads}
use Rattle.keeper.specs.Tables.{Tables, HoldsAfter}
use Rattle.keeper.specs.declared.row.KeptRow.{KeptRow}
use Rattle.flight_history.specs.declared.entry.Outcome.{Outcome}
use Rattle.flight_history.specs.declared.entry.Outcome.TheVariants as ended
use Rattle.flight_history.specs.declared.reply.Refusal.TheVariants as no
use Rattle.flight_history.specs.declared.reply.Reply.{Reply}
use Rattle.flight_history.specs.declared.reply.Reply.TheVariants as says
use Rattle.flight_history.specs.Replies.{row_bytes}
use Rattle.editions.specs.declared.answers.Answer.{Answer}
use Rattle.editions.specs.declared.answers.Answer.TheVariants.{Refused, Told, Changed}
use Rattle.editions.specs.declared.flights.Flight.{Flight}
use Rattle.editions.specs.Places.{states, IsPut}
use Rattle.editions.specs.Sound.{IsKeptFlight}

-- flights and rows are as before
abbrev pub IsSame : List Flight → List Flight → Option Tables → Option Tables → Type 0
IsSame old new held now = (new ≡ old) × (now ≡ held)

-- the row of the flight was committed, which is read as this flight again
pub record IsCommitted (fleet : List Craft) (next : FlightState) (held now : Option Tables) : Type 0 where
  pub row : KeptRow
  pub key : row.key ≡ key_of next.leg
  pub bytes : row_bytes fleet next ≡ Some row.bytes
  pub reads : Reads fleet row.bytes next
  pub holds : HoldsAfter held now row

-- the flight was put among the others, and its row was committed
pub record IsKept (fleet : List Craft) (place : Option ℕ) (next : FlightState) (old new : List Flight) (held now : Option Tables) : Type 0 where
  pub put : IsPut (states old) (states new) place next
  pub sound : All (IsKeptFlight fleet) old → All (IsKeptFlight fleet) new
  pub committed : IsCommitted fleet next held now

-- what is kept of a change, by how the turn ended
abbrev pub IsChanged : List Craft → Option ℕ → FlightState → Reply → List Flight → List Flight → Option Tables → Option Tables → Outcome → Reply → Type 0
IsChanged fleet place next due old new held now ended.Done reply = IsKept fleet place next old new held now × (reply ≡ due)
IsChanged fleet place next due old new held now ended.KeeperFailed reply =
    IsSame old new held now × (reply ≡ says.Refused no.KeeperFault)
IsChanged fleet place next due old new held now ended.NoMemory reply = IsSame old new held now × (reply ≡ says.NoMemory)

-- what an answer does
abbrev pub IsSettled : List Craft → Option ℕ → Answer → List Flight → List Flight → Option Tables → Option Tables → Outcome → Reply → Type 0
IsSettled fleet place (Refused refusal) old new held now outcome reply =
    IsSame old new held now × (outcome ≡ ended.Done) × (reply ≡ says.Refused refusal)
IsSettled fleet place (Told due) old new held now outcome reply =
    IsSame old new held now × (outcome ≡ ended.Done) × (reply ≡ due)
IsSettled fleet place (Changed next due) old new held now outcome reply =
    IsChanged fleet place next due old new held now outcome reply

-- the same, where memory may have run out before there was an answer
abbrev pub IsSettledBy : List Craft → Option ℕ → Result Answer NoMemory → List Flight → List Flight → Option Tables → Option Tables → Outcome → Reply → Type 0
IsSettledBy fleet place (Ok answer) old new held now outcome reply = IsSettled fleet place answer old new held now outcome reply
IsSettledBy fleet place (Err _) old new held now outcome reply =
    IsSame old new held now × (outcome ≡ ended.NoMemory) × (reply ≡ says.NoMemory)
