-- a desk that can be served
use Rattle.std.specs.Prelude.{ℕ, List, Option, IsSomeAnd}
use Rattle.load_io.specs.Shelf.{Files}
use Rattle.aircraft_file.specs.Craft.{Craft}
use Rattle.keeper.specs.Tables.{Tables}
use Rattle.desk_fleet.specs.Fleet.{IsFleet}
use Rattle.editions.specs.Starting.{IsRefusedStart}
use Rattle.editions.specs.declared.starting.StartFault.TheVariants.{BadTable, TooMany}
use Rattle.http_wire.specs.Connection.{AreRequests}
use Rattle.http_wire.specs.Connection as wire
use Rattle.http_wire.specs.Requests.{Request}
use Rattle.http_wire.specs.declared.refusals.Refusal.{Refusal}
use Rattle.desk_service.specs.Service.{most_requests}

-- each row is one of a flight of the fleet, and there are not too many
pub record CanStart (fleet : List Craft) (held : Option Tables) : Type 0 where
  pub right : (key : List ℕ) → IsRefusedStart fleet held (BadTable key) → ⊥
  pub few : IsRefusedStart fleet held TooMany → ⊥

-- the requests of an input do not end in a head or a body that is refused
abbrev pub IsUnrefused : List ℕ → Type 0
IsUnrefused input = (requests : List Request) (reason : Refusal) (left : List ℕ) → AreRequests most_requests input requests (wire.RefusedFor reason) left → ⊥

-- the files are exposed and describe a fleet, on which an office starts with these tables
pub record CanOpen (exposed : Option Files) (names : List (List ℕ)) (held : Option Tables) : Type 0 where
  pub fleet : List Craft
  pub described : IsSomeAnd exposed (λ files. IsFleet files names fleet)
  pub starts : CanStart fleet held

-- and the input is exposed and not refused
pub record CanServe (exposed : Option Files) (names : List (List ℕ)) (held : Option Tables) (input : Option (List ℕ)) : Type 0 where
  pub opens : CanOpen exposed names held
  pub unrefused : IsSomeAnd input IsUnrefused
