-- which causes exclude each other
use Rattle.std.proofs.Common.{◌≡◌, ℕ, List, Option, Some, None, IfSome, IsSomeAnd, subst}
use Rattle.base_words.specs.Faults.{Rose}
use Rattle.load_io.specs.Shelf.{Files}
use Rattle.aircraft_file.specs.Craft.{Craft}
use Rattle.keeper.specs.Tables.{Tables}
use Rattle.flight_history.specs.declared.entry.Entry.{Entry}
use Rattle.flight_state.specs.declared.state.FlightState.{FlightState}
use Rattle.http_wire.specs.Requests.{Request}
use Rattle.http_wire.specs.Connection as wire
use Rattle.http_wire.specs.declared.refusals.Refusal.{Refusal}
use Rattle.desk_fleet.specs.Fleet.{IsFleet}
use Rattle.desk_fleet.specs.declared.fault.RefusedFile.{RefusedFile}
use Rattle.desk_fleet.proofs.OneFleet.{one-fleet, fleet-not_refused, one-refused}
use Rattle.desk_service.specs.Service.{most_requests, requests_of}
use Rattle.editions.specs.Starting.{IsRefusedStart}
use Rattle.editions.specs.declared.starting.StartFault.{StartFault}
use Rattle.editions.specs.declared.starting.StartFault.TheVariants as start
use Rattle.desk_run.specs.Faults.{IsNotOpened, HaveRefusedFile, ReportsFile}
use Rattle.desk_run.specs.Runs.{Line, IsRunOf}
use Rattle.desk_run.specs.Servable.{CanOpen, IsUnrefused}
use Rattle.desk_run.specs.declared.fault.DeskFault.{DeskFault}
use Rattle.desk_run.specs.declared.fault.DeskFault.TheVariants.{Fleet, Unread, Keeper, BadTable, TooMany, NoMemory}
use Rattle.desk_http.specs.declared.ending.ConnEnd.TheVariants as end

-- A file is refused -----------------------------------------------------------------------------

pub refused-no_fleet : (exposed : Option Files) (names : List (List ℕ)) (fleet : List Craft) (file : RefusedFile) → HaveRefusedFile exposed names file
    → IfSome exposed (λ files. IsFleet files names fleet) → ⊥
refused-no_fleet None names fleet file refused of_files = refused
refused-no_fleet (Some files) names fleet file refused of_files = fleet-not_refused files names fleet file of_files refused

refused-once : (exposed : Option Files) (names : List (List ℕ)) (held : Option Tables) (a b : RefusedFile) → HaveRefusedFile exposed names b
    → IsNotOpened exposed names held (Fleet a) → a ≡ b
refused-once None names held a b refused cause = absurd refused
refused-once (Some files) names held a b refused cause = one-refused files names a b cause refused

-- a refused file is what a desk is not opened for, unless a file could not be read or memory ran out
pub refused-reported : (exposed : Option Files) (names : List (List ℕ)) (held : Option Tables) (file : RefusedFile) (fault : DeskFault)
    → HaveRefusedFile exposed names file → IsNotOpened exposed names held fault → ReportsFile file fault
refused-reported exposed names held file (Fleet reported) refused cause = refused-once exposed names held reported file refused cause
refused-reported exposed names held file Unread refused cause = tt
refused-reported exposed names held file Keeper refused cause = refused-no_fleet exposed names cause.fleet file refused cause.of_files
refused-reported exposed names held file (BadTable key) refused cause = refused-no_fleet exposed names cause.fleet file refused cause.of_files
refused-reported exposed names held file TooMany refused cause = refused-no_fleet exposed names cause.fleet file refused cause.of_files
refused-reported exposed names held file NoMemory refused cause = tt

-- An office can be opened -------------------------------------------------------------------------

same-start : (exposed : Option Files) (names : List (List ℕ)) (held : Option Tables) (fleet other : List Craft) (fault : StartFault)
    → IsSomeAnd exposed (λ files. IsFleet files names fleet) → IfSome exposed (λ files. IsFleet files names other)
    → IsRefusedStart other held fault → IsRefusedStart fleet held fault
same-start None names held fleet other fault described of_files refused = absurd described
same-start (Some files) names held fleet other fault described of_files refused =
    subst (λ fleet. IsRefusedStart fleet held fault) (one-fleet files names other fleet of_files described) refused

fleet-unrefused : (exposed : Option Files) (names : List (List ℕ)) (held : Option Tables) (fleet : List Craft) (file : RefusedFile)
    → IsSomeAnd exposed (λ files. IsFleet files names fleet) → IsNotOpened exposed names held (Fleet file) → ⊥
fleet-unrefused None names held fleet file described cause = described
fleet-unrefused (Some files) names held fleet file described cause = fleet-not_refused files names fleet file described cause

module _ (exposed : Option Files) (names : List (List ℕ)) (held : Option Tables) (can : CanOpen exposed names held) where
  pub servable-fleet : (file : RefusedFile) → IsNotOpened exposed names held (Fleet file) → ⊥
  servable-fleet file cause = fleet-unrefused exposed names held can.fleet file can.described cause

  pub servable-right : (key : List ℕ) → IsNotOpened exposed names held (BadTable key) → ⊥
  servable-right key cause = can.starts.right key (same-start exposed names held can.fleet cause.fleet (start.BadTable key) can.described cause.of_files cause.refused)

  pub servable-few : IsNotOpened exposed names held TooMany → ⊥
  servable-few cause = can.starts.few (same-start exposed names held can.fleet cause.fleet start.TooMany can.described cause.of_files cause.refused)

heard-unrefused : (input : Option (List ℕ)) (requests : List Request) (reason : Refusal) → IsSomeAnd input IsUnrefused
    → IfSome input (λ bytes. (left : List ℕ) × wire.AreRequests most_requests bytes requests (wire.RefusedFor reason) left) → ⊥
heard-unrefused None requests reason unrefused asked = unrefused
heard-unrefused (Some bytes) requests reason unrefused asked = unrefused requests reason asked.0 asked.1

module _ (exposed : Option Files) (names : List (List ℕ)) (held held' : Option Tables) (faults faults' : ℕ) (before after : Line) (opening : List FlightState) (history : List Entry) where
  -- a run whose input is not refused does not end as refused
  pub unrefused-ends : (reason : Refusal) → IsSomeAnd before.input IsUnrefused → IsRunOf exposed names held held' faults faults' before after (end.Refused reason) opening history → ⊥
  unrefused-ends reason unrefused run =
      let served = run.served.served.served in
      heard-unrefused before.input (requests_of served.exchanges) reason unrefused served.ends.asked

  pub read-failed : IsRunOf exposed names held held' faults faults' before after end.ReadFault opening history → Rose before.failed_reads after.failed_reads
  read-failed run = run.served.served.served.ends.failed

  pub write-failed : IsRunOf exposed names held held' faults faults' before after end.WriteFault opening history → Rose before.failed_writes after.failed_writes
  write-failed run = run.served.served.served.ends.failed
