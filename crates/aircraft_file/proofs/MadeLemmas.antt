-- what a call returned before its error was mapped
use Rattle.std.proofs.Common.{◌≡◌, List, Result, Ok, Err, IfErr, MatchResult}
use Rattle.fuel_table.specs.declared.row.FuelRow.{FuelRow}
use Rattle.fuel_table.specs.declared.FuelFault.{FuelFault}
use Rattle.fuel_table.specs.Refusal as fuel
use Rattle.hold_limits.specs.Faults.{IsLawfulHold}
use Rattle.aircraft_file.specs.declared.fault.FileFault.{FileFault}
use Rattle.aircraft_file.specs.declared.fault.FileFault.TheVariants.{Fuel}
use Rattle.aircraft_file.specs.Craft.{Craft}
use Rattle.aircraft_file.specs.Lawful.{AreEnvelopes, IsRefused, envelopes_in}

pub ok_before : {T E : Type 0} (F : Type 0) (r : Result T E) (made : T) → MatchResult r (λ (x : T). let ok : Result T F = Ok made in ok ≡ Ok x) (λ e. ⊥) → r ≡ Ok made
ok_before F (Ok x) made is = let same : x ≡ made = cc in cc
ok_before F (Err e) made is = absurd is

-- a fuel table's fault as the file's
pub fuel_refused : (r : Result (List FuelRow) FuelFault) (fault : FileFault) (craft : Craft) → IsLawfulHold craft.hold → AreEnvelopes (envelopes_in craft)
    → MatchResult r (λ (rows : List FuelRow). let told : Result (List FuelRow) FileFault = Err fault in told ≡ Ok rows) (λ first. fault ≡ Fuel first)
    → IfErr r (λ first. fuel.IsRefusedFor first craft.fuel) → IsRefused fault craft
fuel_refused (Ok rows) fault craft hold envelopes told refused = absurd (cc)
fuel_refused (Err first) fault craft hold envelopes told refused = rw told (hold, envelopes, refused)
