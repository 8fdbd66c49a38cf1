use Rattle.std.proofs.Common.{rules, refl}
use Rattle.aircraft_file.specs.declared.fault.FileFault.{FileFault}
use Rattle.std.proofs.lemmas.Result.{err_from_is_err_and}
use Rattle.aircraft_file.specs.Parts.{craft_in_parts}
use Rattle.aircraft_file.proofs.MadeLemmas.{ok_before, fuel_refused}
use Rattle.aircraft_file.proofs.aircraft.aircraft_of.Goals as goal

pub returns-in_err-fuel-clause-refused : goal.returns-in_err-fuel-clause-refused
returns-in_err-fuel-clause-refused c =
    let hold = ok_before FileFault c.hold_of.result c.in_ok-hold.hold c.in_ok-hold.ensures.cases in
    let envelopes = ok_before FileFault c.envelopes_of.result c.in_ok-envelopes.envelopes c.in_ok-envelopes.ensures.cases in
    let lay = rw hold at c.hold_of.ensures.made in
    let fine = rw hold at c.hold_of.ensures.lawful in
    let outlines = rw envelopes at c.envelopes_of.ensures.made in
    let lawful = rw envelopes at c.envelopes_of.ensures.lawful in
    let p = err_from_is_err_and c.from_residual-in_err-fuel.result c.from_residual-in_err-fuel.ensures.1 in
    rw (p.1, p.2) (fuel_refused c.new.result c.in_err-fuel.field-0.0 (craft_in_parts c.args.parts) (record { right = rw lay at fine; spelled = c.requires.hold }) (rw outlines at lawful) c.in_err-fuel.ensures.cases c.new.ensures.refused)

pub returns-in-Some-clause-refused : goal.returns-in-Some-clause-refused
returns-in-Some-clause-refused c =
    let hold = ok_before FileFault c.hold_of.result c.in_ok-hold.hold c.in_ok-hold.ensures.cases in
    let envelopes = ok_before FileFault c.envelopes_of.result c.in_ok-envelopes.envelopes c.in_ok-envelopes.ensures.cases in
    let fuel = ok_before FileFault c.new.result c.in_ok-fuel.fuel c.in_ok-fuel.ensures.cases in
    let lay = rw hold at c.hold_of.ensures.made in
    let fine = rw hold at c.hold_of.ensures.lawful in
    let outlines = rw envelopes at c.envelopes_of.ensures.made in
    let lawful = rw envelopes at c.envelopes_of.ensures.lawful in
    let rows = rw fuel at c.new.ensures.ok in
    let table = rw fuel at c.new.ensures.lawful in
    let short = c.in-Some.ensures.short in
    search rules

pub invariant_of-result : goal.invariant_of-result
invariant_of-result c =
    let hold = ok_before FileFault c.hold_of.result c.in_ok-hold.hold c.in_ok-hold.ensures.cases in
    let envelopes = ok_before FileFault c.envelopes_of.result c.in_ok-envelopes.envelopes c.in_ok-envelopes.ensures.cases in
    let fuel = ok_before FileFault c.new.result c.in_ok-fuel.fuel c.in_ok-fuel.ensures.cases in
    let lay = rw hold at c.hold_of.ensures.made in
    let right = rw hold at c.hold_of.ensures.lawful in
    let outlines = rw envelopes at c.envelopes_of.ensures.made in
    let lawful = rw envelopes at c.envelopes_of.ensures.lawful in
    let rows = rw fuel at c.new.ensures.ok in
    let table = rw fuel at c.new.ensures.lawful in
    record {
      limits = rw (lay, outlines, rows) c.requires;
      hold = record { right = right; spelled = rw lay c.requires.hold };
      envelopes = lawful;
      fuel = table;
      spans = c.in_default.ensures.none;
    }

pub returns-clause-made : goal.returns-clause-made
returns-clause-made c =
    let hold = ok_before FileFault c.hold_of.result c.in_ok-hold.hold c.in_ok-hold.ensures.cases in
    let envelopes = ok_before FileFault c.envelopes_of.result c.in_ok-envelopes.envelopes c.in_ok-envelopes.ensures.cases in
    let fuel = ok_before FileFault c.new.result c.in_ok-fuel.fuel c.in_ok-fuel.ensures.cases in
    let lay = rw hold at c.hold_of.ensures.made in
    let outlines = rw envelopes at c.envelopes_of.ensures.made in
    let rows = rw fuel at c.new.ensures.ok in
    rw (lay, outlines, rows) refl

pub returns-clause-lawful : goal.returns-clause-lawful
returns-clause-lawful c =
    let hold = ok_before FileFault c.hold_of.result c.in_ok-hold.hold c.in_ok-hold.ensures.cases in
    let envelopes = ok_before FileFault c.envelopes_of.result c.in_ok-envelopes.envelopes c.in_ok-envelopes.ensures.cases in
    let fuel = ok_before FileFault c.new.result c.in_ok-fuel.fuel c.in_ok-fuel.ensures.cases in
    let lay = rw hold at c.hold_of.ensures.made in
    let right = rw hold at c.hold_of.ensures.lawful in
    let outlines = rw envelopes at c.envelopes_of.ensures.made in
    let lawful = rw envelopes at c.envelopes_of.ensures.lawful in
    let rows = rw fuel at c.new.ensures.ok in
    let table = rw fuel at c.new.ensures.lawful in
    record {
      limits = rw (lay, outlines, rows) c.requires;
      hold = record { right = right; spelled = rw lay c.requires.hold };
      envelopes = lawful;
      fuel = table;
      spans = c.in_default.ensures.none;
    }
