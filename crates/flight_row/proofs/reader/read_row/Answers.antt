use Rattle.std.proofs.Common.{ap, sym}
use Rattle.std.proofs.lemmas.Result.{err_from_is_err_and}
use Rattle.flight_row.specs.Refusals.{row_fault}
use Rattle.flight_row.specs.Refusals.IsRefused.{wrong_lines, no_aircraft, no_memory}
use Rattle.flight_row.proofs.PlanLemmas.{names_differ}
use Rattle.flight_row.proofs.RowParts.{spelled_has_no_fault}
use Rattle.flight_row.proofs.LoadLemmas.{reads_once, no_reads, kept_row, renewed_row}
use Rattle.flight_row.proofs.reader.read_row.Goals as goal

pub returns-in_err-row-clause-refused : goal.returns-in_err-row-clause-refused
returns-in_err-row-clause-refused c =
    let p = err_from_is_err_and c.from_residual.result c.from_residual.ensures.1 in
    rw (p.1, p.2) (wrong_lines c.in_err-row.field-0.0 c.in_err-row.ensures.refused)

pub returns-in_err-row-clause-complete : goal.returns-in_err-row-clause-complete
returns-in_err-row-clause-complete c =
    let p = err_from_is_err_and c.from_residual.result c.from_residual.ensures.1 in
    rw (p.1, p.2) (λ s reads. ap row_fault (spelled_has_no_fault reads.version c.args.text.now reads.row c.in_err-row.field-0.0 reads.spells c.in_err-row.ensures.refused))

pub returns-in_default-clause-refused : goal.returns-in_default-clause-refused
returns-in_default-clause-refused c =
    let spells = c.in_ok-row.ensures.read in
    no_aircraft spells.0 c.in_ok-row.row spells.1 (sym c.in_default.ensures.found)

pub returns-in_default-clause-complete : goal.returns-in_default-clause-complete
returns-in_default-clause-complete c =
    let spells = c.in_ok-row.ensures.read in
    λ s reads. absurd (no_reads c.args.fleet.now c.args.text.now spells.0 c.in_ok-row.row s spells.1 (sym c.in_default.ensures.found) reads)

pub loaded-requires : goal.loaded-requires
loaded-requires c =
    let spelled = c.in_ok-row.ensures.read.1.spelled in
    record { base = spelled.base; changes = spelled.changes.can_be_made; edition = spelled.edition.1; plan = spelled.plan }

pub returns-in_err-loaded-clause-refused : goal.returns-in_err-loaded-clause-refused
returns-in_err-loaded-clause-refused c =
    let p = err_from_is_err_and c.from_residual-in_err-loaded.result c.from_residual-in_err-loaded.ensures.1 in
    rw (p.1, p.2) no_memory

pub returns-clause-read : goal.returns-clause-read
returns-clause-read c =
    let spells = c.in_ok-row.ensures.read in
    record { version = spells.0; row = c.in_ok-row.row; spells = spells.1; aircraft = c.in-Some.a.now; found = sym c.in-Some.ensures.found; loaded = c.in_ok-loaded.ensures }

pub returns-clause-complete : goal.returns-clause-complete
returns-clause-complete c =
    let spells = c.in_ok-row.ensures.read in
    λ s reads. reads_once c.args.fleet.now c.args.text.now spells.0 c.in_ok-row.row c.in-Some.a.now c.in_ok-loaded.field-0 s (names_differ c.in-Some.a.now (c.in-Some.ensures.lawful c.in-Some.a.now (sym c.in-Some.ensures.found))) spells.1 (sym c.in-Some.ensures.found) c.in_ok-loaded.ensures reads

pub returns-clause-kept : goal.returns-clause-kept
returns-clause-kept c =
    let spells = c.in_ok-row.ensures.read in
    λ b other. kept_row c.args.fleet.now spells.0 c.in_ok-row.row c.in-Some.a.now b c.in_ok-loaded.field-0 spells.1.spelled (sym c.in-Some.ensures.found) c.in_ok-loaded.ensures other

pub returns-clause-renewed : goal.returns-clause-renewed
returns-clause-renewed c =
    let spells = c.in_ok-row.ensures.read in
    λ b other. renewed_row c.args.fleet.now spells.0 c.in_ok-row.row c.in-Some.a.now b c.in_ok-loaded.field-0 spells.1.spelled (sym c.in-Some.ensures.found) c.in_ok-loaded.ensures other
