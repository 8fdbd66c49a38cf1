use Rattle.std.proofs.lemmas.Result.{err_from_is_err_and}
use Rattle.stop_text.specs.StopRefusals.IsRefusedStops.{by_lines}
use Rattle.stop_text.proofs.LoadLemmas.{load_read, load_refused, load_complete, right_lines}
use Rattle.stop_text.proofs.reader.read_stops.Goals as goal

pub returns-in_err-read_parts-clause-refused : goal.returns-in_err-read_parts-clause-refused
returns-in_err-read_parts-clause-refused c =
    let p = err_from_is_err_and c.from_residual.result c.from_residual.ensures.1 in
    rw (p.1, p.2) (by_lines c.in_err-read_parts.field-0.0 c.in_err-read_parts.ensures.refused)

pub returns-in_err-read_parts-clause-complete : goal.returns-in_err-read_parts-clause-complete
returns-in_err-read_parts-clause-complete c =
    let p = err_from_is_err_and c.from_residual.result c.from_residual.ensures.1 in
    rw (p.1, p.2) (λ file s lawful stops. right_lines c.args.text.now file c.in_err-read_parts.field-0.0 s c.in_err-read_parts.ensures.refused)

pub returns-clause-read : goal.returns-clause-read
returns-clause-read c =
    let read = c.in_ok-read_parts.ensures.read in
    load_read c.args.text.now read.0 read.1 c.load_of.result (c.load_of.ensures read.0 read.2)

pub returns-clause-refused : goal.returns-clause-refused
returns-clause-refused c =
    let read = c.in_ok-read_parts.ensures.read in
    load_refused c.args.text.now read.0 read.1 c.load_of.result (c.load_of.ensures read.0 read.2)

pub returns-clause-complete : goal.returns-clause-complete
returns-clause-complete c =
    let read = c.in_ok-read_parts.ensures.read in
    load_complete c.args.text.now read.0 read.1 c.load_of.result (c.load_of.ensures read.0 read.2)
