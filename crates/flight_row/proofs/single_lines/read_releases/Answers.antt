use Rattle.std.proofs.lemmas.Option.{IfSome_then}
use Rattle.text_lines.proofs.NameLemmas.{none_then}
use Rattle.flight_row.proofs.StageLemmas.{least-once, once-least}
use Rattle.flight_row.proofs.single_lines.read_releases.Goals as goal

pub returns-clause-found : goal.returns-clause-found
returns-clause-found c =
    let read = rw c.first_releases.ensures at c.read_fields.ensures.found in
    IfSome_then c.read_fields.result read (λ n h. (record { few = h.0.1; some = least-once c.args.stage n h.0.0 }, h.1))

pub returns-clause-none : goal.returns-clause-none
returns-clause-none c =
    let read = rw c.first_releases.ensures at c.read_fields.ensures.none in
    none_then c.read_fields.result (λ none n s e. none n (once-least c.args.stage n s.some, s.few) e) read
